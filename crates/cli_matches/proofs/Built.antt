-- The definition as clap builds it, and where its walk of the words stops.
use Rattle.std.proofs.Common.{◌≡◌, true, false, ◌&&◌, List, [], ◌∷◌, ◌++◌, Some, is_some, refl, sym, ap, ap₂, ◌∙◌, fold, codes, append_assoc, append-nil}
use Rattle.std.specs.List.{list_all}
use Rattle.clap.specs.Simple.{App, Shape, built_leaf, entered, inherited, names_of, subcommand_of}
use Rattle.clap.specs.Takes.{default_passes, entered_passes, is_valid, level_passes, settle_passes, takes, turn_passes, walk_passes}
use Rattle.clap.specs.Walk.{Names, Text, Walk, finished, nothing_held, rows_after, walk, walk_from, walked}
use Rattle.clap.specs.Words.{built, is_simple}
use Rattle.clap.proofs.OnLiterals.{clap_on_literals}
use Rattle.cli_matches.specs.Definition.{check_app, demo_app, entry_app, explain_app, file_app, find_app, line_app, merge_app, rewriting_app, show_app, sites_app, unwind_app}

abbrev pub top : Shape
top = (built line_app).top

abbrev pub names : Names
names = names_of (built line_app)

pub line_is_simple : is_simple line_app ≡ true
line_is_simple = refl

-- behind a command's word each word is one of the command's own
stopped_stays : (w : Walk) (name : Text) (seen words : List Text)
    → fold (walked top.rules names) (record w { stopped = Some (name, seen) }) words ≡ record w { stopped = Some (name, seen ++ words) }
unfolding walked
stopped_stays w name seen [] = ap (λ all. record w { stopped = Some (name, all) }) (sym (append-nil seen))
stopped_stays w name seen (word ∷ words) =
    stopped_stays w name (seen ++ word ∷ []) words ∙ ap (λ all. record w { stopped = Some (name, all) }) (append_assoc seen (word ∷ []) words)

stopped_passes : (w : Walk) (name : Text) (seen words : List Text) → walk_passes top names (record w { stopped = Some (name, seen) }) words ≡ true
unfolding walked walk_passes
stopped_passes w name seen [] = refl
stopped_passes w name seen (word ∷ words) = stopped_passes w name (seen ++ word ∷ []) words

abbrev pub stopped_at : Text → List Text → Walk
stopped_at name words = let w = walk_from nothing_held in record w { stopped = Some (name, words) }

-- a command of the line, as clap builds it
abbrev pub leaf_of : App → Shape
leaf_of command = built_leaf (inherited top command.top)

-- clap enters the command of this name
pub record Enters (name : Text) (s : Shape) : Type 0 where
  pub met : walked top.rules names (walk_from nothing_held) name ≡ stopped_at name []
  pub passes : turn_passes top names (walk_from nothing_held) name ≡ true
  pub finds : (words : List Text) → entered (built line_app) (Some (name, words)) ≡ Some (name, rows_after s.rules [] words)
  pub levels : (words : List Text) → entered_passes (built line_app) (Some (name, words)) ≡ level_passes s [] nothing_held words false

pub check_enters : Enters (codes "check") (leaf_of check_app)
unfolding clap_on_literals
check_enters = record { met = refl; passes = refl; finds = λ words. refl; levels = λ words. refl }

pub dump_enters : Enters (codes "dump") (leaf_of (file_app (codes "dump")))
unfolding clap_on_literals
dump_enters = record { met = refl; passes = refl; finds = λ words. refl; levels = λ words. refl }

pub unwind_enters : Enters (codes "unwind") (leaf_of unwind_app)
unfolding clap_on_literals
unwind_enters = record { met = refl; passes = refl; finds = λ words. refl; levels = λ words. refl }

pub sites_enters : Enters (codes "sites") (leaf_of sites_app)
unfolding clap_on_literals
sites_enters = record { met = refl; passes = refl; finds = λ words. refl; levels = λ words. refl }

pub list_enters : Enters (codes "list") (leaf_of (file_app (codes "list")))
unfolding clap_on_literals
list_enters = record { met = refl; passes = refl; finds = λ words. refl; levels = λ words. refl }

pub entry_enters : Enters (codes "entry") (leaf_of entry_app)
unfolding clap_on_literals
entry_enters = record { met = refl; passes = refl; finds = λ words. refl; levels = λ words. refl }

pub cfi_enters : Enters (codes "cfi") (leaf_of (rewriting_app (codes "cfi")))
unfolding clap_on_literals
cfi_enters = record { met = refl; passes = refl; finds = λ words. refl; levels = λ words. refl }

pub cfa_enters : Enters (codes "cfa") (leaf_of (file_app (codes "cfa")))
unfolding clap_on_literals
cfa_enters = record { met = refl; passes = refl; finds = λ words. refl; levels = λ words. refl }

pub merge_enters : Enters (codes "merge") (leaf_of merge_app)
unfolding clap_on_literals
merge_enters = record { met = refl; passes = refl; finds = λ words. refl; levels = λ words. refl }

pub find_enters : Enters (codes "find") (leaf_of find_app)
unfolding clap_on_literals
find_enters = record { met = refl; passes = refl; finds = λ words. refl; levels = λ words. refl }

pub show_enters : Enters (codes "show") (leaf_of show_app)
unfolding clap_on_literals
show_enters = record { met = refl; passes = refl; finds = λ words. refl; levels = λ words. refl }

pub explain_enters : Enters (codes "explain") (leaf_of explain_app)
unfolding clap_on_literals
explain_enters = record { met = refl; passes = refl; finds = λ words. refl; levels = λ words. refl }

pub demo_enters : Enters (codes "demo") (leaf_of demo_app)
unfolding clap_on_literals
demo_enters = record { met = refl; passes = refl; finds = λ words. refl; levels = λ words. refl }

module _ (name : Text) (s : Shape) (e : Enters name s) (words : List Text) where
  stops : walk top.rules names nothing_held (name ∷ words) ≡ stopped_at name words
  stops = ap (λ w. fold (walked top.rules names) w words) e.met ∙ stopped_stays (walk_from nothing_held) name [] words

  walk_is_taken : walk_passes top names (walk_from nothing_held) (name ∷ words) ≡ true
  unfolding walk_passes
  walk_is_taken = ap₂ (λ t w. t && walk_passes top names w words) e.passes e.met ∙ stopped_passes (walk_from nothing_held) name [] words

  -- the subcommand of the line, with its matches
  pub line_finds : subcommand_of line_app (name ∷ words) ≡ Some (name, rows_after s.rules [] words)
  line_finds = ap (λ (w : Walk). entered (built line_app) w.stopped) stops ∙ e.finds words

  -- it takes the words if the command takes those behind its name
  pub line_takes : level_passes s [] nothing_held words false ≡ true → takes line_app (name ∷ words) ≡ true
  line_takes passes =
      ap₂ (λ (w : Walk) p. entered_passes (built line_app) w.stopped
      && (p && (settle_passes top.rules false w.held && (list_all default_passes top.rules && is_valid top (finished top.rules w.held) (is_some (entered (built line_app) w.stopped)))))) stops walk_is_taken
      ∙ ap₂ (λ a b. a && (true && (true && (true && is_valid top (finished top.rules nothing_held) (is_some b))))) (e.levels words ∙ passes) (e.finds words)
