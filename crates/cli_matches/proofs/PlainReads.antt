-- What clap reads behind a command without options.
use Rattle.std.proofs.Common.{◌≡◌, true, false, ◌&&◌, List, [], ◌∷◌, Some, None, refl, ap, ap₂, ◌∙◌, codes}
use Rattle.std.specs.List.{list_all}
use Rattle.clap.specs.Simple.{Shape}
use Rattle.clap.specs.Takes.{default_passes, is_valid, level_passes, settle_passes, step_passes, turn_passes, walk_passes}
use Rattle.clap.specs.Walk.{Held, Row, Text, Walk, arg_by_index, finished, first_of, nothing_held, rows_after, to_positional, value, walk, walked}
use Rattle.clap.proofs.OnLiterals.{clap_on_literals}
use Rattle.cli_words.specs.Words.{Word, is_option}
use Rattle.cli_matches.specs.Definition.{demo_app, explain_app, file_app, find_app, merge_app, unwind_app}
use Rattle.cli_matches.specs.Matches.{SaysPair}
use Rattle.cli_matches.proofs.Built.{leaf_of}
use Rattle.cli_matches.proofs.Leaves.{at_idle, name_passes, name_walked}
use Rattle.cli_matches.proofs.OptionFacts.{text_row}

-- a name or a number is being read
abbrev holds : Text → Word → List Row → Held
holds place word rows = record { rows = rows; pending = Some (place, word ∷ []); skip = 0 }

-- no value is missing where the words end
abbrev Ends : Shape → Held → Type 0
Ends s h = (settle_passes s.rules s.args_override_self h && (list_all default_passes s.rules && is_valid s (finished s.rules h) false)) ≡ true

-- ---- one name or number

pub record AsksOne (s : Shape) (place : Text) : Type 0 where
  pub goes : (word : Word) → to_positional s.rules (arg_by_index s.rules 1) word (at_idle nothing_held 1) nothing_held ≡ at_idle (holds place word []) 2
  pub passes : step_passes s 1 nothing_held value ≡ true
  pub ends : (word : Word) → Ends s (holds place word [])
  pub reads : (word : Word) → first_of place (finished s.rules (holds place word [])) ≡ Some word

pub file_asks : (name : Text) → AsksOne (leaf_of (file_app name)) (codes "FILE")
unfolding clap_on_literals
file_asks name = record { goes = λ word. refl; passes = refl; ends = λ word. refl; reads = λ word. refl }

pub demo_asks : AsksOne (leaf_of demo_app) (codes "N")
unfolding clap_on_literals
demo_asks = record { goes = λ word. refl; passes = refl; ends = λ word. refl; reads = λ word. refl }

pub explain_asks : AsksOne (leaf_of explain_app) (codes "TOPIC")
unfolding clap_on_literals
explain_asks = record { goes = λ word. refl; passes = refl; ends = λ word. refl; reads = λ word. refl }

-- or none, where it may be left out
pub record AsksMaybe (s : Shape) (place : Text) : Type 0 where
  pub passes_alone : level_passes s [] nothing_held [] false ≡ true
  pub reads_none : first_of place (rows_after s.rules [] []) ≡ None

pub explain_alone : AsksMaybe (leaf_of explain_app) (codes "TOPIC")
unfolding clap_on_literals walk_passes
explain_alone = record { passes_alone = refl; reads_none = refl }

module _ (s : Shape) (place : Text) (asks : AsksOne s place) (word : Word) (e : is_option word ≡ false) where
  one_walk : walk s.rules [] nothing_held (word ∷ []) ≡ at_idle (holds place word []) 2
  one_walk = name_walked s nothing_held 1 word e ∙ asks.goes word

  pub one_level : level_passes s [] nothing_held (word ∷ []) false ≡ true
  unfolding walk_passes
  one_level =
      ap₂ (λ t (w : Walk). (t && true) && (settle_passes s.rules s.args_override_self w.held && (list_all default_passes s.rules && is_valid s (finished s.rules w.held) false)))
      (name_passes s nothing_held 1 word e ∙ asks.passes) one_walk ∙ asks.ends word

  pub one_found : first_of place (rows_after s.rules [] (word ∷ [])) ≡ Some word
  one_found = ap (λ (w : Walk). first_of place (finished s.rules w.held)) one_walk ∙ asks.reads word

-- ---- two

pub record AsksTwo (s : Shape) (first second : Text) : Type 0 where
  pub goes : (word : Word) → to_positional s.rules (arg_by_index s.rules 1) word (at_idle nothing_held 1) nothing_held ≡ at_idle (holds first word []) 2
  pub goes_on : (word other : Word)
      → to_positional s.rules (arg_by_index s.rules 2) other (at_idle (holds first word []) 2) (holds first word []) ≡ at_idle (holds second other (text_row s first word ∷ [])) 3
  pub passes : step_passes s 1 nothing_held value ≡ true
  pub passes_on : (word : Word) → step_passes s 2 (holds first word []) value ≡ true
  pub ends : (word other : Word) → Ends s (holds second other (text_row s first word ∷ []))
  pub reads : (word other : Word) → SaysPair (finished s.rules (holds second other (text_row s first word ∷ []))) first second word other

pub unwind_asks : AsksTwo (leaf_of unwind_app) (codes "FILE") (codes "IMAGE")
unfolding clap_on_literals
unwind_asks = record { goes = λ word. refl; goes_on = λ word other. refl; passes = refl; passes_on = λ word. refl; ends = λ word other. refl; reads = λ word other. (refl, refl) }

pub merge_asks : AsksTwo (leaf_of merge_app) (codes "LAYOUT") (codes "OUT")
unfolding clap_on_literals
merge_asks = record { goes = λ word. refl; goes_on = λ word other. refl; passes = refl; passes_on = λ word. refl; ends = λ word other. refl; reads = λ word other. (refl, refl) }

pub find_asks : AsksTwo (leaf_of find_app) (codes "TABLE") (codes "ADDR")
unfolding clap_on_literals
find_asks = record { goes = λ word. refl; goes_on = λ word other. refl; passes = refl; passes_on = λ word. refl; ends = λ word other. refl; reads = λ word other. (refl, refl) }

module _ (s : Shape) (first second : Text) (asks : AsksTwo s first second) (word other : Word) (e : is_option word ≡ false) (f : is_option other ≡ false) where
  begun : walked s.rules [] (at_idle nothing_held 1) word ≡ at_idle (holds first word []) 2
  begun = name_walked s nothing_held 1 word e ∙ asks.goes word

  two_walk : walk s.rules [] nothing_held (word ∷ (other ∷ [])) ≡ at_idle (holds second other (text_row s first word ∷ [])) 3
  two_walk = ap (λ w. walked s.rules [] w other) begun ∙ name_walked s (holds first word []) 2 other f ∙ asks.goes_on word other

  both_pass : (turn_passes s [] (at_idle nothing_held 1) word && (turn_passes s [] (walked s.rules [] (at_idle nothing_held 1) word) other && true)) ≡ true
  both_pass =
      ap₂ (λ t w. t && (turn_passes s [] w other && true)) (name_passes s nothing_held 1 word e ∙ asks.passes) begun
      ∙ ap (λ t. t && true) (name_passes s (holds first word []) 2 other f ∙ asks.passes_on word)

  pub two_level : level_passes s [] nothing_held (word ∷ (other ∷ [])) false ≡ true
  unfolding walk_passes
  two_level =
      ap₂ (λ t (w : Walk). t && (settle_passes s.rules s.args_override_self w.held && (list_all default_passes s.rules && is_valid s (finished s.rules w.held) false))) both_pass two_walk
      ∙ asks.ends word other

  pub two_found : SaysPair (rows_after s.rules [] (word ∷ (other ∷ []))) first second word other
  two_found = (
    ap (λ (w : Walk). first_of first (finished s.rules w.held)) two_walk ∙ (asks.reads word other).0,
    ap (λ (w : Walk). first_of second (finished s.rules w.held)) two_walk ∙ (asks.reads word other).1,
  )
