-- What clap does at each word of a command that asks for IN and maybe OUT, and has options, some with a value.
use Rattle.std.proofs.Common.{◌≡◌, ◌⊎◌, ℕ, ◌+◌, Bool, true, false, cond, not, ◌&&◌, ◌||◌, List, [], ◌∷◌, ◌++◌, Option, Some, None, option_and_then, is_some, refl, ap, subst, ◌∙◌, inl, inr, bytes_eq, codes}
use Rattle.std.specs.Option.{unwrap_or}
use Rattle.std.proofs.lemmas.Slice.Eq.{bytes_eq-Decides}
use Rattle.clap.specs.Simple.{Shape, new_rule}
use Rattle.clap.specs.Takes.{is_given, level_passes, settle_passes, turn_passes, walk_passes}
use Rattle.clap.specs.Walk.{Held, Row, Rule, Text, arg_by_id, finished, has_row, nothing_held, pushed, reacted, row_text, settled, used, walk, walked}
use Rattle.cli_words.specs.Words.{Word, is_option, is_same_option, value_after}
use Rattle.cli_matches.specs.Matches.{switch_text}
use Rattle.cli_matches.proofs.Leaves.{at_idle}
use Rattle.cli_matches.proofs.Rows.{look, set_row, with_defaults}

-- ---- the same of each text of a list

pub record Chain (X Y : Type 0) : Type 0 where
  pub first : X
  pub rest : Y

abbrev pub AllAre : (Text → Type 0) → List Text → Type 0
AllAre P [] = Unit {0}
AllAre P (name ∷ names) = Chain (P name) (AllAre P names)

pub all_from : (P Q : Text → Type 0) → ((name : Text) → P name → Q name) → (names : List Text) → AllAre P names → AllAre Q names
all_from P Q f [] all = tt
all_from P Q f (name ∷ names) all = record { first = f name all.first; rest = all_from P Q f names all.rest }

pub all_of_both : (P Q R : Text → Type 0) → ((name : Text) → P name → Q name → R name) → (names : List Text) → AllAre P names → AllAre Q names → AllAre R names
all_of_both P Q R f [] all both = tt
all_of_both P Q R f (name ∷ names) all both = record { first = f name all.first both.first; rest = all_of_both P Q R f names all.rest both.rest }

-- the text is one of these
abbrev pub IsIn : Text → List Text → Type 0
IsIn name [] = ⊥
IsIn name (other ∷ names) = (other ≡ name) ⊎ IsIn name names

pub all_at : (P : Text → Type 0) (name : Text) (names : List Text) → IsIn name names → AllAre P names → P name
all_at P name [] among all = absurd among
all_at P name (other ∷ names) (inl is) all = subst P is all.first
all_at P name (other ∷ names) (inr among) all = all_at P name names among all.rest

-- ---- rows

abbrev pub rule_named : Shape → Text → Rule
rule_named s name = unwrap_or (arg_by_id s.rules name) (new_rule name)

abbrev pub switch_row : Shape → Text → Row
switch_row s name = set_row (rule_named s name) (codes "true" ∷ [])

abbrev pub text_row : Shape → Text → Word → Row
text_row s name word = set_row (rule_named s name) (word ∷ [])

abbrev pub switched : Shape → Text → Bool → Option Row
switched s name given = cond given (Some (switch_row s name)) None

abbrev pub dashed : Text → Word
dashed name = 45 ∷ (45 ∷ name)

-- how a word begins that gives an option a value, and the whole word
abbrev pub start_of : Text → Word
start_of name = dashed name ++ codes "="

abbrev pub valued : Text → Word → Word
valued name value = start_of name ++ value

-- the rows that were held, with those of what was pending
abbrev pub rows_held : Shape → Held → List Row
rows_held s h = (settled s.rules h).rows

-- ---- the facts

-- an option that has no value, and another that has one, aren't taken for each other
pub record Apart (s : Shape) (name other : Text) : Type 0 where
  pub gives_no_value : is_some (value_after (start_of other) (dashed name)) ≡ false
  pub no_row : look other (switch_row s name ∷ []) ≡ None
  pub not_row : (value : Word) → look name (text_row s other value ∷ []) ≡ None
  pub not_word : (value : Word) → bytes_eq (valued other value) (dashed name) ≡ false

-- an option that has no value, beside these that have one
pub record HasSwitch (s : Shape) (values : List Text) (name : Text) : Type 0 where
  pub walks : (h : Held) (position : ℕ) → walked s.rules [] (at_idle h position) (dashed name) ≡ at_idle (reacted s.rules (rule_named s name) [] h) position
  pub passes : (h : Held) (position : ℕ) → turn_passes s [] (at_idle h position) (dashed name) ≡ ((settle_passes s.rules false h && ((not (has_row name (rows_held s h)) || false) && true)) && true)
  pub is_used : (rows : List Row) → has_row name rows ≡ false → used (rule_named s name) [] rows ≡ rows ++ switch_row s name ∷ []
  pub settles : (h : Held) → settle_passes s.rules false (reacted s.rules (rule_named s name) [] h) ≡ true
  pub rows_are : (h : Held) → rows_held s (reacted s.rules (rule_named s name) [] h) ≡ used (rule_named s name) [] (rows_held s h)
  pub id : (rule_named s name).id ≡ name
  pub no_input : look (codes "IN") (switch_row s name ∷ []) ≡ None
  pub no_output : look (codes "OUT") (switch_row s name ∷ []) ≡ None
  pub not_input : (word : Word) → look name (text_row s (codes "IN") word ∷ []) ≡ None
  pub not_output : (word : Word) → look name (text_row s (codes "OUT") word ∷ []) ≡ None
  pub apart : AllAre (Apart s name) values
  pub says : (given : Bool) → option_and_then row_text (with_defaults name s.rules (switched s name given)) ≡ Some (switch_text given)

-- a name that the command asks for, which stands at a position
pub record HasPlace (s : Shape) (name : Text) (position : ℕ) : Type 0 where
  pub walks : (h : Held) (word : Word) → is_option word ≡ false → walked s.rules [] (at_idle h position) word ≡ at_idle (pushed name word (settled s.rules h)) (position + 1)
  pub passes : (h : Held) (word : Word) → is_option word ≡ false → settle_passes s.rules false h ≡ true → turn_passes s [] (at_idle h position) word ≡ true
  pub settles : (h : Held) (word : Word) → has_row name (rows_held s h) ≡ false → settle_passes s.rules false (pushed name word (settled s.rules h)) ≡ true
  pub rows_are : (h : Held) (word : Word) → has_row name (rows_held s h) ≡ false → rows_held s (pushed name word (settled s.rules h)) ≡ rows_held s h ++ text_row s name word ∷ []

-- an option that has a value, one of these
pub record HasValue (s : Shape) (values : List Text) (name : Text) : Type 0 where
  pub among : IsIn name values
  pub walks : (h : Held) (value : Word) (position : ℕ) → walked s.rules [] (at_idle h position) (valued name value) ≡ at_idle (reacted s.rules (rule_named s name) (value ∷ []) h) position
  pub passes : (h : Held) (value : Word) (position : ℕ) → turn_passes s [] (at_idle h position) (valued name value) ≡ ((settle_passes s.rules false h && ((not (has_row name (rows_held s h)) || false) && true)) && true)
  pub settles : (h : Held) (value : Word) → settle_passes s.rules false (reacted s.rules (rule_named s name) (value ∷ []) h) ≡ true
  pub rows_are : (h : Held) (value : Word) → has_row name (rows_held s h) ≡ false
      → rows_held s (reacted s.rules (rule_named s name) (value ∷ []) h) ≡ rows_held s h ++ text_row s name value ∷ []
  pub default : with_defaults name s.rules None ≡ None
  pub id : (rule_named s name).id ≡ name
  pub gives : (value : Word) → value_after (start_of name) (valued name value) ≡ Some value
  pub same : (value word : Word) → is_some (value_after (start_of name) word) ≡ true → is_same_option (valued name value) word ≡ true
  pub no_input : (value : Word) → look (codes "IN") (text_row s name value ∷ []) ≡ None
  pub no_output : (value : Word) → look (codes "OUT") (text_row s name value ∷ []) ≡ None
  pub not_input : (word : Word) → look name (text_row s (codes "IN") word ∷ []) ≡ None
  pub not_output : (word : Word) → look name (text_row s (codes "OUT") word ∷ []) ≡ None
  pub others : AllAre (λ other. bytes_eq name other ≡ false → (value : Word) → is_some (value_after (start_of other) (valued name value)) ≡ false) values

-- a command with these options, which asks for IN, and for OUT if it writes
pub record HasOptions (s : Shape) (writes : Bool) (values switches : List Text) : Type 0 where
  pub input : HasPlace s (codes "IN") 1
  pub output : writes ≡ true → HasPlace s (codes "OUT") 2
  pub input_id : (rule_named s (codes "IN")).id ≡ codes "IN"
  pub output_id : (rule_named s (codes "OUT")).id ≡ codes "OUT"
  pub input_default : with_defaults (codes "IN") s.rules None ≡ None
  pub output_default : with_defaults (codes "OUT") s.rules None ≡ None
  pub each : AllAre (HasSwitch s values) switches
  pub each_value : AllAre (HasValue s values) values
  pub level : (words : List Word) → let end = (walk s.rules [] nothing_held words).held in
      level_passes s [] nothing_held words false
      ≡ (walk_passes s [] (at_idle nothing_held 1) words && (settle_passes s.rules false end && (is_given (codes "IN") (finished s.rules end) && cond writes (is_given (codes "OUT") (finished s.rules end) && true) true)))

-- ---- the rows of these

pub look_own : (s : Shape) (name : Text) (word : Word) → (rule_named s name).id ≡ name → look name (text_row s name word ∷ []) ≡ Some (text_row s name word)
look_own s name word id = ap (λ b. cond b (Some (text_row s name word)) None) (ap (λ i. bytes_eq i name) id ∙ (bytes_eq-Decides name name).1 refl)

pub look_other : (s : Shape) (name other : Text) (word : Word) → (rule_named s name).id ≡ name → bytes_eq name other ≡ false → look other (text_row s name word ∷ []) ≡ None
look_other s name other word id apart = ap (λ b. cond b (Some (text_row s name word)) None) (ap (λ i. bytes_eq i other) id ∙ apart)

-- an option's row is that of itself alone
pub look_switch : (s : Shape) (name other : Text) → (rule_named s name).id ≡ name → look other (switch_row s name ∷ []) ≡ switched s other (bytes_eq (dashed name) (dashed other))
look_switch s name other id = ap (λ i. cond (bytes_eq i other) (Some (switch_row s name)) None) id ∙ go (bytes_eq name other) refl
  where
    go : (b : Bool) → bytes_eq name other ≡ b → cond b (Some (switch_row s name)) None ≡ switched s other b
    go true is = ap (λ n. Some (switch_row s n)) ((bytes_eq-Decides name other).0 is)
    go false is = refl
