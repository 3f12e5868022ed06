-- What clap reads behind a command that asks for IN and maybe OUT, and has options.
use Rattle.std.proofs.Common.{◌≡◌, ℕ, Bool, true, false, cond, ◌&&◌, List, [], ◌∷◌, Option, Some, None, codes, is_some, option_map, refl, ap, ap₂, subst, ◌∙◌, option_and_then, slice_get}
use Rattle.std.specs.Option.{option_map_or}
use Rattle.clap.specs.Facts.{explicit_source}
use Rattle.clap.specs.Simple.{Shape}
use Rattle.clap.specs.Takes.{level_passes}
use Rattle.clap.specs.Walk.{Held, Row, Rule, Text, first_of, nothing_held, row_text, rows_after, walk}
use Rattle.x86_map.specs.declared.map.Map.TheVariants.{Base, Whole}
use Rattle.cli_words.specs.declared.word.CommandWord.{CommandWord}
use Rattle.cli_words.specs.Grammar.{first_fault, map_in}
use Rattle.cli_words.specs.Words.{Word, gives, is_option_of, names_file, names_in, places_of, value_given}
use Rattle.cli_matches.specs.Matches.{SaysRewriting, SaysSwitch, is_asked}
use Rattle.cli_matches.proofs.Leaves.{at_idle}
use Rattle.cli_matches.proofs.OptionFacts.{AllAre, HasOptions, HasSwitch, HasValue, all_of_both, dashed, rows_held, start_of, switched, text_row}
use Rattle.cli_matches.proofs.OptionWalk.{Gives, Walks, is_own, places, ready_at_start, value_row, words_walk}
use Rattle.cli_matches.proofs.Rows.{look, look_finished, with_defaults}

-- an argument that is given keeps its row
kept_row : (id : Text) (rules : List Rule) (r : Row) → with_defaults id rules (Some r) ≡ Some r
kept_row id [] r = refl
kept_row id (rule ∷ rules) r = kept_row id rules r

-- the matches say these names
pub record SaysFiles (rows : List Row) (files : List Word) : Type 0 where
  pub input : first_of (codes "IN") rows ≡ slice_get files 0
  pub output : first_of (codes "OUT") rows ≡ slice_get files 1

-- the map that an option asks for
pub map_said : (rows : List Row) (words : List Word) → SaysSwitch rows (codes "all-opcodes") (gives (codes "--all-opcodes") words) → SaysSwitch rows (codes "all-opcodes") (is_asked (map_in words))
map_said rows words said = subst (SaysSwitch rows (codes "all-opcodes")) (asked (gives (codes "--all-opcodes") words)) said
  where
    asked : (b : Bool) → b ≡ is_asked (cond b Whole Base)
    asked true = refl
    asked false = refl

pub rewriting_said : (rows : List Row) (input output : Word) (words : List Word) → SaysFiles rows (input ∷ (output ∷ [])) → first_of (codes "names") rows ≡ names_file words
    → SaysSwitch rows (codes "all-opcodes") (gives (codes "--all-opcodes") words) → SaysRewriting rows input output (map_in words) (names_file words)
rewriting_said rows input output words files names opcodes = record { input_is = files.input; output_is = files.output; all_opcodes = map_said rows words opcodes; names_are = names }

module _ (s : Shape) (writes : Bool) (values switches : List Text) (facts : HasOptions s writes values switches) (command : CommandWord) (known : (word : Word) → is_option_of command word ≡ true → is_own values switches word ≡ true)
    (asks : places_of command ≡ places writes) (words : List Word) (right : first_fault command [] words ≡ None) where
  walks : Walks s values switches (at_idle nothing_held 1) words words
  walks = words_walk s writes values switches facts command known asks words [] nothing_held (ready_at_start s values switches) right

  abbrev end : Held
  end = (walk s.rules [] nothing_held words).held

  abbrev rows : List Row
  rows = rows_after s.rules [] words

  given : Gives s values switches words (rows_held s end)
  given = walks.ready.given

  found : (id : List ℕ) → look id rows ≡ with_defaults id s.rules (look id (rows_held s end))
  found id = look_finished id s.rules (rows_held s end)

  input_found : look (codes "IN") rows ≡ with_defaults (codes "IN") s.rules (option_map (text_row s (codes "IN")) (slice_get (names_in words) 0))
  input_found = found (codes "IN") ∙ ap (with_defaults (codes "IN") s.rules) given.input

  output_found : look (codes "OUT") rows ≡ with_defaults (codes "OUT") s.rules (option_map (text_row s (codes "OUT")) (slice_get (names_in words) 1))
  output_found = found (codes "OUT") ∙ ap (with_defaults (codes "OUT") s.rules) given.output

  abbrev first : Option Row → Option Word
  first = option_and_then (λ (r : Row). slice_get r.values 0)

  -- an argument without a default is said as it is given
  first_is : (id : Text) → with_defaults id s.rules None ≡ None → (word : Option Word) → first (with_defaults id s.rules (option_map (text_row s id) word)) ≡ word
  first_is id default None = ap first default
  first_is id default (Some word) = ap first (kept_row id s.rules (text_row s id word))

  pub files_said : SaysFiles rows (names_in words)
  files_said = record {
    input = ap first input_found ∙ first_is (codes "IN") facts.input_default (slice_get (names_in words) 0);
    output = ap first output_found ∙ first_is (codes "OUT") facts.output_default (slice_get (names_in words) 1);
  }

  -- each option that has a value
  pub each_value_said : AllAre (λ name. first_of name rows ≡ value_given (start_of name) words) values
  each_value_said = all_of_both (λ name. look name (rows_held s end) ≡ value_row s name words) (HasValue s values) (λ name. first_of name rows ≡ value_given (start_of name) words)
      (λ name is has. ap first (found name ∙ ap (with_defaults name s.rules) is) ∙ first_is name has.default (value_given (start_of name) words)) values given.each_value facts.each_value

  abbrev Said : Text → Type 0
  Said name = SaysSwitch rows name (gives (dashed name) words)

  -- each option that has no value
  pub each_said : AllAre Said switches
  each_said = all_of_both (λ name. look name (rows_held s end) ≡ switched s name (gives (dashed name) words)) (HasSwitch s values) Said
      (λ name is has. ap (option_and_then row_text) (found name ∙ ap (with_defaults name s.rules) is) ∙ has.says (gives (dashed name) words)) switches given.each facts.each

  -- the source of an argument that is given is the command line
  abbrev is_explicit : Option Row → Bool
  is_explicit found = option_map_or (λ (r : Row). explicit_source r.source) found false

  explicit_if : (id : Text) (word : Option Word) → look id rows ≡ with_defaults id s.rules (option_map (text_row s id) word) → is_some word ≡ true → is_explicit (look id rows) ≡ true
  explicit_if id None e is = cc
  explicit_if id (Some word) e is = ap is_explicit (e ∙ kept_row id s.rules (text_row s id word))

  pub line_passes : is_some (slice_get (names_in words) 0) ≡ true → cond writes (is_some (slice_get (names_in words) 1)) true ≡ true → level_passes s [] nothing_held words false ≡ true
  line_passes has_input has_output =
      facts.level words
      ∙ ap₂ (λ a b. a && (b && (is_explicit (look (codes "IN") rows) && cond writes (is_explicit (look (codes "OUT") rows) && true) true))) walks.passes walks.ready.settles
      ∙ ap (λ a. a && cond writes (is_explicit (look (codes "OUT") rows) && true) true) (explicit_if (codes "IN") _ input_found has_input)
      ∙ go writes has_output
    where
      go : (b : Bool) → cond b (is_some (slice_get (names_in words) 1)) true ≡ true → cond b (is_explicit (look (codes "OUT") rows) && true) true ≡ true
      go true has = ap (λ a. a && true) (explicit_if (codes "OUT") _ output_found has)
      go false has = refl
