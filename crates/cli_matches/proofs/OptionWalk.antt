-- clap's walk of the words behind a command that asks for IN and maybe OUT, and has options.
use Rattle.std.proofs.Common.{◌≡◌, ◌⊎◌, ℕ, ◌+◌, ◌<◌, Bool, true, false, cond, not, ◌&&◌, ◌||◌, List, [], ◌∷◌, ◌++◌, Option, Some, None, length, take, drop, find, fold, bytes_eq, codes, is_some, option_map, option_and_then, refl, sym, ap, ap₂, subst, ◌∙◌, inl, inr, arith, true≢false, append_assoc, append-nil, nat_le, slice_get}
use Rattle.std.specs.List.{list_any}
use Rattle.std.specs.Option.{option_or}
use Rattle.std.proofs.lemmas.Bool.Decides.{nat_tests}
use Rattle.std.proofs.lemmas.List.{take-append-drop}
use Rattle.std.proofs.lemmas.List.Elements.{filter-append}
use Rattle.std.proofs.lemmas.List.Folds.{find-append, list_any-append}
use Rattle.std.proofs.lemmas.Slice.Eq.{bytes_eq-Decides}
use Rattle.clap.specs.Simple.{Shape}
use Rattle.clap.specs.Takes.{settle_passes, turn_passes, walk_passes}
use Rattle.clap.specs.Walk.{Held, Row, Text, Walk, has_row, nothing_held, pushed, reacted, settled, walked}
use Rattle.cli_words.specs.declared.fault.UsageKind.{UsageKind}
use Rattle.cli_words.specs.declared.fault.UsageKind.TheVariants.{Empty, Extra, Repeated, UnknownOption}
use Rattle.cli_words.specs.declared.word.CommandWord.{CommandWord}
use Rattle.cli_words.specs.Grammar.{first_fault, name_fault, option_fault, or_else, word_fault}
use Rattle.cli_words.specs.Words.{Word, gives, is_option, is_option_of, is_same_option, names_in, places_of, value_after, value_given}
use Rattle.cli_matches.proofs.Leaves.{at_idle, no_option_is}
use Rattle.cli_matches.proofs.OptionFacts.{AllAre, Apart, HasPlace, HasOptions, HasSwitch, HasValue, all_at, all_from, all_of_both, dashed, look_other, look_own, look_switch, rows_held, rule_named, start_of, switch_row, switched, text_row, valued}
use Rattle.cli_matches.proofs.Rows.{has_row_look, look, neither}

-- ---- what the words so far have given

-- the row of the name at this place, counted from 0
abbrev pub place_row : Shape → Text → ℕ → List Word → Option Row
place_row s name place words = option_map (text_row s name) (slice_get (names_in words) place)

-- the row of an option's value
abbrev pub value_row : Shape → Text → List Word → Option Row
value_row s name words = option_map (text_row s name) (value_given (start_of name) words)

-- the rows are those that these words give
pub record Gives (s : Shape) (values switches : List Text) (words : List Word) (rows : List Row) : Type 0 where
  pub input : look (codes "IN") rows ≡ place_row s (codes "IN") 0 words
  pub output : look (codes "OUT") rows ≡ place_row s (codes "OUT") 1 words
  pub each : AllAre (λ name. look name rows ≡ switched s name (gives (dashed name) words)) switches
  pub each_value : AllAre (λ name. look name rows ≡ value_row s name words) values

-- one more word and its row
either_switched : (s : Shape) (name : Text) (a b : Bool) → option_or (switched s name a) (switched s name b) ≡ switched s name (a || (b || false))
either_switched s name true b = refl
either_switched s name false true = refl
either_switched s name false false = refl

one_more : (id : Text) (rows : List Row) (r : Row) → look id (rows ++ r ∷ []) ≡ option_or (look id rows) (look id (r ∷ []))
one_more id rows r = find-append (λ r. bytes_eq r.id id) rows (r ∷ [])

or_nothing : {X : Type 0} (o : Option X) → option_or o None ≡ o
or_nothing None = refl
or_nothing (Some x) = refl

same_row : (id : Text) (rows : List Row) (r : Row) → look id (r ∷ []) ≡ None → look id (rows ++ r ∷ []) ≡ look id rows
same_row id rows r none = one_more id rows r ∙ ap (option_or (look id rows)) none ∙ or_nothing (look id rows)

new_row : (id : Text) (rows : List Row) (r : Row) → look id rows ≡ None → look id (r ∷ []) ≡ Some r → look id (rows ++ r ∷ []) ≡ Some r
new_row id rows r none own = one_more id rows r ∙ ap₂ option_or none own

switch_next : (s : Shape) (words : List Word) (rows : List Row) (word : Word) (r : Row) (name : Text)
    → look name rows ≡ switched s name (gives (dashed name) words) → look name (r ∷ []) ≡ switched s name (bytes_eq word (dashed name))
    → look name (rows ++ r ∷ []) ≡ switched s name (gives (dashed name) (words ++ word ∷ []))
switch_next s words rows word r name before one =
    one_more name rows r ∙ ap₂ option_or before one ∙ either_switched s name (gives (dashed name) words) (bytes_eq word (dashed name))
    ∙ ap (switched s name) (sym (list_any-append (λ w. bytes_eq w (dashed name)) words (word ∷ [])))

-- the names so far, behind an option
names_stay : (words : List Word) (word : Word) → is_option word ≡ true → names_in (words ++ word ∷ []) ≡ names_in words
names_stay words word e =
    filter-append (λ w. not (is_option w)) words (word ∷ [])
    ∙ ap (λ b. names_in words ++ cond (not b) (word ∷ []) []) e ∙ append-nil (names_in words)

names_grow : (words : List Word) (word : Word) → is_option word ≡ false → names_in (words ++ word ∷ []) ≡ names_in words ++ word ∷ []
names_grow words word e = filter-append (λ w. not (is_option w)) words (word ∷ []) ∙ ap (λ b. names_in words ++ cond (not b) (word ∷ []) []) e

-- a word begins so
abbrev begins : Word → Word → Bool
begins start word = is_some (value_after start word)

-- the value so far, behind a word that gives none
value_stays : (start : Word) (words : List Word) (word : Word) → begins start word ≡ false → value_given start (words ++ word ∷ []) ≡ value_given start words
value_stays start words word e =
    ap (option_and_then (value_after start)) (find-append (begins start) words (word ∷ []) ∙ ap (λ b. option_or (find (begins start) words) (cond b (Some word) None)) e ∙ or_nothing _)

value_new : (start : Word) (words : List Word) (word : Word) → begins start word ≡ true → find (begins start) words ≡ None → value_given start (words ++ word ∷ []) ≡ value_after start word
value_new start words word e none =
    ap (option_and_then (value_after start)) (find-append (begins start) words (word ∷ []) ∙ ap₂ (λ o b. option_or o (cond b (Some word) None)) none e)

-- ---- the walk

-- how many names stand before a place is taken
abbrev pub next_place : List Word → ℕ
next_place [] = 1
next_place (x ∷ []) = 2
next_place (x ∷ (y ∷ ys)) = 3

pub record Ready (s : Shape) (values switches : List Text) (words : List Word) (h : Held) : Type 0 where
  pub settles : settle_passes s.rules false h ≡ true
  pub given : Gives s values switches words (rows_held s h)

-- one word more is walked
pub record Steps (s : Shape) (values switches : List Text) (words : List Word) (h : Held) (word : Word) : Type 0 where
  pub next : Held
  pub walks : walked s.rules [] (at_idle h (next_place (names_in words))) word ≡ at_idle next (next_place (names_in (words ++ word ∷ [])))
  pub passes : turn_passes s [] (at_idle h (next_place (names_in words))) word ≡ true
  pub ready : Ready s values switches (words ++ word ∷ []) next

-- ---- options

any_less : (p q : Word → Bool) → ((w : Word) → q w ≡ true → p w ≡ true) → (ws : List Word) → list_any p ws ≡ false → list_any q ws ≡ false
any_less p q less [] e = refl
any_less p q less (w ∷ ws) e =
    let both = neither (p w) (list_any p ws) e in
    go (q w) refl both.0 (any_less p q less ws both.1)
  where
    go : (b : Bool) → q w ≡ b → p w ≡ false → list_any q ws ≡ false → (b || list_any q ws) ≡ false
    go true is miss rest = absurd (true≢false (sym (less w is) ∙ miss))
    go false is miss rest = rest

no_find : (p : Word → Bool) (ws : List Word) → list_any p ws ≡ false → find p ws ≡ None
no_find p [] e = refl
no_find p (w ∷ ws) e =
    let both = neither (p w) (list_any p ws) e in
    rw both.0 (no_find p ws both.1)

pub not_taken : {X : Type 0} (b : Bool) (x : X) (rest : Option X) → cond b (Some x) rest ≡ None → (b ≡ false) × (rest ≡ None)
not_taken true x rest e = cc
not_taken false x rest e = (refl, e)

or_left : (a b : Bool) → a ≡ true → (a || b) ≡ true
or_left true b e = refl
or_left false b e = cc

module _ (s : Shape) (writes : Bool) (values switches : List Text) (facts : HasOptions s writes values switches) (words : List Word) (h : Held) (ready : Ready s values switches words h) where
  abbrev R : List Row
  R = rows_held s h

  -- the rows of the names are those of the words before, behind an option
  input_stays : (word : Word) (r : Row) → is_option word ≡ true → look (codes "IN") (r ∷ []) ≡ None → look (codes "IN") (R ++ r ∷ []) ≡ place_row s (codes "IN") 0 (words ++ word ∷ [])
  input_stays word r option none = same_row (codes "IN") R r none ∙ ready.given.input ∙ ap (λ ns. option_map (text_row s (codes "IN")) (slice_get ns 0)) (sym (names_stay words word option))

  output_stays : (word : Word) (r : Row) → is_option word ≡ true → look (codes "OUT") (r ∷ []) ≡ None → look (codes "OUT") (R ++ r ∷ []) ≡ place_row s (codes "OUT") 1 (words ++ word ∷ [])
  output_stays word r option none = same_row (codes "OUT") R r none ∙ ready.given.output ∙ ap (λ ns. option_map (text_row s (codes "OUT")) (slice_get ns 1)) (sym (names_stay words word option))

  value_row_stays : (name : Text) (word : Word) (r : Row) → look name R ≡ value_row s name words → begins (start_of name) word ≡ false → look name (r ∷ []) ≡ None → look name (R ++ r ∷ []) ≡ value_row s name (words ++ word ∷ [])
  value_row_stays name word r before no_value none = same_row name R r none ∙ before ∙ ap (option_map (text_row s name)) (sym (value_stays (start_of name) words word no_value))

  -- no word so far gives this option
  not_given : (option : Text) → list_any (is_same_option (dashed option)) words ≡ false → gives (dashed option) words ≡ false
  not_given option none =
      any_less (is_same_option (dashed option)) (λ w. bytes_eq w (dashed option)) (λ w is. or_left (bytes_eq (dashed option) w) _ ((bytes_eq-Decides (dashed option) w).1 (sym ((bytes_eq-Decides w (dashed option)).0 is)))) words none

  -- an option without a value
  switch_steps : (name : Text) → HasSwitch s values name → look name R ≡ switched s name (gives (dashed name) words) → list_any (is_same_option (dashed name)) words ≡ false → Steps s values switches words h (dashed name)
  switch_steps name has known none =
      let word = dashed name in
      let r = switch_row s name in
      let absent : has_row name R ≡ false = has_row_look name R ∙ ap is_some (known ∙ ap (switched s name) (not_given name none)) in
      let next = reacted s.rules (rule_named s name) [] h in
      let given : Gives s values switches (words ++ word ∷ []) (R ++ r ∷ []) = record {
        input = input_stays word r refl has.no_input;
        output = output_stays word r refl has.no_output;
        each = all_from (λ other. look other R ≡ switched s other (gives (dashed other) words)) (λ other. look other (R ++ r ∷ []) ≡ switched s other (gives (dashed other) (words ++ word ∷ [])))
            (λ other before. switch_next s words R word r other before (look_switch s name other has.id)) switches ready.given.each;
        each_value = all_of_both (λ other. look other R ≡ value_row s other words) (Apart s name) (λ other. look other (R ++ r ∷ []) ≡ value_row s other (words ++ word ∷ []))
            (λ other before apart. value_row_stays other word r before apart.gives_no_value apart.no_row) values ready.given.each_value has.apart;
      } in
      record {
        next = next;
        walks = has.walks h (next_place (names_in words)) ∙ ap (λ ns. at_idle next (next_place ns)) (sym (names_stay words word refl));
        passes = has.passes h (next_place (names_in words)) ∙ ap₂ (λ s b. (s && ((not b || false) && true)) && true) ready.settles absent;
        ready = record {
          settles = has.settles h;
          given = subst (Gives s values switches (words ++ word ∷ [])) (sym (has.rows_are h ∙ has.is_used R absent)) given;
        };
      }

  -- the option with one
  value_steps : (name : Text) → HasValue s values name → look name R ≡ value_row s name words → (value : Word) → list_any (is_same_option (valued name value)) words ≡ false → Steps s values switches words h (valued name value)
  value_steps name has known value none =
      let word = valued name value in
      let r = text_row s name value in
      let fresh : find (begins (start_of name)) words ≡ None = no_find (begins (start_of name)) words (any_less (is_same_option word) (begins (start_of name)) (has.same value) words none) in
      let no_row : look name R ≡ None = known ∙ ap (λ o. option_map (text_row s name) (option_and_then (value_after (start_of name)) o)) fresh in
      let absent : has_row name R ≡ false = has_row_look name R ∙ ap is_some no_row in
      let next = reacted s.rules (rule_named s name) (value ∷ []) h in
      let own : look name (R ++ r ∷ []) ≡ value_row s name (words ++ word ∷ []) =
      new_row name R r no_row (look_own s name value has.id)
      ∙ ap (option_map (text_row s name)) (sym (value_new (start_of name) words word (ap is_some (has.gives value)) fresh ∙ has.gives value)) in
      let given : Gives s values switches (words ++ word ∷ []) (R ++ r ∷ []) = record {
        input = input_stays word r refl (has.no_input value);
        output = output_stays word r refl (has.no_output value);
        each = all_of_both (λ other. look other R ≡ switched s other (gives (dashed other) words)) (HasSwitch s values) (λ other. look other (R ++ r ∷ []) ≡ switched s other (gives (dashed other) (words ++ word ∷ [])))
            (λ other before switch. let apart = all_at (Apart s other) name values has.among switch.apart in switch_next s words R word r other before (apart.not_row value ∙ ap (switched s other) (sym (apart.not_word value)))) switches ready.given.each facts.each;
        each_value = all_of_both (λ other. look other R ≡ value_row s other words) (λ other. bytes_eq name other ≡ false → (value : Word) → begins (start_of other) (valued name value) ≡ false) (λ other. look other (R ++ r ∷ []) ≡ value_row s other (words ++ word ∷ []))
            (λ other before apart. one_value other own (bytes_eq name other) refl before apart) values ready.given.each_value has.others;
      } in
      record {
        next = next;
        walks = has.walks h value (next_place (names_in words)) ∙ ap (λ ns. at_idle next (next_place ns)) (sym (names_stay words word refl));
        passes = has.passes h value (next_place (names_in words)) ∙ ap₂ (λ s b. (s && ((not b || false) && true)) && true) ready.settles absent;
        ready = record {
          settles = has.settles h value;
          given = subst (Gives s values switches (words ++ word ∷ [])) (sym (has.rows_are h value absent)) given;
        };
      }
    where
      -- the row of this option is new, and that of another stays
      one_value : (other : Text) → look name (R ++ text_row s name value ∷ []) ≡ value_row s name (words ++ valued name value ∷ []) → (b : Bool) → bytes_eq name other ≡ b → look other R ≡ value_row s other words
          → (bytes_eq name other ≡ false → (value : Word) → begins (start_of other) (valued name value) ≡ false) → look other (R ++ text_row s name value ∷ []) ≡ value_row s other (words ++ valued name value ∷ [])
      one_value other own true is before apart =
          subst (λ n. look n (R ++ text_row s name value ∷ []) ≡ value_row s n (words ++ valued name value ∷ [])) ((bytes_eq-Decides name other).0 is) own
      one_value other own false is before apart = value_row_stays other (valued name value) (text_row s name value) before (apart is value) (look_other s name other value has.id is)

-- ---- names

-- how many names the command asks for
abbrev pub places : Bool → ℕ
places writes = cond writes 2 1

few : (writes : Bool) (n : ℕ) → nat_le (places writes) n ≡ false → n < 2
few true n h = grind (arith, nat_tests)
few false n h = grind (arith, nat_tests)

if_two : (writes : Bool) → nat_le (places writes) 1 ≡ false → writes ≡ true
if_two true h = refl
if_two false h = cc

-- a name gives no option a value
no_value : (rest word : Word) → is_option word ≡ false → begins (45 ∷ rest) word ≡ false
no_value rest [] e = refl
no_value rest (byte ∷ bytes) e = ap (λ b. is_some (cond (b && bytes_eq (take (length rest) bytes) rest) (Some (drop (length rest) bytes)) None)) e

module _ (s : Shape) (writes : Bool) (values switches : List Text) (facts : HasOptions s writes values switches) (words : List Word) (h : Held) (ready : Ready s values switches words h) (word : Word) (is_name : is_option word ≡ false) where
  abbrev R' : List Row
  R' = rows_held s h

  -- a name is none of the options
  options_stay : (r : Row) → ((other : Text) → HasSwitch s values other → look other (r ∷ []) ≡ None) → AllAre (λ other. look other (R' ++ r ∷ []) ≡ switched s other (gives (dashed other) (words ++ word ∷ []))) switches
  options_stay r none =
      all_of_both (λ other. look other R' ≡ switched s other (gives (dashed other) words)) (HasSwitch s values) (λ other. look other (R' ++ r ∷ []) ≡ switched s other (gives (dashed other) (words ++ word ∷ [])))
      (λ other before has. switch_next s words R' word r other before (none other has ∙ ap (switched s other) (sym (no_option_is word is_name (45 ∷ other))))) switches ready.given.each facts.each

  values_stay : (r : Row) → ((other : Text) → HasValue s values other → look other (r ∷ []) ≡ None) → AllAre (λ other. look other (R' ++ r ∷ []) ≡ value_row s other (words ++ word ∷ [])) values
  values_stay r none =
      all_of_both (λ other. look other R' ≡ value_row s other words) (HasValue s values) (λ other. look other (R' ++ r ∷ []) ≡ value_row s other (words ++ word ∷ []))
      (λ other before has. value_row_stays s writes values switches facts words h ready other word r before (no_value (45 ∷ (other ++ codes "=")) word is_name) (none other has)) values ready.given.each_value facts.each_value

  -- the next name goes to its place
  place_steps : (name : Text) (position : ℕ) → HasPlace s name position → look name R' ≡ None → next_place (names_in words) ≡ position → next_place (names_in words ++ word ∷ []) ≡ position + 1
      → Gives s values switches (words ++ word ∷ []) (R' ++ text_row s name word ∷ []) → Steps s values switches words h word
  place_steps name position has no_row before behind given =
      let next = pushed name word (settled s.rules h) in
      let absent : has_row name R' ≡ false = has_row_look name R' ∙ ap is_some no_row in
      record {
        next = next;
        walks = ap (λ p. walked s.rules [] (at_idle h p) word) before ∙ has.walks h word is_name ∙ ap (at_idle next) (sym (ap next_place (names_grow words word is_name) ∙ behind));
        passes = ap (λ p. turn_passes s [] (at_idle h p) word) before ∙ has.passes h word is_name ready.settles;
        ready = record {
          settles = has.settles h word absent;
          given = subst (Gives s values switches (words ++ word ∷ [])) (sym (has.rows_are h word absent)) given;
        };
      }

  input_steps : names_in words ≡ [] → Steps s values switches words h word
  input_steps none =
      let r = text_row s (codes "IN") word in
      let grow : names_in (words ++ word ∷ []) ≡ word ∷ [] = names_grow words word is_name ∙ ap (λ ns. ns ++ word ∷ []) none in
      let no_row : look (codes "IN") R' ≡ None = ready.given.input ∙ ap (λ ns. option_map (text_row s (codes "IN")) (slice_get ns 0)) none in
      place_steps (codes "IN") 1 facts.input no_row (ap next_place none) (ap (λ ns. next_place (ns ++ word ∷ [])) none) (record {
        input = new_row (codes "IN") R' r no_row (look_own s (codes "IN") word facts.input_id) ∙ ap (λ ns. option_map (text_row s (codes "IN")) (slice_get ns 0)) (sym grow);
        output = same_row (codes "OUT") R' r (look_other s (codes "IN") (codes "OUT") word facts.input_id refl) ∙ ready.given.output
            ∙ ap (λ ns. option_map (text_row s (codes "OUT")) (slice_get ns 1)) none ∙ ap (λ ns. option_map (text_row s (codes "OUT")) (slice_get ns 1)) (sym grow);
        each = options_stay r (λ other has. has.not_input word);
        each_value = values_stay r (λ other has. has.not_input word);
      })

  output_steps : HasPlace s (codes "OUT") 2 → (input : Word) → names_in words ≡ input ∷ [] → Steps s values switches words h word
  output_steps has input one =
      let r = text_row s (codes "OUT") word in
      let grow : names_in (words ++ word ∷ []) ≡ input ∷ (word ∷ []) = names_grow words word is_name ∙ ap (λ ns. ns ++ word ∷ []) one in
      let no_row : look (codes "OUT") R' ≡ None = ready.given.output ∙ ap (λ ns. option_map (text_row s (codes "OUT")) (slice_get ns 1)) one in
      place_steps (codes "OUT") 2 has no_row (ap next_place one) (ap (λ ns. next_place (ns ++ word ∷ [])) one) (record {
        input = same_row (codes "IN") R' r (look_other s (codes "OUT") (codes "IN") word facts.output_id refl) ∙ ready.given.input
            ∙ ap (λ ns. option_map (text_row s (codes "IN")) (slice_get ns 0)) one ∙ ap (λ ns. option_map (text_row s (codes "IN")) (slice_get ns 0)) (sym grow);
        output = new_row (codes "OUT") R' r no_row (look_own s (codes "OUT") word facts.output_id) ∙ ap (λ ns. option_map (text_row s (codes "OUT")) (slice_get ns 1)) (sym grow);
        each = options_stay r (λ other has. has.not_output word);
        each_value = values_stay r (λ other has. has.not_output word);
      })

  name_steps : (ns : List Word) → names_in words ≡ ns → nat_le (places writes) (length ns) ≡ false → Steps s values switches words h word
  name_steps [] is room = input_steps is
  name_steps (input ∷ []) is room = output_steps (facts.output (if_two writes room)) input is
  name_steps (input ∷ (output ∷ ns)) is room =
      let short : length (input ∷ (output ∷ ns)) < 2 = few writes _ room in
      absurd (omega arith)

-- ---- any word that is not at fault

pub or_case : (a b : Bool) → (a || b) ≡ true → (a ≡ true) ⊎ (b ≡ true)
or_case true b e = inl refl
or_case false b e = inr e

begins_so : (start word : Word) → begins start word ≡ true → start ++ drop (length start) word ≡ word
begins_so start word e =
    let head : take (length start) word ≡ start = go (bytes_eq (take (length start) word) start) refl e in
    ap (λ t. t ++ drop (length start) word) (sym head) ∙ take-append-drop (length start) word
  where
    go : (b : Bool) → bytes_eq (take (length start) word) start ≡ b → is_some (cond b (Some (drop (length start) word)) None) ≡ true → take (length start) word ≡ start
    go true is e = (bytes_eq-Decides _ _).0 is
    go false is e = cc

-- a word gives one of these options a value
abbrev pub gives_own : List Text → Word → Bool
gives_own [] word = false
gives_own (name ∷ []) word = begins (start_of name) word
gives_own (name ∷ (next ∷ names)) word = begins (start_of name) word || gives_own (next ∷ names) word

-- it is one of these options that have no value, or gives one of those that have one
abbrev pub is_own : (values switches : List Text) → Word → Bool
is_own values [] word = gives_own values word
is_own values (name ∷ names) word = bytes_eq word (dashed name) || is_own values names word

-- it is an option that the command has, and that stands nowhere before
option_judged : (command : CommandWord) (words : List Word) (word : Word) → option_fault command words word ≡ None → (is_option_of command word ≡ true) × (list_any (is_same_option word) words ≡ false)
option_judged command words word e = go (is_option_of command word) refl e
  where
    go : (b : Bool) → is_option_of command word ≡ b
        → cond (not b) (Some UnknownOption) (cond (list_any (is_same_option word) words) (Some Repeated) (cond (bytes_eq word (codes "--names=") || bytes_eq word (codes "--function=")) (Some Empty) None)) ≡ None
        → (b ≡ true) × (list_any (is_same_option word) words ≡ false)
    go true is e = (refl, (not_taken (list_any (is_same_option word) words) Repeated _ e).0)
    go false is e = cc

module _ (s : Shape) (writes : Bool) (values switches : List Text) (facts : HasOptions s writes values switches) (words : List Word) (h : Held) (ready : Ready s values switches words h) (word : Word) (new : list_any (is_same_option word) words ≡ false) where
  by : (option : Word) → option ≡ word → (list_any (is_same_option option) words ≡ false → Steps s values switches words h option) → Steps s values switches words h word
  by option is steps = subst (λ w. list_any (is_same_option w) words ≡ false → Steps s values switches words h w) is steps new

  gives_steps : (name : Text) → HasValue s values name → look name (rows_held s h) ≡ value_row s name words → begins (start_of name) word ≡ true → Steps s values switches words h word
  gives_steps name has known own =
      let value = drop (length (start_of name)) word in
      by (valued name value) (begins_so (start_of name) word own) (value_steps s writes values switches facts words h ready name has known value)

  own_value_steps : (names : List Text) → AllAre (HasValue s values) names → AllAre (λ name. look name (rows_held s h) ≡ value_row s name words) names → gives_own names word ≡ true → Steps s values switches words h word
  own_value_steps [] has known own = cc
  own_value_steps (name ∷ []) has known own = gives_steps name has.first known.first own
  own_value_steps (name ∷ (next ∷ names)) has known own = elim (or_case (begins (start_of name) word) _ own) [
    | inl is ↦ gives_steps name has.first known.first is
    | inr rest ↦ own_value_steps (next ∷ names) has.rest known.rest rest
  ]

  option_steps : (names : List Text) → AllAre (HasSwitch s values) names → AllAre (λ name. look name (rows_held s h) ≡ switched s name (gives (dashed name) words)) names → is_own values names word ≡ true → Steps s values switches words h word
  option_steps [] has known own = own_value_steps values facts.each_value ready.given.each_value own
  option_steps (name ∷ names) has known own = elim (or_case (bytes_eq word (dashed name)) _ own) [
    | inl is ↦ by (dashed name) (sym ((bytes_eq-Decides word (dashed name)).0 is)) (switch_steps s writes values switches facts words h ready name has.first known.first)
    | inr rest ↦ option_steps names has.rest known.rest rest
  ]

-- ---- all the words

pub no_fault : (fault : Option UsageKind) (at : ℕ) (later : Option (ℕ × UsageKind)) → or_else fault at later ≡ None → (fault ≡ None) × (later ≡ None)
no_fault (Some kind) at later e = cc
no_fault None at later e = (refl, e)

pub record Walks (s : Shape) (values switches : List Text) (w : Walk) (words all : List Word) : Type 0 where
  pub passes : walk_passes s [] w words ≡ true
  pub ready : Ready s values switches all (fold (walked s.rules []) w words).held

module _ (s : Shape) (writes : Bool) (values switches : List Text) (facts : HasOptions s writes values switches) (command : CommandWord) (known : (word : Word) → is_option_of command word ≡ true → is_own values switches word ≡ true) (asks : places_of command ≡ places writes) where
  word_steps : (words : List Word) (h : Held) (word : Word) → Ready s values switches words h → word_fault command words word ≡ None → Steps s values switches words h word
  unfolding word_fault
  word_steps words h word ready right = go (is_option word) refl right
    where
      go : (b : Bool) → is_option word ≡ b → cond b (option_fault command words word) (name_fault command words word) ≡ None → Steps s values switches words h word
      go true is right =
          let judged = option_judged command words word right in
          option_steps s writes values switches facts words h ready word judged.1 switches facts.each ready.given.each (known word judged.0)
      go false is right =
          let room = (not_taken (nat_le (places_of command) (length (names_in words))) Extra _ right).0 in
          name_steps s writes values switches facts words h ready word is (names_in words) refl (subst (λ n. nat_le n (length (names_in words)) ≡ false) asks room)

  walks_on : (w w' : Walk) (word : Word) (words all : List Word) → walked s.rules [] w word ≡ w' → turn_passes s [] w word ≡ true → Walks s values switches w' words all → Walks s values switches w (word ∷ words) all
  unfolding walk_passes
  walks_on w w' word words all is turn rest =
      let here = subst (λ v. Walks s values switches v words all) (sym is) rest in
      record { passes = ap₂ (λ a b. a && b) turn here.passes; ready = here.ready }

  pub words_walk : (words seen : List Word) (h : Held) → Ready s values switches seen h → first_fault command seen words ≡ None → Walks s values switches (at_idle h (next_place (names_in seen))) words (seen ++ words)
  unfolding first_fault walk_passes
  words_walk [] seen h ready right = record { passes = refl; ready = subst (λ all. Ready s values switches all h) (sym (append-nil seen)) ready }
  words_walk (word ∷ words) seen h ready right =
      let faults = no_fault (word_fault command seen word) _ _ right in
      let steps = word_steps seen h word ready faults.0 in
      let rest = words_walk words (seen ++ word ∷ []) steps.next steps.ready faults.1 in
      walks_on _ _ word words (seen ++ word ∷ words) steps.walks steps.passes (subst (Walks s values switches _ words) (append_assoc seen (word ∷ []) words) rest)

nothing_given : (s : Shape) (names : List Text) → AllAre (λ name. look name [] ≡ switched s name (gives (dashed name) [])) names
nothing_given s [] = tt
nothing_given s (name ∷ names) = record { first = refl; rest = nothing_given s names }

no_value_given : (s : Shape) (names : List Text) → AllAre (λ name. look name [] ≡ value_row s name []) names
no_value_given s [] = tt
no_value_given s (name ∷ names) = record { first = refl; rest = no_value_given s names }

pub ready_at_start : (s : Shape) (values switches : List Text) → Ready s values switches [] nothing_held
ready_at_start s values switches = record { settles = refl; given = record { input = refl; output = refl; each = nothing_given s switches; each_value = no_value_given s values } }
