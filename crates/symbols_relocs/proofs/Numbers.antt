-- The first symbols of functions by the numbers of their names.
use Rattle.std.proofs.Common.{◌≡◌, ◌≢◌, inl, inr, ℕ, ◌+◌, ◌<◌, ◌≤◌, Bool, true, false, ◌&&◌, cond, List, [], ◌∷◌, ◌++◌, length, slice_get, slice_index_or, bytes_eq, Option, Some, None, option_and_then, refl, sym, ap, subst, ◌∙◌, arith}
use Rattle.std.specs.Option.{option_or}
use Rattle.std.proofs.lemmas.Bool.{cases_lt}
use Rattle.std.proofs.lemmas.List.{get_or-set_other, get_or-set_same, get_or_append_left, get_or_past, get_or_push, length_push}
use Rattle.std.proofs.lemmas.Option.{none-some, same_Some, slice_get_within}
use Rattle.std.proofs.lemmas.Slice.Eq.{bytes_eq-Decides}
use Rattle.elf_objects.specs.Below.{first_of, least_below}
use Rattle.elf_objects.specs.Contents.{symbol_at}
use Rattle.elf_objects.specs.Elf.{Elf}
use Rattle.elf_objects.proofs.LeastBelow.{least_below-some, least_below-more, least_below-zero}
use Rattle.text_numbers.specs.Texts.{AreDifferent, AreKept}
use Rattle.symbols_relocs.specs.declared.function.Function.{Function}
use Rattle.symbols_relocs.specs.Functions.{is_function, start_of, starts_at}
use Rattle.symbols_relocs.specs.Lists.{function}
use Rattle.symbols_relocs.specs.Names.{name_slot, with_first, AreStems, HasMark, IsFound, IsMarked, IsNumber, KeepsMarks, KnowsParents}
use Rattle.symbols_relocs.specs.Parts.{first_named, function_named, part_name}

-- the symbol is one of a function with this name
abbrev is_named : Elf → List ℕ → ℕ → Bool
is_named o text j = is_function o j && bytes_eq (symbol_at o j).name text

-- for each number of a text with a marked slot the first symbol below a bound
abbrev pub AreFirstBelow : Elf → List (List ℕ) → List Bool → ℕ → List (Option ℕ) → Type 0
AreFirstBelow o texts marks k first = (n : ℕ) (text : List ℕ) → slice_get texts n ≡ Some text → IsMarked marks text → slice_index_or first n None ≡ least_below (λ j. is_function o j && bytes_eq (symbol_at o j).name text) k

pub none_below : (o : Elf) (texts : List (List ℕ)) (marks : List Bool) (first : List (Option ℕ)) → ((n : ℕ) → slice_index_or first n None ≡ None) → AreFirstBelow o texts marks 0 first
none_below o texts marks first none n text at mark = none n ∙ sym (least_below-zero (is_named o text))

first_none : (x : Option ℕ) → first_of x None ≡ x
first_none None = refl
first_none (Some k) = refl

first_some : (x : Option ℕ) (k : ℕ) → first_of x (Some k) ≡ option_or x (Some k)
first_some None k = refl
first_some (Some j) k = refl

and_false : (x y : Bool) → y ≡ false → (x && y) ≡ false
and_false true y h = h
and_false false y h = refl

not_function : (x y : Bool) → x ≡ false → (x && y) ≡ false
not_function true y h = cc
not_function false y h = refl

and_true : (x y : Bool) → x ≡ true → y ≡ true → (x && y) ≡ true
and_true true y h k = k
and_true false y h k = h

is_false : (b : Bool) → (b ≡ true → ⊥) → b ≡ false
is_false true h = absurd (h refl)
is_false false h = refl

pub not_both : (b : Bool) → b ≡ true → b ≡ false → ⊥
not_both true h k = cc
not_both false h k = cc

module _ (o : Elf) (texts : List (List ℕ)) (marks : List Bool) (first : List (Option ℕ)) (k : ℕ) (w : AreFirstBelow o texts marks k first) where
  passed_by : (n : ℕ) (text : List ℕ) → slice_get texts n ≡ Some text → IsMarked marks text → is_named o text k ≡ false → slice_index_or first n None ≡ least_below (is_named o text) (k + 1)
  passed_by n text at mark fails =
      w n text at mark ∙ sym (least_below-more (is_named o text) k ∙ ap (λ b. first_of (least_below (is_named o text) k) (cond b (Some k) None)) fails ∙ first_none (least_below (is_named o text) k))

  pub no_function_added : is_function o k ≡ false → AreFirstBelow o texts marks (k + 1) first
  no_function_added none n text at mark = passed_by n text at mark (not_function (is_function o k) (bytes_eq (symbol_at o k).name text) none)

  pub no_mark_added : slice_index_or marks (name_slot (symbol_at o k).name) false ≡ false → AreFirstBelow o texts marks (k + 1) first
  no_mark_added none n text at mark =
      let name : List ℕ = (symbol_at o k).name in
      passed_by n text at mark (and_false (is_function o k) (bytes_eq name text) (is_false (bytes_eq name text) (λ e.
      let same : text ≡ name = sym ((bytes_eq-Decides name text).0 e) in
      not_both (slice_index_or marks (name_slot name) false) (subst (IsMarked marks) same mark) none)))

  module _ (new : List (List ℕ)) (kept : AreKept texts new) (different : AreDifferent new) (number : ℕ) (has : slice_get new number ≡ Some (symbol_at o k).name) where
    unlike : (n : ℕ) (text : List ℕ) → n ≢ number → slice_get texts n ≡ Some text → bytes_eq (symbol_at o k).name text ≡ false
    unlike n text other at = is_false (bytes_eq (symbol_at o k).name text) (λ e. other (different n number text (kept n text at) (has ∙ ap Some ((bytes_eq-Decides (symbol_at o k).name text).0 e))))

    pub no_text_added : length texts ≤ number → AreFirstBelow o texts marks (k + 1) first
    no_text_added beyond n text at mark =
        let low = slice_get_within texts n text at in
        passed_by n text at mark (and_false (is_function o k) (bytes_eq (symbol_at o k).name text) (unlike n text (λ e. omega (arith, e, beyond, low)) at))

    module _ (some : is_function o k ≡ true) (low : number < length first) where
      here : (text : List ℕ) → slice_get texts number ≡ Some text → IsMarked marks text → slice_index_or (with_first first number k) number None ≡ least_below (is_named o text) (k + 1)
      here text at mark =
          let same : (symbol_at o k).name ≡ text = same_Some (symbol_at o k).name text (sym has ∙ kept number text at) in
          let passes : is_named o text k ≡ true = and_true (is_function o k) (bytes_eq (symbol_at o k).name text) some ((bytes_eq-Decides (symbol_at o k).name text).1 same) in
          let more : least_below (is_named o text) (k + 1) ≡ option_or (least_below (is_named o text) k) (Some k) = least_below-more (is_named o text) k ∙ ap (λ b. first_of (least_below (is_named o text) k) (cond b (Some k) None)) passes ∙ first_some (least_below (is_named o text) k) k in
          get_or-set_same first number (option_or (slice_index_or first number None) (Some k)) None low
          ∙ ap (λ x. option_or x (Some k)) (w number text at mark)
          ∙ sym more

      elsewhere : (n : ℕ) (text : List ℕ) → n ≢ number → slice_get texts n ≡ Some text → IsMarked marks text → slice_index_or (with_first first number k) n None ≡ least_below (is_named o text) (k + 1)
      elsewhere n text other at mark =
          get_or-set_other first number n (option_or (slice_index_or first number None) (Some k)) None other
          ∙ passed_by n text at mark (and_false (is_function o k) (bytes_eq (symbol_at o k).name text) (unlike n text other at))

      pub function_added : AreFirstBelow o texts marks (k + 1) (with_first first number k)
      function_added n text at mark = elim (cases_lt n number) [
        | inl lt ↦ elsewhere n text (λ e. omega (arith, e, lt)) at mark
        | inr ge ↦ elim (cases_lt number n) [
          | inl lt ↦ elsewhere n text (λ e. omega (arith, e, lt)) at mark
          | inr le ↦
              let e : number ≡ n = omega (arith, ge, le) in
              let P : ℕ → Type 0 = λ m. slice_get texts m ≡ Some text → slice_index_or (with_first first number k) m None ≡ least_below (is_named o text) (k + 1) in
              subst P e (λ there. here text there mark) at
        ]
      ]

-- ---- marks

mark_kept : (old new : List (List ℕ)) (marks more : List Bool) (number : Option ℕ) → AreKept old new → KeepsMarks marks more → HasMark old marks number → HasMark new more number
mark_kept old new marks more None kept keeps w = w
mark_kept old new marks more (Some n) kept keeps w = (w.0, kept n w.0 w.1, keeps (name_slot w.0) w.2)

pub no_marked : (texts : List (List ℕ)) (marks : List Bool) (i : ℕ) → HasMark texts marks (slice_index_or [] i None)
no_marked texts marks i = tt

pub marks_more : (old new : List (List ℕ)) (marks more : List Bool) (number : Option ℕ) (stems : List (Option ℕ)) → AreKept old new → KeepsMarks marks more → ((i : ℕ) → HasMark old marks (slice_index_or stems i None)) → HasMark new more number → (i : ℕ) → HasMark new more (slice_index_or (stems ++ number ∷ []) i None)
marks_more old new marks more number stems kept keeps w is i = elim (cases_lt i (length stems)) [
  | inl lt ↦ subst (HasMark new more) (sym (get_or_append_left stems (number ∷ []) None i lt)) (mark_kept old new marks more (slice_index_or stems i None) kept keeps (w i))
  | inr ge ↦ elim (cases_lt (length stems) i) [
    | inl lt ↦ subst (HasMark new more) (sym (get_or_past (stems ++ number ∷ []) i None (let l = length_push stems number in omega (arith, l, lt)))) tt
    | inr le ↦ subst (HasMark new more) (sym (get_or_push stems number None i (omega (arith, ge, le)))) is
  ]
]

-- ---- numbers of stems

number_kept : (old new : List (List ℕ)) (number : Option ℕ) (text : Option (List ℕ)) → AreKept old new → IsNumber old number text → IsNumber new number text
number_kept old new None text kept w = w
number_kept old new (Some n) text kept w = (w.0, w.1, kept n w.0 w.2)

pub stems_more : (o : Elf) (fs : List Function) (old new : List (List ℕ)) (i : ℕ) (number : Option ℕ) (stems : List (Option ℕ)) → AreKept old new → AreStems o fs old i stems → IsNumber new number (part_name (symbol_at o (function fs i).sym).name) → AreStems o fs new (i + 1) (stems ++ number ∷ [])
stems_more o fs old new i number stems kept w is = record {
  len = let e = w.len in let l = length_push stems number in omega (arith, e, l);
  each = λ j low. elim (cases_lt j i) [
    | inl lt ↦
        let e = w.len in
        let inside : j < length stems = omega (arith, e, lt) in
        let P : Option ℕ → Type 0 = λ n. IsNumber new n (part_name (symbol_at o (function fs j).sym).name) in
        subst P (sym (get_or_append_left stems (number ∷ []) None j inside)) (number_kept old new (slice_index_or stems j None) (part_name (symbol_at o (function fs j).sym).name) kept (w.each j lt))
    | inr ge ↦
        let e : i ≡ j = omega (arith, ge, low) in
        let l : length stems ≡ j = w.len ∙ e in
        let P : Option ℕ → Type 0 = λ n. IsNumber new n (part_name (symbol_at o (function fs j).sym).name) in
        let Q : ℕ → Type 0 = λ m. IsNumber new number (part_name (symbol_at o (function fs m).sym).name) in
        subst P (sym (get_or_push stems number None j l)) (subst Q e is)
  ];
}

-- ---- parents

module _ (o : Elf) (old new : List (List ℕ)) (kept : AreKept old new) (stems first : List (Option ℕ)) (knows : KnowsParents o new stems first) where
  found_by : (i : ℕ) (number : Option ℕ) (text : Option (List ℕ)) → slice_index_or stems i None ≡ number → IsNumber old number text → IsFound o first number text
  found_by i None text e w = w
  found_by i (Some n) text e w = (w.0, w.1, knows i n e w.0 (kept n w.0 w.2))

  pub stem_found : (fs : List Function) (count i : ℕ) → AreStems o fs old count stems → i < count → IsFound o first (slice_index_or stems i None) (part_name (symbol_at o (function fs i).sym).name)
  stem_found fs count i w low = found_by i (slice_index_or stems i None) (part_name (symbol_at o (function fs i).sym).name) refl (w.each i low)

pub symbol_found : (o : Elf) (first : List (Option ℕ)) (n : ℕ) (part : Option (List ℕ)) → IsFound o first (Some n) part → slice_index_or first n None ≡ option_and_then (first_named o) part
symbol_found o first n part w = w.2 ∙ sym (ap (option_and_then (first_named o)) w.1)

pub parent_by : (o : Elf) (part : Option (List ℕ)) → option_and_then (function_named o) part ≡ option_and_then (λ k. starts_at o (start_of o k)) (option_and_then (first_named o) part)
parent_by o None = refl
parent_by o (Some text) = refl

-- the first symbol with a name is a symbol
pub found_low : (o : Elf) (part : Option (List ℕ)) (k : ℕ) → Some k ≡ option_and_then (first_named o) part → k < length o.symbols
found_low o None k e = absurd (none-some k (sym e))
found_low o (Some text) k e = let w = least_below-some (is_named o text) (length o.symbols) k (sym e) in w.below
