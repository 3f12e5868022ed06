-- The sections that need a section symbol.
use Rattle.std.proofs.Common.{◌≡◌, ℕ, zero, suc, ◌+◌, ◌<◌, Bool, true, false, cond, List, [], ◌∷◌, ◌++◌, length, Option, Some, None, refl, sym, ap, subst, ◌∙◌, arith}
use Rattle.std.specs.Prelude.{◌==◌, ◌&&◌, All, AllPairs, Contains, filter, is_none, slice_get, slice_index_or}
use Rattle.std.specs.List.{range_with_len}
use Rattle.std.proofs.lemmas.Bool.{and_from, and_parts, eqb-true, false≢true}
use Rattle.std.proofs.lemmas.List.{append-nil, map-id}
use Rattle.std.proofs.lemmas.List.Elements.{All-filter, filter_passes}
use Rattle.std.proofs.lemmas.List.Folds.{Any-from_list_any}
use Rattle.std.proofs.lemmas.List.FromFn.{filter_of_map_range_with_len_more, get_or-range_with_len, length-range_with_len}
use Rattle.std.proofs.lemmas.List.Kept.{AllPairs-filter}
use Rattle.ot_base.specs.declared.row.PlacedRow.{PlacedRow}
use Rattle.elf_objects.specs.Contents.{is_text, section_symbol_of}
use Rattle.elf_objects.specs.Elf.{Elf, SectionEntry}
use Rattle.orc_output.specs.Needed.{has_row, needed_symbols, unnamed}
use Rattle.orc_output.specs.Tables.{IsNamed, IsRowIn}

-- a section is one of those named and has none
abbrev pub is_nameless : Elf → (ℕ → Bool) → ℕ → Bool
is_nameless o named sec = named sec && is_none (section_symbol_of o sec)

abbrev pub nameless : Elf → (ℕ → Bool) → List ℕ
nameless o named = filter (is_nameless o named) (range_with_len 0 (length o.sections))

pub needed-is : (o : Elf) (rows : List PlacedRow) → needed_symbols o rows ≡ nameless o (has_row rows)
unfolding needed_symbols
needed-is o rows = refl

-- a section is marked and has none
abbrev pub is_unnamed : Elf → List Bool → ℕ → Bool
is_unnamed o marks sec = slice_index_or marks sec false && is_none (section_symbol_of o sec)

pub unnamed-is : (o : Elf) (marks : List Bool) → unnamed o marks ≡ filter (is_unnamed o marks) (range_with_len 0 (length o.sections))
unfolding unnamed
unnamed-is o marks = refl

none_is : (f : Option ℕ) → is_none f ≡ true → f ≡ None
none_is None h = refl
none_is (Some k) h = absurd (false≢true h)

-- one section more
filter_next : (p : ℕ → Bool) (n : ℕ) → filter p (range_with_len 0 (n + 1)) ≡ filter p (range_with_len 0 n) ++ cond (p n) (n ∷ []) []
filter_next p n =
    let more = filter_of_map_range_with_len_more p (λ (x : ℕ). x) 0 n n (omega arith) in
    sym (ap (filter p) (map-id (range_with_len 0 (n + 1)))) ∙ more
    ∙ ap (λ (xs : List ℕ). filter p xs ++ cond (p n) (n ∷ []) []) (map-id (range_with_len 0 n))

pub one_more : (p : ℕ → Bool) (n : ℕ) (xs ys : List ℕ) → xs ≡ filter p (range_with_len 0 n) → p n ≡ true → ys ≡ xs ++ n ∷ []
    → ys ≡ filter p (range_with_len 0 (n + 1))
one_more p n xs ys was passes e =
    e ∙ ap (λ (zs : List ℕ). zs ++ n ∷ []) was
    ∙ sym (filter_next p n ∙ ap (λ (b : Bool). filter p (range_with_len 0 n) ++ cond b (n ∷ []) []) passes)

pub none_more : (p : ℕ → Bool) (n : ℕ) (xs : List ℕ) → xs ≡ filter p (range_with_len 0 n) → p n ≡ false → xs ≡ filter p (range_with_len 0 (n + 1))
none_more p n xs was fails =
    was ∙ sym (append-nil (filter p (range_with_len 0 n)))
    ∙ sym (filter_next p n ∙ ap (λ (b : Bool). filter p (range_with_len 0 n) ++ cond b (n ∷ []) []) fails)

-- tests that agree below a number keep the same of the numbers below it
pub agree_below : (p q : ℕ → Bool) (n : ℕ) → ((k : ℕ) → k < n → p k ≡ q k) → filter p (range_with_len 0 n) ≡ filter q (range_with_len 0 n)
agree_below p q zero same = refl
agree_below p q (suc n) same =
    let below = agree_below p q n (λ k h. same k (omega arith)) in
    let next : suc n ≡ n + 1 = omega arith in
    subst (λ (m : ℕ). filter p (range_with_len 0 m) ≡ filter q (range_with_len 0 m)) (sym next) (filter_next p n
    ∙ ap (λ (xs : List ℕ). xs ++ cond (p n) (n ∷ []) []) below
    ∙ ap (λ (b : Bool). filter q (range_with_len 0 n) ++ cond b (n ∷ []) []) (same n (omega arith))
    ∙ sym (filter_next q n))

-- the sections that are marked where they are named
pub unnamed_nameless : (o : Elf) (named : ℕ → Bool) (marks : List Bool) → ((sec : ℕ) → sec < length o.sections → slice_index_or marks sec false ≡ named sec)
    → unnamed o marks ≡ nameless o named
unnamed_nameless o named marks same =
    unnamed-is o marks
    ∙ agree_below (is_unnamed o marks) (is_nameless o named) (length o.sections) (λ sec h. ap (λ (b : Bool). b && is_none (section_symbol_of o sec)) (same sec h))

-- a section that is among them
pub record IsNameless (o : Elf) (test : ℕ → Bool) (sec : ℕ) : Type 0 where
  pub exists : sec < length o.sections
  pub named : test sec ≡ true
  pub free : section_symbol_of o sec ≡ None

pub in_range : (n : ℕ) → All (λ k. k < n) (range_with_len 0 n)
in_range n i d inside =
    let within : i < n = subst (λ m. i < m) (length-range_with_len 0 n) inside in
    subst (λ k. k < n) (sym (get_or-range_with_len 0 n i d within)) (omega arith)

rising_range : (n : ℕ) → AllPairs (λ a b. a < b) (range_with_len 0 n)
rising_range n i j d lt inside =
    let within : j < n = subst (λ m. j < m) (length-range_with_len 0 n) inside in
    omega (arith, get_or-range_with_len 0 n i d (omega arith), get_or-range_with_len 0 n j d within)

pub each_nameless : (o : Elf) (named : ℕ → Bool) → All (IsNameless o named) (nameless o named)
each_nameless o named k d inside =
    let all : List ℕ = range_with_len 0 (length o.sections) in
    let passes = and_parts _ _ (filter_passes (is_nameless o named) all k d inside) in
    record {
      exists = All-filter (is_nameless o named) (λ sec. sec < length o.sections) all (in_range (length o.sections)) k d inside;
      named = passes.0;
      free = none_is _ passes.1;
    }

pub nameless_rise : (o : Elf) (named : ℕ → Bool) → AllPairs (λ a b. a < b) (nameless o named)
nameless_rise o named = AllPairs-filter (λ a b. a < b) (is_nameless o named) (range_with_len 0 (length o.sections)) (rising_range (length o.sections))

-- a number that passes stands among those that do
passing : (p : ℕ → Bool) (xs : List ℕ) (k : ℕ) → Contains xs k → p k ≡ true → Contains (filter p xs) k
passing p [] k at passes = absurd (omega (arith, at.1))
passing p (x ∷ xs) k (zero, inside, is) passes =
    let here : p x ≡ true = ap p is ∙ passes in
    rw here (0, (omega arith), is)
passing p (x ∷ xs) k (suc n, inside, is) passes =
    let rest : Contains (filter p xs) k = passing p xs k (n, (omega arith), is) passes in
    elim (p x) as (λ b. Contains (cond b (x ∷ filter p xs) (filter p xs)) k) [
      | true ↦ (suc rest.0, (omega (arith, rest.1)), rest.2)
      | false ↦ rest
    ]

-- a section that is named and has no symbol is among them
pub is_among : (o : Elf) (named : ℕ → Bool) (sec : ℕ) → sec < length o.sections → named sec ≡ true → section_symbol_of o sec ≡ None → Contains (nameless o named) sec
is_among o named sec inside here free =
    passing (is_nameless o named) (range_with_len 0 (length o.sections)) sec
    (sec, subst (λ n. sec < n) (sym (length-range_with_len 0 (length o.sections))) inside, get_or-range_with_len 0 (length o.sections) sec sec inside ∙ omega arith)
    (and_from _ _ here (ap (λ (f : Option ℕ). is_none f) free))

-- The sections that rows need are such.

pub each_needed : (o : Elf) (rows : List PlacedRow) → All (IsNameless o (has_row rows)) (needed_symbols o rows)
unfolding needed_symbols
each_needed o rows = each_nameless o (has_row rows)

pub needed_rise : (o : Elf) (rows : List PlacedRow) → AllPairs (λ a b. a < b) (needed_symbols o rows)
unfolding needed_symbols
needed_rise o rows = nameless_rise o (has_row rows)

pub needs_one : (o : Elf) (rows : List PlacedRow) (sec : ℕ) → sec < length o.sections → has_row rows sec ≡ true → section_symbol_of o sec ≡ None
    → Contains (needed_symbols o rows) sec
unfolding needed_symbols
needs_one o rows = is_among o (has_row rows)

-- a text section in which a symbol is defined
pub record IsNamedText (o : Elf) (sec : ℕ) : Type 0 where
  pub section : SectionEntry
  pub at : slice_get o.sections sec ≡ Some section
  pub text : is_text section ≡ true
  pub named : IsNamed o sec

pub section_of_row : (o : Elf) (rows : List PlacedRow) (sec : ℕ) → All (IsRowIn o) rows → has_row rows sec ≡ true → IsNamedText o sec
section_of_row o rows sec each has =
    let found = Any-from_list_any (λ (placed : PlacedRow). placed.place.sec == sec) rows has in
    let placed : PlacedRow = found.1 in
    let row : IsRowIn o placed = subst (IsRowIn o) found.3 (each found.0 placed found.2) in
    let same : placed.place.sec ≡ sec = eqb-true placed.place.sec sec found.4 in
    subst (IsNamedText o) same (record { section = row.section; at = row.at; text = row.text; named = row.named })
