-- The ranges of a table place each text section, and nothing else.
use Rattle.std.proofs.Common.{◌≡◌, ℕ, ◌+◌, ◌^◌, ◌<◌, ◌≤◌, ◌⊎◌, Bool, true, false, ◌&&◌, List, [], ◌∷◌, map, Contains, slice_index_or, nat_le, refl, sym, ap, ◌∙◌, subst, inl, inr, arith, le-leb, leb-true}
use Rattle.std.specs.Prelude.{nat_lt, AllPairs, IsTrue}
use Rattle.std.proofs.lemmas.Bool.{lt-ltb, ltb-true}
use Rattle.std.proofs.lemmas.List.{get_or_default}
use Rattle.std.proofs.lemmas.List.Elements.{All-contains}
use Rattle.std.proofs.lemmas.List.Sorted.{Contains-permutation, IsPermutation-sym}
use Rattle.machine_defs.specs.Program.{Program, TextSection, IsPoint}
use Rattle.machine_defs.specs.Machine.{Bases, HasAddress, IsPlacement, IsOutside, point_address}
use Rattle.machine_defs.specs.IsProgram.{IsInText}
use Rattle.table_defs.specs.declared.range.Range.{Range}
use Rattle.table_defs.specs.Placement.{section_in, covers, is_inside}
use Rattle.unwinding_law.proofs.Lists.{here, there, cases, nowhere, found, find_one, in_map}
use Rattle.table_defs.specs.Placed.{IsPlacedBy}
use Rattle.table_defs.specs.TableLaws.{RangesArePlacement}

-- an element of a list's image comes from an element
from_map : {X Y : Type 0} (f : X → Y) (xs : List X) (y : Y) → Contains (map f xs) y → (x : X) × Contains xs x × (f x ≡ y)
from_map f [] y c = nowhere y c
from_map f (x ∷ xs) y c = elim (cases (f x) (map f xs) y c) [ inl e ↦ (x, here x xs, e) | inr d ↦ let r = from_map f xs y d in (r.0, there x xs r.0 r.1, r.2) ]

-- two elements of a list whose pairs are related are one, or are related
pub related : {X : Type 0} (R : X → X → Type 0) (xs : List X) (x y : X) → AllPairs R xs → Contains xs x → Contains xs y → (x ≡ y) ⊎ (R x y ⊎ R y x)
related {X} R xs x y all (i, l, e) (j, m, f) = go (three i j)
  where
    three : (a b : ℕ) → (a < b) ⊎ ((a ≡ b) ⊎ (b < a))
    three a b = grind arith

    go : (i < j) ⊎ ((i ≡ j) ⊎ (j < i)) → (x ≡ y) ⊎ (R x y ⊎ R y x)
    go (inl k) = inr (inl (subst (λ (z : X). R x z) (get_or_default xs j x y m ∙ f) (subst (λ (z : X). R z (slice_index_or xs j x)) e (all i j x k m))))
    go (inr (inl k)) = inl (sym e ∙ get_or_default xs i x y l ∙ ap (λ (n : ℕ). slice_index_or xs n y) k ∙ f)
    go (inr (inr k)) = inr (inr (subst (λ (z : X). R y z) (get_or_default xs i y x l ∙ e) (subst (λ (z : X). R z (slice_index_or xs i y)) f (all j i y k l))))

-- ranges without a common address
abbrev AreApart : Range → Range → Type 0
AreApart one other = (address : ℕ) → IsTrue (covers one address) → IsTrue (covers other address) → ⊥

-- the range of a section
pub record HasRange (bases : Bases) (ranges : List Range) (text : TextSection) : Type 0 where
  pub range : Range
  pub among : Contains ranges range
  pub is : section_in range ≡ text
  pub base : range.base ≡ bases text.sec

module _ (p : Program) (bases : Bases) (ranges : List Range) (placed : IsPlacedBy p bases ranges) where
  -- each section has one, at its base
  pub has_range : (text : TextSection) → Contains p.texts text → HasRange bases ranges text
  has_range text c =
      let one : Contains (map section_in ranges) text = Contains-permutation p.texts (map section_in ranges) text placed.placement.sections c in
      let r = from_map section_in ranges text one in
      record {
        range = r.0;
        among = r.1;
        is = r.2;
        base = All-contains (λ (range : Range). range.base ≡ bases range.sec) ranges r.0 placed.begin r.1 ∙ ap (λ (s : TextSection). bases s.sec) r.2;
      }

  -- so it lies in memory
  in_memory : (text : TextSection) → Contains p.texts text → bases text.sec + text.size < 2 ^ 64
  in_memory text c =
      let h = has_range text c in
      let fits : h.range.base + h.range.size < 2 ^ 64 = All-contains (λ (range : Range). range.base + range.size < 2 ^ 64) ranges h.range placed.placement.in_memory h.among in
      let size : h.range.size ≡ text.size = ap (λ (s : TextSection). s.size) h.is in
      omega (arith, h.base, size)

  -- and its range covers its addresses
  covered : (text : TextSection) (h : HasRange bases ranges text) (address : ℕ) → bases text.sec ≤ address → address < bases text.sec + text.size → covers h.range address ≡ true
  covered text h address low high =
      let size : h.range.size ≡ text.size = ap (λ (s : TextSection). s.size) h.is in
      let a : nat_le h.range.base address ≡ true = le-leb h.range.base address (omega (arith, h.base)) in
      let b : nat_lt address (h.range.base + h.range.size) ≡ true = lt-ltb address (h.range.base + h.range.size) (omega (arith, h.base, size)) in
      rw (a, b) refl

  -- sections that share an address are one
  apart : (one other : TextSection) (address : ℕ) → Contains p.texts one → Contains p.texts other → HasAddress bases one address → HasAddress bases other address → one ≡ other
  apart one other address c d a b =
      let h = has_range one c in
      let k = has_range other d in
      let x = covered one h address a.from a.below in
      let y = covered other k address b.from b.below in
      go h k x y (related AreApart ranges h.range k.range placed.placement.apart h.among k.among)
    where
      same : (h : HasRange bases ranges one) (k : HasRange bases ranges other) → h.range ≡ k.range → one ≡ other
      same h k e = sym h.is ∙ ap section_in e ∙ k.is

      go : (h : HasRange bases ranges one) (k : HasRange bases ranges other) → covers h.range address ≡ true → covers k.range address ≡ true
          → (h.range ≡ k.range) ⊎ (AreApart h.range k.range ⊎ AreApart k.range h.range)
          → one ≡ other
      go h k x y (inl e) = same h k e
      go h k x y (inr (inl f)) = absurd (f address x y)
      go h k x y (inr (inr f)) = absurd (f address y x)

  -- the machine's placement
  pub is_placement : IsPlacement p bases
  is_placement = record { in_memory = in_memory; apart = apart }

  -- an address in a text section is inside
  pub text_inside : (text : TextSection) (address : ℕ) → Contains p.texts text → bases text.sec ≤ address → address < bases text.sec + text.size → is_inside ranges address ≡ true
  text_inside text address c low high =
      let h = has_range text c in
      found (λ range. covers range address) ranges h.range h.among (covered text h address low high)

  -- a number of bytes at an address lie in a section, which lies in memory
  pub record StandsWithin (address len : ℕ) : Type 0 where
    pub text : TextSection
    pub among : Contains p.texts text
    pub from : bases text.sec ≤ address
    pub length : 1 ≤ len
    pub within : address + len ≤ bases text.sec + text.size
    pub in_memory : bases text.sec + text.size < 2 ^ 64

  -- each point stands so
  pub stands_within : IsInText p → (q : ℕ) → IsPoint p q → StandsWithin (point_address p bases q) (p.insn q).len
  stands_within laid q point =
      let w = laid.within q point in
      let base : bases (p.address q).sec ≡ bases (w.0).sec = ap bases (sym w.2) in
      record {
        text = w.0;
        among = w.1;
        from = omega (arith, base);
        length = laid.lengths q point;
        within = omega (arith, base, w.3);
        in_memory = in_memory w.0 w.1;
      }

  -- and what is outside all sections isn't
  pub outside_ranges : (address : ℕ) → IsOutside p bases address → is_inside ranges address ≡ false
  outside_ranges address out = go (is_inside ranges address) refl
    where
      beyond : (range : Range) → Contains ranges range → covers range address ≡ true → ⊥
      beyond range c e =
          let one : Contains p.texts (section_in range) = Contains-permutation (map section_in ranges) p.texts (section_in range) (IsPermutation-sym p.texts (map section_in ranges) placed.placement.sections) (in_map section_in ranges range c) in
          let base : range.base ≡ bases range.sec = All-contains (λ (x : Range). x.base ≡ bases x.sec) ranges range placed.begin c in
          clash range.base (range.base + range.size) (bases range.sec) (bases range.sec + range.size) base (ap (λ (x : ℕ). x + range.size) base) e (out (section_in range) one)
        where
          clash : (low high from to : ℕ) → low ≡ from → high ≡ to → (nat_le low address && nat_lt address high) ≡ true → (address < from) ⊎ (to ≤ address) → ⊥
          clash low high from to a b e o = pick (nat_le low address) (nat_lt address high) refl refl e o
            where
              pick : (x y : Bool) → nat_le low address ≡ x → nat_lt address high ≡ y → (x && y) ≡ true → (address < from) ⊎ (to ≤ address) → ⊥
              pick true true f g e (inl l) = let m = leb-true low address f in omega arith
              pick true true f g e (inr l) = let m = ltb-true address high g in omega arith
              pick true false f g e o = cc
              pick false y f g e o = cc

      go : (b : Bool) → is_inside ranges address ≡ b → is_inside ranges address ≡ false
      go true e = let r = find_one (λ range. covers range address) ranges e in absurd (beyond r.0 r.1 r.2)
      go false e = e

-- what the law asks of a placement
pub ranges_are_placement : RangesArePlacement
ranges_are_placement p bases ranges placed = is_placement p bases ranges placed
