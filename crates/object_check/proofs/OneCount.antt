-- An object has one number of functions, and so much code alone.
use Rattle.std.proofs.Common.{◌≡◌, ℕ, ◌<◌, ◌≤◌, Bool, true, false, List, length, refl, sym, ap, ◌∙◌, subst, arith, inl, inr}
use Rattle.std.specs.Prelude.{◌⊎◌, ◌&&◌}
use Rattle.std.specs.Ordering.{nat_cmp, is_lt, ordering_then}
use Rattle.std.proofs.lemmas.Bool.{cases_lt}
use Rattle.std.proofs.lemmas.Bool.Decides.{nat_tests}
use Rattle.ot_base.specs.declared.place.Place.{Place}
use Rattle.ot_base.specs.Places.{is_before, same_place}
use Rattle.elf_objects.specs.Elf.{Elf}
use Rattle.flow_defs.specs.Coded.{Coded}
use Rattle.symbols_relocs.specs.declared.function.Function.{Function}
use Rattle.symbols_relocs.specs.Functions.{is_function, start_of}
use Rattle.symbols_relocs.specs.Lists.{AreFunctions, function}
use Rattle.object_check.specs.Counts.{IsCounted}
use Rattle.object_check.specs.declared.counts.CodeCounts.{CodeCounts}
use Rattle.indexmap.proofs.IndexTableLemmas.Probe.{Into, OneToOne, pigeonhole}

first_is : (a b : Bool) → (a && b) ≡ true → a ≡ true
first_is true b h = refl
first_is false b h = h

second_is : (a b : Bool) → (a && b) ≡ true → b ≡ true
second_is true b h = h
second_is false b h = cc

same_sec : (p q : Place) → same_place p q ≡ true → p.sec ≡ q.sec
same_sec p q h = grind (arith, nat_tests)

same_off : (p q : Place) → same_place p q ≡ true → p.off ≡ q.off
same_off p q h = grind (arith, nat_tests)

place_of : (p : Place) (sec off : ℕ) → p.sec ≡ sec → p.off ≡ off → p ≡ record { sec = sec; off = off }
place_of p sec off e f = rw (← e, ← f) refl

place_is : (p q : Place) → same_place p q ≡ true → p ≡ q
place_is p q h = place_of p q.sec q.off (same_sec p q h) (same_off p q h)

not_before_itself : (sec off : ℕ) → is_lt (ordering_then (nat_cmp sec sec) (nat_cmp off off)) ≡ true → ⊥
not_before_itself sec off h = grind (arith, nat_tests)

module _ (o : Elf) (fs gs : List Function) (are : AreFunctions o fs) (others : AreFunctions o gs) where
  -- a function of the first list is one of the second
  found : (i : ℕ) → i < length fs → (j : ℕ) × (j < length gs) × ((function gs j).start ≡ (function fs i).start)
  found i inside =
      let size = (are.each i inside).size in
      let some = first_is (is_function o size.symbol) (same_place (start_of o size.symbol) (function fs i).start) size.here in
      let at = place_is (start_of o size.symbol) (function fs i).start (second_is (is_function o size.symbol) (same_place (start_of o size.symbol) (function fs i).start) size.here) in
      let there = others.all size.symbol size.known some in
      (there.0, there.1, there.2 ∙ at)

  number : (i : ℕ) → (i < length fs) ⊎ (length fs ≤ i) → ℕ
  number i (inl inside) = (found i inside).0
  number i (inr beyond) = 0

  number_is : (i : ℕ) (c : (i < length fs) ⊎ (length fs ≤ i)) → i < length fs → (number i c < length gs) × ((function gs (number i c)).start ≡ (function fs i).start)
  unfolding number
  number_is i (inl inside) h = ((found i inside).1, (found i inside).2)
  number_is i (inr beyond) h = absurd (omega (arith, h, beyond))

  place_in : ℕ → ℕ
  place_in i = number i (cases_lt i (length fs))

  into : Into place_in (length fs) (length gs)
  unfolding place_in
  into i inside = (number_is i (cases_lt i (length fs)) inside).0

  apart : (i j : ℕ) → i < j → j < length fs → (function fs i).start ≡ (function fs j).start → ⊥
  apart i j order inside same =
      not_before_itself (function fs j).start.sec (function fs j).start.off (subst (λ (p : Place). is_before p (function fs j).start ≡ true) same (are.rising i j order inside))

  starts : (i j : ℕ) → i < length fs → j < length fs → place_in i ≡ place_in j → (function fs i).start ≡ (function fs j).start
  unfolding place_in
  starts i j p q e =
      sym (number_is i (cases_lt i (length fs)) p).1
      ∙ ap (λ (k : ℕ). (function gs k).start) e
      ∙ (number_is j (cases_lt j (length fs)) q).1

  one : OneToOne place_in (length fs)
  one i j p q e = elim (cases_lt i j) [
    | inl less ↦ absurd (apart i j less q (starts i j p q e))
    | inr most ↦ elim (cases_lt j i) [
      | inl less ↦ absurd (apart j i less p (sym (starts i j p q e)))
      | inr least ↦ omega (arith, most, least)
    ]
  ]

  pub no_more : length fs ≤ length gs
  no_more = pigeonhole (length fs) (length gs) place_in into one

one_count : (o : Elf) (fs gs : List Function) → AreFunctions o fs → AreFunctions o gs → length fs ≡ length gs
one_count o fs gs are others = omega (arith, no_more o fs gs are others, no_more o gs fs others are)

counts_are : (a : CodeCounts) (functions instructions text : ℕ) → a.functions ≡ functions → a.instructions ≡ instructions → a.text_bytes ≡ text → a ≡ record { functions = functions; instructions = instructions; text_bytes = text }
counts_are a functions instructions text e f g = rw (← e, ← f, ← g) refl

-- and it has so much code alone
pub one_counts : (o : Coded) (a b : CodeCounts) → IsCounted o a → IsCounted o b → a ≡ b
one_counts o a b h k =
    counts_are a b.functions b.instructions b.text_bytes
    (h.functions.counted ∙ one_count o.elf h.functions.functions k.functions.functions h.functions.are k.functions.are ∙ sym k.functions.counted)
    (h.instructions ∙ sym k.instructions)
    (h.text ∙ sym k.text)
