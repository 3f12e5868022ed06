-- Relocations at an offset of each entry are one for each entry.
use Rattle.std.proofs.Common.{◌≡◌, ℕ, zero, suc, ◌+◌, ◌<◌, ◌≤◌, Bool, true, false, cond, eqb, ltb, List, [], ◌∷◌, length, filter, arith}
use Rattle.std.proofs.lemmas.Bool.Decides.{nat_tests}
use Rattle.elf_objects.specs.declared.symbol.Reloc.{Reloc}
use Rattle.symbols_relocs.specs.Relocs.{at_offset}

one_more : (p : Reloc → Bool) (r : Reloc) (relocs : List Reloc) → length (filter p (r ∷ relocs)) ≡ cond (p r) 1 0 + length (filter p relocs)
one_more p r relocs = elim (p r) as (λ b. length (cond b (r ∷ filter p relocs) (filter p relocs)) ≡ cond b 1 0 + length (filter p relocs)) [ true ↦ omega arith | false ↦ omega arith ]

both : (p q t : Reloc → Bool) → ((r : Reloc) → cond (p r) 1 0 + cond (q r) 1 0 ≤ cond (t r) 1 0) → (relocs : List Reloc) → length (filter p relocs) + length (filter q relocs) ≤ length (filter t relocs)
both p q t each [] = omega arith
both p q t each (r ∷ relocs) =
    let rest : length (filter p relocs) + length (filter q relocs) ≤ length (filter t relocs) = both p q t each relocs in
    let here : cond (p r) 1 0 + cond (q r) 1 0 ≤ cond (t r) 1 0 = each r in
    omega (arith, one_more p r relocs, one_more q r relocs, one_more t r relocs)

all_of : (p : Reloc → Bool) (relocs : List Reloc) → length (filter p relocs) ≤ length relocs
all_of p [] = omega arith
all_of p (r ∷ relocs) =
    let rest : length (filter p relocs) ≤ length relocs = all_of p relocs in
    elim (p r) as (λ b. length (cond b (r ∷ filter p relocs) (filter p relocs)) ≤ suc (length relocs)) [ true ↦ omega arith | false ↦ omega arith ]

apart : (a x y : ℕ) → x < y → cond (ltb a x) 1 0 + cond (eqb a x) 1 0 ≤ cond (ltb a y) 1 0
apart a x y less = grind (arith, nat_tests)

-- where the entries stand at offsets that rise
module _ (relocs : List Reloc) (at : ℕ → ℕ) (rises : (n : ℕ) → at n < at (suc n)) (count : ℕ) (there : (e : ℕ) → e < count → 1 ≤ length (at_offset (at e) relocs)) where
  one_below : (n : ℕ) → n ≤ count → n ≤ length (filter (λ r. ltb r.offset (at n)) relocs)
  one_below zero within = omega arith
  one_below (suc n) within =
      let rest : n ≤ length (filter (λ r. ltb r.offset (at n)) relocs) = one_below n (omega arith) in
      let one : 1 ≤ length (at_offset (at n) relocs) = there n (omega arith) in
      let all : length (filter (λ r. ltb r.offset (at n)) relocs) + length (at_offset (at n) relocs) ≤ length (filter (λ r. ltb r.offset (at (suc n))) relocs) = both (λ r. ltb r.offset (at n)) (λ r. eqb r.offset (at n)) (λ r. ltb r.offset (at (suc n))) (λ r. apart r.offset (at n) (at (suc n)) (rises n)) relocs in
      omega arith

  pub one_each : count ≤ length relocs
  one_each =
      let below : count ≤ length (filter (λ r. ltb r.offset (at count)) relocs) = one_below count (omega arith) in
      let all : length (filter (λ r. ltb r.offset (at count)) relocs) ≤ length relocs = all_of (λ r. ltb r.offset (at count)) relocs in
      omega arith
