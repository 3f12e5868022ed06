-- Relocations at two offsets of each entry of 14 bytes are two for each entry.
use Rattle.std.proofs.Common.{◌≡◌, ℕ, zero, suc, ◌+◌, ◌*◌, ◌<◌, ◌≤◌, Bool, true, false, cond, eqb, ltb, List, [], ◌∷◌, length, filter, arith}
use Rattle.std.proofs.lemmas.Bool.Decides.{nat_tests}
use Rattle.elf_objects.specs.declared.symbol.Reloc.{Reloc}
use Rattle.symbols_relocs.specs.Relocs.{at_offset}

one_more : (p : Reloc → Bool) (r : Reloc) (relocs : List Reloc) → length (filter p (r ∷ relocs)) ≡ cond (p r) 1 0 + length (filter p relocs)
one_more p r relocs = elim (p r) as (λ b. length (cond b (r ∷ filter p relocs) (filter p relocs)) ≡ cond b 1 0 + length (filter p relocs)) [ true ↦ omega arith | false ↦ omega arith ]

three : (p q s t : Reloc → Bool) → ((r : Reloc) → cond (p r) 1 0 + cond (q r) 1 0 + cond (s r) 1 0 ≤ cond (t r) 1 0) → (relocs : List Reloc) → length (filter p relocs) + length (filter q relocs) + length (filter s relocs) ≤ length (filter t relocs)
three p q s t each [] = omega arith
three p q s t each (r ∷ relocs) =
    let rest : length (filter p relocs) + length (filter q relocs) + length (filter s relocs) ≤ length (filter t relocs) = three p q s t each relocs in
    let here : cond (p r) 1 0 + cond (q r) 1 0 + cond (s r) 1 0 ≤ cond (t r) 1 0 = each r in
    omega (arith, one_more p r relocs, one_more q r relocs, one_more s r relocs, one_more t r relocs)

all_of : (p : Reloc → Bool) (relocs : List Reloc) → length (filter p relocs) ≤ length relocs
all_of p [] = omega arith
all_of p (r ∷ relocs) =
    let rest : length (filter p relocs) ≤ length relocs = all_of p relocs in
    elim (p r) as (λ b. length (cond b (r ∷ filter p relocs) (filter p relocs)) ≤ suc (length relocs)) [ true ↦ omega arith | false ↦ omega arith ]

apart : (a n : ℕ) → cond (ltb a (14 * n)) 1 0 + cond (eqb a (14 * n)) 1 0 + cond (eqb a (14 * n + 4)) 1 0 ≤ cond (ltb a (14 * suc n)) 1 0
apart a n = grind (arith, nat_tests)

module _ (relocs : List Reloc) (count : ℕ) (first : (e : ℕ) → e < count → 1 ≤ length (at_offset (14 * e) relocs)) (second : (e : ℕ) → e < count → 1 ≤ length (at_offset (14 * e + 4) relocs)) where
  two_below : (n : ℕ) → n ≤ count → 2 * n ≤ length (filter (λ r. ltb r.offset (14 * n)) relocs)
  two_below zero within = omega arith
  two_below (suc n) within =
      let rest : 2 * n ≤ length (filter (λ r. ltb r.offset (14 * n)) relocs) = two_below n (omega arith) in
      let one : 1 ≤ length (at_offset (14 * n) relocs) = first n (omega arith) in
      let other : 1 ≤ length (at_offset (14 * n + 4) relocs) = second n (omega arith) in
      let all : length (filter (λ r. ltb r.offset (14 * n)) relocs) + length (at_offset (14 * n) relocs) + length (at_offset (14 * n + 4) relocs) ≤ length (filter (λ r. ltb r.offset (14 * suc n)) relocs) = three (λ r. ltb r.offset (14 * n)) (λ r. eqb r.offset (14 * n)) (λ r. eqb r.offset (14 * n + 4)) (λ r. ltb r.offset (14 * suc n)) (λ r. apart r.offset n) relocs in
      omega arith

  pub two_each : 2 * count ≤ length relocs
  two_each =
      let below : 2 * count ≤ length (filter (λ r. ltb r.offset (14 * count)) relocs) = two_below count (omega arith) in
      let all : length (filter (λ r. ltb r.offset (14 * count)) relocs) ≤ length relocs = all_of (λ r. ltb r.offset (14 * count)) relocs in
      omega arith
