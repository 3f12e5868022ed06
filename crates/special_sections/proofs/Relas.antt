-- The relocations of all sections of an object have 24 bytes of its file each.
use Rattle.std.proofs.Common.{◌≡◌, ℕ, zero, suc, ◌+◌, ◌*◌, ◌/◌, ◌<◌, ◌≤◌, Bool, true, false, cond, eqb, List, length, map, Option, Some, None, inl, inr, refl, sym, ap, subst, ◌∙◌, arith}
use Rattle.std.specs.List.{range_with_len}
use Rattle.std.proofs.lemmas.Bool.Decides.{eqb_tells, nat_tests}
use Rattle.std.proofs.lemmas.List.FromFn.{length-map-range_with_len}
use Rattle.elf_objects.specs.Below.{least_below, first_of}
use Rattle.elf_objects.specs.File.{section_count, section_header}
use Rattle.elf_objects.specs.Header.{has_body}
use Rattle.elf_objects.specs.declared.TheConstants.{SHT_RELA}
use Rattle.elf_objects.specs.Object.{IsWellFormed}
use Rattle.elf_objects.specs.Contents.{relocs_of}
use Rattle.elf_objects.specs.Table.{header_of, is_rela_of, rela_of, reloc_of}
use Rattle.special_sections.proofs.Totals.{total, total_le}
use Rattle.special_sections.proofs.Intervals.{sizes_fit}

-- the least number that passes a test is below the bound, and passes
record Least (p : ℕ → Bool) (n k : ℕ) : Type 0 where
  below : k < n
  passes : p k ≡ true

least_first : (p : ℕ → Bool) (n k : ℕ) (o : Option ℕ) (x : Bool) → p n ≡ x → ((j : ℕ) → o ≡ Some j → Least p n j) → first_of o (cond x (Some n) None) ≡ Some k → Least p (suc n) k
least_first p n k (Some j) x is earlier found =
    let same : j ≡ k = cc in
    let e = earlier j refl in
    record { below = omega (arith, e.below); passes = subst (λ i. p i ≡ true) same e.passes }
least_first p n k None true is earlier found =
    let same : n ≡ k = cc in
    record { below = omega arith; passes = subst (λ i. p i ≡ true) same is }
least_first p n k None false is earlier found = cc

least : (p : ℕ → Bool) (n k : ℕ) → least_below p n ≡ Some k → Least p n k
unfolding least_below
least p zero k found = cc
least p (suc n) k found = least_first p n k (least_below p n) (p n) refl (λ j at. least p n j at) found

module _ (b : List ℕ) (well : IsWellFormed b) where
  -- the section i has the relocations of the section s
  record HasRelocsOf (s i : ℕ) : Type 0 where
    below : i < section_count b
    kind : (section_header b i).kind ≡ SHT_RELA
    info : (section_header b i).info ≡ s

  has_relocs : (s i : ℕ) → rela_of b s ≡ Some i → HasRelocsOf s i
  unfolding rela_of
  has_relocs s i found =
      let l = least (is_rela_of b s) (section_count b) i found in
      let kind : eqb (section_header b i).kind SHT_RELA ≡ true = grind (arith, nat_tests, l.passes) in
      record { below = l.below; kind = grind (arith, nat_tests, l.passes); info = grind (arith, nat_tests, l.passes) }

  has_body_there : (s i : ℕ) → HasRelocsOf s i → has_body (section_header b i) ≡ true
  has_body_there s i h = rw h.kind refl

  start : ℕ → ℕ
  start s = (header_of b (rela_of b s)).offset

  size : ℕ → ℕ
  size s = (header_of b (rela_of b s)).size

  inside_at : (s : ℕ) (r : Option ℕ) → rela_of b s ≡ r → (header_of b r).offset + (header_of b r).size ≤ length b
  unfolding header_of
  inside_at s None is = omega arith
  inside_at s (Some i) is =
      let h = has_relocs s i is in
      (well.bodies i h.below).placed.inside (has_body_there s i h)

  inside : (s : ℕ) → s < section_count b → start s + size s ≤ length b
  unfolding start size
  inside s known = inside_at s (rela_of b s) refl

  apart_at : (s t x : ℕ) (q r : Option ℕ) → rela_of b s ≡ q → rela_of b t ≡ r → (header_of b q).offset ≤ x → x < (header_of b q).offset + (header_of b q).size → (header_of b r).offset ≤ x → x < (header_of b r).offset + (header_of b r).size → s ≡ t
  unfolding header_of
  apart_at s t x None r is other from to from' to' = absurd (omega arith)
  apart_at s t x (Some i) None is other from to from' to' = absurd (omega arith)
  apart_at s t x (Some i) (Some j) is other from to from' to' =
      let h = has_relocs s i is in
      let g = has_relocs t j other in
      elim (eqb_tells j i) [
        | inl (tested, same) ↦ sym h.info ∙ ap (λ k. (section_header b k).info) (sym same) ∙ g.info
        | inr (tested, differ) ↦
            absurd (((well.bodies i h.below).alone h.kind).apart j g.below differ (x, (has_body_there s i h, from, to), (has_body_there t j g, from', to')))
      ]

  apart : (s t x : ℕ) → s < section_count b → t < section_count b → start s ≤ x → x < start s + size s → start t ≤ x → x < start t + size t → s ≡ t
  unfolding start size
  apart s t x k l from to from' to' = apart_at s t x (rela_of b s) (rela_of b t) refl refl from to from' to'

  bytes_of : (s : ℕ) → 24 * length (relocs_of b s) ≤ size s
  unfolding relocs_of size
  bytes_of s =
      let h = header_of b (rela_of b s) in
      let many : length (map (reloc_of b h) (range_with_len 0 (h.size / 24))) ≡ h.size / 24 = length-map-range_with_len (reloc_of b h) 0 (h.size / 24) in
      omega arith

  pub relocs_fit : total (λ s. 24 * length (relocs_of b s)) (section_count b) ≤ length b
  relocs_fit =
      let few : total (λ s. 24 * length (relocs_of b s)) (section_count b) ≤ total size (section_count b) = total_le (λ s. 24 * length (relocs_of b s)) size (section_count b) (λ s l. bytes_of s) in
      let fit : total size (section_count b) ≤ length b = sizes_fit start size (section_count b) (length b) apart inside in
      omega arith
