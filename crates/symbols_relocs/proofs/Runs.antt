-- The relocations at an offset, among those in the order of their offsets.
use Rattle.std.proofs.Common.{◌≡◌, ℕ, zero, suc, ◌<◌, ◌≤◌, cond, List, [], ◌∷◌, Some, None, length, take, drop, get_or, slice_get, arith, refl, ap, ◌∙◌}
use Rattle.std.proofs.lemmas.Bool.{eq-eqb, ne_eqb}
use Rattle.elf_objects.specs.declared.symbol.Reloc.{Reloc}
use Rattle.symbols_relocs.specs.Relocs.{at_offset, first_at_offset}

-- the relocations below an offset are passed by
at_offset_other : (off : ℕ) (r : Reloc) (relocs : List Reloc) → (r.offset ≡ off → ⊥) → at_offset off (r ∷ relocs) ≡ at_offset off relocs
at_offset_other off r relocs other = ap (λ b. cond b (r ∷ at_offset off relocs) (at_offset off relocs)) (ne_eqb r.offset off other)

at_offset_here : (off : ℕ) (r : Reloc) (relocs : List Reloc) → r.offset ≡ off → at_offset off (r ∷ relocs) ≡ r ∷ at_offset off relocs
at_offset_here off r relocs here = ap (λ b. cond b (r ∷ at_offset off relocs) (at_offset off relocs)) (eq-eqb r.offset off here)

-- those from `start` up to `end` are the relocations at an offset, where those before are below it and those behind are above it
pub run_is : (off : ℕ) (relocs : List Reloc) (start end : ℕ) → start ≤ end → end ≤ length relocs
    → ((k : ℕ) (d : Reloc) → k < start → (get_or relocs k d).offset < off)
    → ((k : ℕ) (d : Reloc) → start ≤ k → k < end → (get_or relocs k d).offset ≡ off)
    → ((k : ℕ) (d : Reloc) → end ≤ k → k < length relocs → off < (get_or relocs k d).offset)
    → drop start (take end relocs) ≡ at_offset off relocs
run_is off [] zero zero order inside below here above = refl
run_is off [] zero (suc end) order inside below here above = absurd (omega arith)
run_is off [] (suc start) end order inside below here above = absurd (omega arith)
run_is off (r ∷ relocs) zero zero order inside below here above =
    run_is off relocs zero zero (omega arith) (omega arith) (λ k d h. absurd (omega arith)) (λ k d l h. absurd (omega arith)) (λ k d l h. above (suc k) d (omega arith) (omega arith))
    ∙ (let first : off < r.offset = above 0 r (omega arith) (omega arith) in let e = at_offset_other off r relocs (λ same. omega arith) in cc)
run_is off (r ∷ relocs) zero (suc end) order inside below here above =
    ap (λ rs. r ∷ rs) (run_is off relocs zero end (omega arith) (omega arith) (λ k d h. absurd (omega arith)) (λ k d l h. here (suc k) d (omega arith) (omega arith)) (λ k d l h. above (suc k) d (omega arith) (omega arith)))
    ∙ (let e = at_offset_here off r relocs (here 0 r (omega arith) (omega arith)) in cc)
run_is off (r ∷ relocs) (suc start) zero order inside below here above = absurd (omega arith)
run_is off (r ∷ relocs) (suc start) (suc end) order inside below here above =
    run_is off relocs start end (omega arith) (omega arith) (λ k d h. below (suc k) d (omega arith)) (λ k d l h. here (suc k) d (omega arith) (omega arith)) (λ k d l h. above (suc k) d (omega arith) (omega arith))
    ∙ (let first : r.offset < off = below 0 r (omega arith) in let e = at_offset_other off r relocs (λ same. omega arith) in cc)

-- as many are below an offset as are at it or below, at most
pub below_first : (off : ℕ) (relocs : List Reloc) (d : Reloc) (start end : ℕ) → start ≤ length relocs
    → ((k : ℕ) (d : Reloc) → k < start → (get_or relocs k d).offset < off)
    → ((k : ℕ) (d : Reloc) → end ≤ k → k < length relocs → off < (get_or relocs k d).offset)
    → start ≤ end
below_first off relocs d start end inside below above = at_most start end (λ later. let low : (get_or relocs end d).offset < off = below end d later in let high : off < (get_or relocs end d).offset = above end d (omega arith) (omega arith) in omega arith)
  where
    at_most : (m n : ℕ) → (n < m → ⊥) → m ≤ n
    at_most m n not = omega arith

-- where one behind those below an offset is at it, it is the first
pub first_here : (off : ℕ) (relocs : List Reloc) (start : ℕ) (d : Reloc) → start < length relocs
    → ((k : ℕ) (d : Reloc) → k < start → (get_or relocs k d).offset < off)
    → (get_or relocs start d).offset ≡ off
    → first_at_offset off relocs ≡ Some (get_or relocs start d)
first_here off [] start d inside below here = absurd (omega arith)
first_here off (r ∷ relocs) zero d inside below here = ap (λ rs. slice_get rs 0) (at_offset_here off r relocs here)
first_here off (r ∷ relocs) (suc start) d inside below here =
    ap (λ rs. slice_get rs 0) (let first : r.offset < off = below 0 r (omega arith) in at_offset_other off r relocs (λ same. omega arith))
    ∙ first_here off relocs start d (omega arith) (λ k d h. below (suc k) d (omega arith)) here

-- where those behind are above it, there are none
pub none_at : (off : ℕ) (relocs : List Reloc) (start : ℕ)
    → ((k : ℕ) (d : Reloc) → k < start → (get_or relocs k d).offset < off)
    → ((k : ℕ) (d : Reloc) → start ≤ k → k < length relocs → off < (get_or relocs k d).offset)
    → at_offset off relocs ≡ []
none_at off [] start below above = refl
none_at off (r ∷ relocs) zero below above =
    (let first : off < r.offset = above 0 r (omega arith) (omega arith) in at_offset_other off r relocs (λ same. omega arith))
    ∙ none_at off relocs zero (λ k d h. absurd (omega arith)) (λ k d l h. above (suc k) d (omega arith) (omega arith))
none_at off (r ∷ relocs) (suc start) below above =
    (let first : r.offset < off = below 0 r (omega arith) in at_offset_other off r relocs (λ same. omega arith))
    ∙ none_at off relocs start (λ k d h. below (suc k) d (omega arith)) (λ k d l h. above (suc k) d (omega arith) (omega arith))

-- so there is no first
pub first_none : (off : ℕ) (relocs : List Reloc) (start : ℕ)
    → ((k : ℕ) (d : Reloc) → k < start → (get_or relocs k d).offset < off)
    → ((k : ℕ) (d : Reloc) → start ≤ k → k < length relocs → off < (get_or relocs k d).offset)
    → first_at_offset off relocs ≡ None
first_none off relocs start below above = ap (λ rs. slice_get rs 0) (none_at off relocs start below above)
