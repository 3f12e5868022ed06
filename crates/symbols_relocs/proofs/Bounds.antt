-- What one relocation tells of those before and behind it, where they are in the order of their offsets.
use Rattle.std.proofs.Common.{◌≡◌, ℕ, ◌<◌, ◌≤◌, List, length, get_or, ap, pos, arith}
use Rattle.std.specs.List.Sorted.{IsNonDecreasingBy}
use Rattle.std.proofs.lemmas.List.{get_or_default}
use Rattle.elf_objects.specs.declared.symbol.Reloc.{Reloc}

abbrev pub none : Reloc
none = record { offset = 0; kind = 0; sym = 0; addend = pos 0 }

abbrev pub offset_at : List Reloc → ℕ → Reloc → ℕ
offset_at relocs i d = (get_or relocs i d).offset

-- there the offset is the same, whatever stands for none
same_offset : (relocs : List Reloc) (i : ℕ) (d : Reloc) → i < length relocs → offset_at relocs i none ≡ offset_at relocs i d
same_offset relocs i d inside = ap (λ (r : Reloc). r.offset) (get_or_default relocs i none d inside)

-- those behind are no lower
pub behind : (relocs : List Reloc) → IsNonDecreasingBy (λ (r : Reloc). r.offset) relocs → (i k : ℕ) (d : Reloc) → i ≤ k → k < length relocs → offset_at relocs i none ≤ offset_at relocs k d
behind relocs sorted i k d from inside =
    let same = same_offset relocs i d (omega arith) in
    let order : offset_at relocs i d ≤ offset_at relocs k d = sorted i k d from inside in
    omega (arith, same, order)

-- those before are no higher
pub before : (relocs : List Reloc) → IsNonDecreasingBy (λ (r : Reloc). r.offset) relocs → (i k : ℕ) (d : Reloc) → k ≤ i → i < length relocs → offset_at relocs k d ≤ offset_at relocs i none
before relocs sorted i k d to inside =
    let same = same_offset relocs i d inside in
    let order : offset_at relocs k d ≤ offset_at relocs i d = sorted k i d to inside in
    omega (arith, same, order)
