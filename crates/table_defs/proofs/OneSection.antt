-- One text section has one range.
use Rattle.std.proofs.Common.{◌≡◌, ◌+◌, ◌<◌, ◌^◌, [], ◌∷◌, map, length, refl, ap, subst, arith}
use Rattle.std.proofs.lemmas.List.Elements.{All-head, All-cons, All-nil, All-contains}
use Rattle.std.proofs.lemmas.List.Sorted.{Contains-permutation, length_permutation}
use Rattle.std.specs.Prelude.{Contains}
use Rattle.table_defs.specs.declared.range.Range.{Range}
use Rattle.table_defs.specs.Placement.{TextSection, section_in}
use Rattle.table_defs.specs.WalkLaws.{OneRange}

alone : (x y : TextSection) → Contains (x ∷ []) y → x ≡ y
alone x y h = All-contains (λ z. x ≡ z) (x ∷ []) y (All-cons (λ z. x ≡ z) x [] refl (All-nil (λ z. x ≡ z))) h

pub one_range : OneRange
one_range text [] placed =
    let count : 0 ≡ 1 = length_permutation (text ∷ []) [] placed.sections in
    absurd (omega (arith, count))
one_range text (range ∷ []) placed =
    let here : Contains (section_in range ∷ []) text = Contains-permutation (text ∷ []) (section_in range ∷ []) text placed.sections (0, omega arith, refl) in
    let same : section_in range ≡ text = alone (section_in range) text here in
    let fits : range.base + range.size < 2 ^ 64 = All-head (λ (r : Range). r.base + r.size < 2 ^ 64) range [] placed.in_memory in (
      range.base,
      subst (λ (t : TextSection). range.base + t.size < 2 ^ 64) same fits,
      ap (λ (t : TextSection). record { sec = t.sec; base = range.base; size = t.size } ∷ []) same,
    )
one_range text (range ∷ other ∷ ranges) placed =
    let count : length (map section_in (range ∷ other ∷ ranges)) ≡ 1 = length_permutation (text ∷ []) (map section_in (range ∷ other ∷ ranges)) placed.sections in
    absurd (omega (arith, count))
