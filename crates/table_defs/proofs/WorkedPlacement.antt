-- Two sections end to end are placed.
use Rattle.std.proofs.Common.{◌≡◌, ℕ, ◌+◌, ◌<◌, ◌^◌, Bool, true, false, ◌&&◌, [], ◌∷◌, nat_le, nat_lt, refl, arith, lit<, leb-true}
use Rattle.std.specs.Prelude.{IsTrue}
use Rattle.std.proofs.lemmas.Bool.{ltb-true}
use Rattle.std.proofs.lemmas.List.Elements.{All-nil, All-cons}
use Rattle.std.proofs.lemmas.List.Kept.{AllPairs-cons}
use Rattle.std.proofs.lemmas.List.Sorted.{IsPermutation-refl}
use Rattle.table_defs.specs.declared.range.Range.{Range}
use Rattle.table_defs.specs.Placement.{IsPlacement, covers}
use Rattle.table_defs.specs.Worked.{placed_at, end_to_end, two_sections}

abbrev FitsMemory : Range → Type 0
FitsMemory range = range.base + range.size < 2 ^ 64

abbrev AreApart : Range → Range → Type 0
AreApart one other = (address : ℕ) → IsTrue (covers one address) → IsTrue (covers other address) → ⊥

apart : AreApart (placed_at 1 0x1000 6) (placed_at 2 0x1006 1)
apart address = go (nat_le 0x1000 address) (nat_lt address 0x1006) (nat_le 0x1006 address) (nat_lt address 0x1007) refl refl
  where
    go : (a b c d : Bool) → nat_lt address 0x1006 ≡ b → nat_le 0x1006 address ≡ c → IsTrue (a && b) → IsTrue (c && d) → ⊥
    go true true true d below above h k = omega (arith, ltb-true address 0x1006 below, leb-true 0x1006 address above)
    go true true false d below above h k = absurd (let e : false ≡ true = k in cc)
    go true false c d below above h k = absurd (let e : false ≡ true = h in cc)
    go false b c d below above h k = absurd (let e : false ≡ true = h in cc)

pub placed : IsPlacement two_sections end_to_end
placed = record {
  sections = IsPermutation-refl two_sections;
  in_memory = All-cons FitsMemory (placed_at 1 0x1000 6) (placed_at 2 0x1006 1 ∷ []) (lit< tt) (All-cons FitsMemory (placed_at 2 0x1006 1) [] (lit< tt) (All-nil FitsMemory));
  apart = AllPairs-cons AreApart (placed_at 1 0x1000 6) (placed_at 2 0x1006 1 ∷ []) (All-cons (AreApart (placed_at 1 0x1000 6)) (placed_at 2 0x1006 1) [] apart (All-nil (AreApart (placed_at 1 0x1000 6)))) (AllPairs-cons AreApart (placed_at 2 0x1006 1) [] (All-nil (AreApart (placed_at 2 0x1006 1))) (λ i j range before within. absurd (omega (arith, within))));
}
