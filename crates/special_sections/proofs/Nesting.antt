-- The greatest length of the originals at each place, with one more entry.
use Rattle.std.proofs.Common.{◌≡◌, ℕ, Bool, true, false, cond, eqb, ◌&&◌, max, List, [], ◌∷◌, ◌++◌, filter, fold, unwrap_or, Some, arith, refl, sym, ap, ◌∙◌}
use Rattle.std.specs.BTreeMap.{BTreeMap, Updates, get}
use Rattle.std.specs.Ordering.{is_eq, nat_cmp, ordering_then}
use Rattle.std.proofs.lemmas.Bool.Decides.{nat_tests}
use Rattle.std.proofs.lemmas.List.Elements.{filter-append}
use Rattle.std.proofs.lemmas.List.Sums.{fold-append}
use Rattle.ot_base.specs.declared.place.Place.{Place}
use Rattle.ot_base.specs.Places.{place_cmp, same_place}
use Rattle.special_sections.specs.declared.entries.AltEntry.{AltEntry}
use Rattle.special_sections.specs.Longest.{AreLongest}
use Rattle.special_sections.specs.Nested.{longest_at}

abbrev longer : ℕ → AltEntry → ℕ
longer longest a = max longest a.original_len

last_or_not : (longest : ℕ) (a : AltEntry) (b : Bool) → fold longer longest (cond b (a ∷ []) []) ≡ cond b (max longest a.original_len) longest
last_or_not longest a true = refl
last_or_not longest a false = refl

pub one_more : (entries : List AltEntry) (a : AltEntry) (place : Place) → longest_at (entries ++ a ∷ []) place ≡ cond (same_place a.original place) (max (longest_at entries place) a.original_len) (longest_at entries place)
one_more entries a place =
    ap (fold longer 0) (filter-append (λ (e : AltEntry). same_place e.original place) entries (a ∷ []))
    ∙ fold-append longer 0 (filter (λ (e : AltEntry). same_place e.original place) entries) (cond (same_place a.original place) (a ∷ []) [])
    ∙ last_or_not (longest_at entries place) a (same_place a.original place)

tied_is_same : (a b c d : ℕ) → is_eq (ordering_then (nat_cmp a c) (nat_cmp b d)) ≡ (eqb a c && eqb b d)
tied_is_same a b c d = grind (arith, nat_tests)

same_sec : (a b c d : ℕ) → (eqb a c && eqb b d) ≡ true → a ≡ c
same_sec a b c d same = grind (arith, nat_tests)

same_off : (a b c d : ℕ) → (eqb a c && eqb b d) ≡ true → b ≡ d
same_off a b c d same = grind (arith, nat_tests)

place_of : (p : Place) (sec off : ℕ) → p.sec ≡ sec → p.off ≡ off → p ≡ record { sec = sec; off = off }
place_of p sec off e f = rw (← e, ← f) refl

pub same_is : (p q : Place) → same_place p q ≡ true → p ≡ q
same_is p q same = place_of p q.sec q.off (same_sec p.sec p.off q.sec q.off same) (same_off p.sec p.off q.sec q.off same)

both_same : (a b : ℕ) → (eqb a a && eqb b b) ≡ true
both_same a b = grind (arith, nat_tests)

pub is_same : (p : Place) → same_place p p ≡ true
is_same p = both_same p.sec p.off

-- a map in which the place of one more entry has got its new length
pub lengths_with : (entries : List AltEntry) (a : AltEntry) (m n : BTreeMap Place ℕ) (longest : ℕ) → AreLongest entries m → Updates place_cmp m n a.original (Some longest) → longest ≡ max (longest_at entries a.original) a.original_len → AreLongest (entries ++ a ∷ []) n
lengths_with entries a m n longest old updates is = record {
  each = λ place.
      ap (λ o. unwrap_or o 0) (updates.0 place ∙ ap (λ b. cond b (Some longest) (get place_cmp m place)) (tied_is_same a.original.sec a.original.off place.sec place.off))
      ∙ go place (same_place a.original place) refl
      ∙ sym (one_more entries a place);
}
  where
    go : (place : Place) (b : Bool) → same_place a.original place ≡ b → unwrap_or (cond b (Some longest) (get place_cmp m place)) 0 ≡ cond b (max (longest_at entries place) a.original_len) (longest_at entries place)
    go place true same = is ∙ ap (λ q. max (longest_at entries q) a.original_len) (same_is a.original place same)
    go place false other = old.each place
