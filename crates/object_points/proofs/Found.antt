-- Owners in a list.
use Rattle.std.proofs.Common.{◌≡◌, ℕ, ◌+◌, ◌<◌, ◌≤◌, true, false, eqb, ◌||◌, List, [], ◌∷◌, ◌++◌, length, get_or, take, Option, Some, None, inl, inr, sym, ap, ◌∙◌, refl, arith}
use Rattle.std.specs.Prelude.{filter_map, MatchResult, Result, Ok, Err}
use Rattle.std.specs.List.{cons_option, list_any}
use Rattle.std.specs.Result.{is_ok}
use Rattle.std.proofs.lemmas.Bool.{cases_lt}
use Rattle.std.proofs.lemmas.Bool.Decides.{nat_tests}
use Rattle.std.proofs.lemmas.List.{take_more}
use Rattle.std.proofs.lemmas.List.Elements.{All-from_get_or, filter_map-append}
use Rattle.std.proofs.lemmas.List.Folds.{list_any_at, list_any_none}
use Rattle.flow_defs.specs.Tables.{same_owner}
use Rattle.object_points.specs.Unchecked.{is_among}

same_number : (a b : ℕ) → a ≡ b → eqb a b ≡ true
same_number a b same = grind (arith, nat_tests)

lower_number : (a b : ℕ) → a < b → eqb a b ≡ false
lower_number a b less = grind (arith, nat_tests)

higher_number : (a b : ℕ) → b < a → eqb a b ≡ false
higher_number a b less = grind (arith, nat_tests)

-- what halving finds
pub among_searched : (ns : List ℕ) (n : ℕ) (r : Result ℕ ℕ) → MatchResult r (λ i. (i < length ns) × (get_or ns i 0 ≡ n)) (λ i. (i ≤ length ns) × ((k : ℕ) → k < i → get_or ns k 0 < n) × ((k : ℕ) → i ≤ k → k < length ns → n < get_or ns k 0)) → is_ok r ≡ is_among ns n
among_searched ns n (Ok i) at = sym (list_any_at (λ k. eqb k n) ns i 0 at.0 (same_number (get_or ns i 0) n at.1))
among_searched ns n (Err i) apart =
    sym (list_any_none (λ k. eqb k n) ns (All-from_get_or (λ k. eqb k n ≡ false) ns 0 (λ k inside.
    elim (cases_lt k i) [
      | inl lower ↦ lower_number (get_or ns k 0) n (apart.1 k lower)
      | inr behind ↦ higher_number (get_or ns k 0) n (apart.2 k behind inside)
    ])))

-- what is made of one more
pub made_more : {X Y : Type 0} (h : X → Option Y) (xs : List X) (i : ℕ) (d : X) (made : Option Y) → i < length xs → h (get_or xs i d) ≡ made → filter_map h (take (i + 1) xs) ≡ filter_map h (take i xs) ++ cons_option made []
made_more h xs i d made inside is =
    ap (filter_map h) (take_more xs i d inside)
    ∙ filter_map-append h (take i xs) (get_or xs i d ∷ [])
    ∙ ap (λ o. filter_map h (take i xs) ++ cons_option o []) is

one_or_none : {X : Type 0} (h : X → Option ℕ) (xs : List X) (owner : ℕ) (made : Option ℕ) → is_among (filter_map h xs) owner ≡ list_any (λ x. same_owner (h x) (Some owner)) xs → is_among (cons_option made (filter_map h xs)) owner ≡ (same_owner made (Some owner) || list_any (λ x. same_owner (h x) (Some owner)) xs)
one_or_none h xs owner (Some n) rest = ap (λ b. eqb n owner || b) rest
one_or_none h xs owner None rest = rest

-- an owner is among those of some starts where it is that of one of them
pub among_made : {X : Type 0} (h : X → Option ℕ) (xs : List X) (owner : ℕ) → is_among (filter_map h xs) owner ≡ list_any (λ x. same_owner (h x) (Some owner)) xs
among_made h [] owner = refl
among_made h (x ∷ xs) owner = one_or_none h xs owner (h x) (among_made h xs owner)
