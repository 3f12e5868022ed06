-- Where a place leads, among pairs in the order of their first places.
use Rattle.std.proofs.Common.{◌≡◌, ℕ, zero, suc, ◌<◌, ◌≤◌, true, false, cond, List, [], ◌∷◌, length, take, drop, map, filter, get_or, inl, inr, arith, refl, sym, ap, ◌∙◌}
use Rattle.std.specs.List.{zip}
use Rattle.std.proofs.lemmas.Bool.{cases_lt}
use Rattle.ot_base.specs.declared.place.Place.{Place}
use Rattle.ot_base.specs.Places.{is_before, same_place}
use Rattle.object_points.specs.Places.{targets_of}
use Rattle.object_points.proofs.Order.{before_is_other, behind_is_other, neither_is_same, no_place, not_before_and_behind}

-- the pairs are those of their first and their second places
pub zip_parts : (pairs : List (Place × Place)) → zip (map (λ e. e.0) pairs) (map (λ e. e.1) pairs) ≡ pairs
zip_parts [] = refl
zip_parts (e ∷ pairs) = ap (λ es. e ∷ es) (zip_parts pairs)

pass_by : (p t : Place) (pairs : List (Place × Place)) (place : Place) → same_place p place ≡ false → targets_of ((p, t) ∷ pairs) place ≡ targets_of pairs place
pass_by p t pairs place other = ap (λ b. map (λ (e : Place × Place). e.1) (cond b ((p, t) ∷ filter (λ (e : Place × Place). same_place e.0 place) pairs) (filter (λ (e : Place × Place). same_place e.0 place) pairs))) other

take_one : (p t : Place) (pairs : List (Place × Place)) (place : Place) → same_place p place ≡ true → targets_of ((p, t) ∷ pairs) place ≡ t ∷ targets_of pairs place
take_one p t pairs place here = ap (λ b. map (λ (e : Place × Place). e.1) (cond b ((p, t) ∷ filter (λ (e : Place × Place). same_place e.0 place) pairs) (filter (λ (e : Place × Place). same_place e.0 place) pairs))) here

-- Those from `first` up to `end` are where a place leads, where the places there are that one, and the others are not.
pub run_is : (place : Place) (places targets : List Place) (first end : ℕ) → length targets ≡ length places → first ≤ end → end ≤ length places
    → ((k : ℕ) → k < first → same_place (get_or places k no_place) place ≡ false)
    → ((k : ℕ) → first ≤ k → k < end → same_place (get_or places k no_place) place ≡ true)
    → ((k : ℕ) → end ≤ k → k < length places → same_place (get_or places k no_place) place ≡ false)
    → drop first (take end targets) ≡ targets_of (zip places targets) place
run_is place [] [] zero zero even order inside before here behind = refl
run_is place [] [] zero (suc end) even order inside before here behind = absurd (omega arith)
run_is place [] [] (suc first) end even order inside before here behind = absurd (omega arith)
run_is place [] (t ∷ targets) first end even order inside before here behind = absurd (omega arith)
run_is place (p ∷ places) [] first end even order inside before here behind = absurd (omega arith)
run_is place (p ∷ places) (t ∷ targets) zero zero even order inside before here behind =
    run_is place places targets zero zero (omega arith) (omega arith) (omega arith) (λ k h. absurd (omega arith)) (λ k l h. absurd (omega arith)) (λ k l h. behind (suc k) (omega arith) (omega arith))
    ∙ sym (pass_by p t (zip places targets) place (behind 0 (omega arith) (omega arith)))
run_is place (p ∷ places) (t ∷ targets) zero (suc end) even order inside before here behind =
    ap (λ ts. t ∷ ts) (run_is place places targets zero end (omega arith) (omega arith) (omega arith) (λ k h. absurd (omega arith)) (λ k l h. here (suc k) (omega arith) (omega arith)) (λ k l h. behind (suc k) (omega arith) (omega arith)))
    ∙ sym (take_one p t (zip places targets) place (here 0 (omega arith) (omega arith)))
run_is place (p ∷ places) (t ∷ targets) (suc first) zero even order inside before here behind = absurd (omega arith)
run_is place (p ∷ places) (t ∷ targets) (suc first) (suc end) even order inside before here behind =
    run_is place places targets first end (omega arith) (omega arith) (omega arith) (λ k h. before (suc k) (omega arith)) (λ k l h. here (suc k) (omega arith) (omega arith)) (λ k l h. behind (suc k) (omega arith) (omega arith))
    ∙ sym (pass_by p t (zip places targets) place (before 0 (omega arith)))

-- those that are counted up to a place are no fewer than those before it
pub first_to_end : (places : List Place) (place : Place) (first end : ℕ) → first ≤ length places
    → ((k : ℕ) (d : Place) → k < first → is_before (get_or places k d) place ≡ true)
    → ((k : ℕ) (d : Place) → end ≤ k → k < length places → is_before place (get_or places k d) ≡ true)
    → first ≤ end
first_to_end places place first end inside before behind = elim (cases_lt end first) [
  | inr not_less ↦ not_less
  | inl less ↦ absurd (not_before_and_behind (get_or places end no_place) place (before end no_place less) (behind end no_place (omega arith) (omega arith)))
]

-- the targets between those that are counted
pub between : (places targets : List Place) (place : Place) (first end : ℕ) → length targets ≡ length places → first ≤ length places → end ≤ length places
    → ((k : ℕ) (d : Place) → k < first → is_before (get_or places k d) place ≡ true)
    → ((k : ℕ) (d : Place) → first ≤ k → k < length places → is_before (get_or places k d) place ≡ false)
    → ((k : ℕ) (d : Place) → k < end → is_before place (get_or places k d) ≡ false)
    → ((k : ℕ) (d : Place) → end ≤ k → k < length places → is_before place (get_or places k d) ≡ true)
    → drop first (take end targets) ≡ targets_of (zip places targets) place
between places targets place first end even first_in end_in before others upto behind =
    run_is place places targets first end even (first_to_end places place first end first_in before behind) end_in
    (λ k h. before_is_other (get_or places k no_place) place (before k no_place h))
    (λ k l h. neither_is_same (get_or places k no_place) place (others k no_place l (omega arith)) (upto k no_place h))
    (λ k l h. behind_is_other (get_or places k no_place) place (behind k no_place l h))
