-- Places whose marks aren't set.
use Rattle.std.proofs.Common.{◌≡◌, ℕ, suc, true, false, cond, eqb, ◌&&◌, List, [], ◌∷◌, map, filter, get_or, inl, inr, arith, refl, sym, ap, ◌∙◌}
use Rattle.std.specs.List.{list_any, zip}
use Rattle.std.proofs.lemmas.Bool.{cases_Bool, false≢true}
use Rattle.std.proofs.lemmas.Bool.Decides.{nat_tests}
use Rattle.std.proofs.lemmas.List.Elements.{All-from_get_or}
use Rattle.std.proofs.lemmas.List.Folds.{list_any_none}
use Rattle.ot_base.specs.declared.place.Place.{Place}
use Rattle.ot_base.specs.Places.{same_place}
use Rattle.object_points.specs.Marks.{is_marked, AreMarked}
use Rattle.object_points.specs.Places.{targets_of}
use Rattle.object_points.proofs.Order.{no_place}

same_sec : (a b c d : ℕ) → (eqb a c && eqb b d) ≡ true → a ≡ c
same_sec a b c d same = grind (arith, nat_tests)

same_off : (a b c d : ℕ) → (eqb a c && eqb b d) ≡ true → b ≡ d
same_off a b c d same = grind (arith, nat_tests)

abbrev at : ℕ → ℕ → Place
at sec off = record { sec = sec; off = off }

marked_alike : (count : ℕ) (marks : List ℕ) (p q : Place) → same_place p q ≡ true → is_marked count marks p ≡ is_marked count marks q
marked_alike count marks p q same =
    ap (λ off. is_marked count marks (at p.sec off)) (same_off p.sec p.off q.sec q.off same)
    ∙ ap (λ sec. is_marked count marks (at sec q.off)) (same_sec p.sec p.off q.sec q.off same)

-- a place whose mark isn't set is none whose mark is
pub other_place : (count : ℕ) (marks : List ℕ) (p place : Place) → is_marked count marks p ≡ true → is_marked count marks place ≡ false → same_place p place ≡ false
other_place count marks p place set unset = elim (cases_Bool (same_place p place)) [
  | inr other ↦ other
  | inl same ↦ absurd (false≢true (sym unset ∙ sym (marked_alike count marks p place same) ∙ set))
]

other_way : (count : ℕ) (marks : List ℕ) (p place : Place) → is_marked count marks p ≡ true → is_marked count marks place ≡ false → same_place place p ≡ false
other_way count marks p place set unset = elim (cases_Bool (same_place place p)) [
  | inr other ↦ other
  | inl same ↦ absurd (false≢true (sym unset ∙ marked_alike count marks place p same ∙ set))
]

-- so it is in no list of such
pub not_among : (count : ℕ) (places : List Place) (marks : List ℕ) (place : Place) → AreMarked count places marks → is_marked count marks place ≡ false → list_any (same_place place) places ≡ false
not_among count places marks place set unset =
    list_any_none (same_place place) places (All-from_get_or (λ p. same_place place p ≡ false) places no_place (λ k inside. other_way count marks (get_or places k no_place) place (set k no_place inside) unset))

pass_by : (p t : Place) (pairs : List (Place × Place)) (place : Place) → same_place p place ≡ false → targets_of ((p, t) ∷ pairs) place ≡ targets_of pairs place
pass_by p t pairs place other = ap (λ b. map (λ (e : Place × Place). e.1) (cond b ((p, t) ∷ filter (λ (e : Place × Place). same_place e.0 place) pairs) (filter (λ (e : Place × Place). same_place e.0 place) pairs))) other

-- and leads nowhere by pairs of such
pub leads_nowhere : (count : ℕ) (places targets : List Place) (marks : List ℕ) (place : Place) → AreMarked count places marks → is_marked count marks place ≡ false → targets_of (zip places targets) place ≡ []
leads_nowhere count [] targets marks place set unset = refl
leads_nowhere count (p ∷ places) [] marks place set unset = refl
leads_nowhere count (p ∷ places) (t ∷ targets) marks place set unset =
    pass_by p t (zip places targets) place (other_place count marks p place (set 0 no_place (omega arith)) unset)
    ∙ leads_nowhere count places targets marks place (λ k d inside. set (suc k) d (omega arith)) unset
