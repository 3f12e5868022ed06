-- Jumps in the order of their places.
use Rattle.std.proofs.Common.{◌≡◌, ℕ, ◌<◌, ◌≤◌, Bool, true, false, cond, eqb, not, ◌&&◌, List, [], ◌∷◌, length, get_or, find, filter, slice_get, Some, arith, refl, sym, ap, ◌∙◌}
use Rattle.std.specs.Cmp.{IsTotalOrder}
use Rattle.std.specs.List.Sorted.{IsSortedByKey, IsStableByKey}
use Rattle.std.specs.Ordering.{nat_cmp, is_lt, ordering_then}
use Rattle.std.proofs.lemmas.Bool.Decides.{nat_tests}
use Rattle.std.proofs.lemmas.Cmp.{nat_cmp_total, on_total, then_total}
use Rattle.std.proofs.lemmas.List.Elements.{filter_agree}
use Rattle.std.proofs.lemmas.List.MinMax.{ranks_by}
use Rattle.std.proofs.lemmas.List.Sorted.{sorted_far}
use Rattle.ot_base.specs.declared.place.Place.{Place}
use Rattle.ot_base.specs.Places.{is_before, same_place, place_cmp}
use Rattle.jump_tables.specs.declared.jump.Jump.{Jump}
use Rattle.jump_tables.specs.Jumps.{AreByJump, HaveSameJumps}
use Rattle.jump_tables.proofs.Order.{not_after}

pub place_total : IsTotalOrder place_cmp
place_total = then_total (on_total (λ (p : Place). p.sec) nat_cmp_total) (on_total (λ (p : Place). p.off) nat_cmp_total)

pub by_jump : (jumps : List Jump) → IsSortedByKey (λ (j : Jump). j.place) place_cmp jumps → AreByJump jumps
by_jump jumps up i j d order inside =
    sorted_far (λ (x y : Jump). is_lt (place_cmp x.place y.place)) (ranks_by place_total (λ (j : Jump). j.place)) jumps up i j d order inside

tied_is_same : (a b c d : ℕ) → not (is_lt (ordering_then (nat_cmp a c) (nat_cmp b d))) && not (is_lt (ordering_then (nat_cmp c a) (nat_cmp d b))) ≡ (eqb c a && eqb d b)
tied_is_same a b c d = grind (arith, nat_tests)

find_is_first : {X : Type 0} (p : X → Bool) (xs : List X) → find p xs ≡ slice_get (filter p xs) 0
find_is_first p [] = refl
find_is_first p (x ∷ xs) = elim (p x) as (λ b. cond b (Some x) (find p xs) ≡ slice_get (cond b (x ∷ filter p xs) (filter p xs)) 0) [ true ↦ refl | false ↦ find_is_first p xs ]

-- a stable sort keeps the first jump at each place
pub stable_keeps : (jumps sorted : List Jump) → IsStableByKey (λ (j : Jump). j.place) place_cmp jumps sorted → HaveSameJumps jumps sorted
stable_keeps jumps sorted stable = record {
  same = λ place.
      let probe : Jump = record { place = place; table = place; named = false } in
      let tied : Jump → Bool = λ j. not (is_lt (place_cmp place j.place)) && not (is_lt (place_cmp j.place place)) in
      let here : Jump → Bool = λ j. same_place j.place place in
      let agree : (j : Jump) → tied j ≡ here j = λ j. tied_is_same place.sec place.off j.place.sec j.place.off in
      find_is_first here sorted
      ∙ ap (λ js. slice_get js 0) (sym (filter_agree tied here agree sorted) ∙ stable probe ∙ filter_agree tied here agree jumps)
      ∙ sym (find_is_first here jumps);
}

-- those before a place stand in front
pub parted : (jumps : List Jump) (place : Place) → AreByJump jumps → (i j : ℕ) (d : Jump) → i ≤ j → j < length jumps → is_before (get_or jumps j d).place place ≡ true → is_before (get_or jumps i d).place place ≡ true
parted jumps place by i j d order inside h =
    not_after (get_or jumps i d).place.sec (get_or jumps i d).place.off place.sec place.off (get_or jumps j d).place.sec (get_or jumps j d).place.off (by i j d order inside) h

before_other : (a b c d : ℕ) → is_lt (ordering_then (nat_cmp a c) (nat_cmp b d)) ≡ true → (eqb a c && eqb b d) ≡ false
before_other a b c d x = grind (arith, nat_tests)

pub before_is_other : (p place : Place) → is_before p place ≡ true → same_place p place ≡ false
before_is_other p place h = before_other p.sec p.off place.sec place.off h

behind_other : (a b c d e f : ℕ) → is_lt (ordering_then (nat_cmp c a) (nat_cmp d b)) ≡ false → (eqb c a && eqb d b) ≡ false → is_lt (ordering_then (nat_cmp e c) (nat_cmp f d)) ≡ false → (eqb e a && eqb f b) ≡ false
behind_other a b c d e f x y z = grind (arith, nat_tests)

-- p is not before the place, and not it; q is not before p: q is not the place
pub behind_is_other : (place p q : Place) → is_before p place ≡ false → same_place p place ≡ false → is_before q p ≡ false → same_place q place ≡ false
behind_is_other place p q x y z = behind_other place.sec place.off p.sec p.off q.sec q.off x y z
