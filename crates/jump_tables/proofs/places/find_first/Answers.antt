use Rattle.std.proofs.Common.{ℕ, ◌<◌, ◌≤◌, List, length, get_or, inl, inr, arith, sym, ap, ◌∙◌}
use Rattle.std.proofs.lemmas.Bool.{cases_lt}
use Rattle.std.proofs.lemmas.List.{get_or_default}
use Rattle.ot_base.specs.declared.place.Place.{Place}
use Rattle.ot_base.specs.Places.{same_place}
use Rattle.jump_tables.proofs.Order.{no_place, before_is_other, behind_is_other, same_is}
use Rattle.jump_tables.proofs.places.find_first.Goals as goal

pub returns-then-at-places : goal.returns-then-at-places
returns-then-at-places c =
    λ k d inside. before_is_other c.args.place (get_or c.args.places.now k d) (c.count_below-at.ensures.below k d (omega (arith, c.if-at-places.true)))

pub returns-then-same_place : goal.returns-then-same_place
returns-then-same_place c =
    let places : List Place = c.args.places.now in
    let n : ℕ = c.count_below-at.result in
    let inside : n < length places = c.if-at-places.false in (
      inside,
      (λ d. get_or_default places n d no_place inside ∙ same_is (get_or places n no_place) c.args.place (sym c.if-same_place.ensures)),
      (λ k d lower. before_is_other c.args.place (get_or places k d) (c.count_below-at.ensures.below k d lower)),
    )

pub returns-else-same_place : goal.returns-else-same_place
returns-else-same_place c =
    let places : List Place = c.args.places.now in
    let n : ℕ = c.count_below-at.result in
    let here : n < length places = c.if-at-places.false in
    λ k d inside. elim (cases_lt k n) [
      | inl lower ↦ before_is_other c.args.place (get_or places k d) (c.count_below-at.ensures.below k d lower)
      | inr not_lower ↦
          let order : n ≤ k = omega arith in
          behind_is_other c.args.place (get_or places n d) (get_or places k d)
          (c.count_below-at.ensures.from n d (omega arith) here)
          (ap (λ p. same_place p c.args.place) (get_or_default places n d no_place here) ∙ sym c.if-same_place.ensures)
          (c.requires n k d order inside)
    ]
