-- Points by their numbers.
use Rattle.std.proofs.Common.{◌≡◌, ℕ, ◌<◌, true, length, Some, sym, ap}
use Rattle.std.proofs.lemmas.Bool.{eqb-true}
use Rattle.std.proofs.lemmas.List.Quantifiers.{position-Some}
use Rattle.ot_base.specs.Places.{same_place}
use Rattle.alternatives.specs.declared.point.Point.{Point}
use Rattle.alternatives.proofs.Placed.{and_both}
use Rattle.alternatives.proofs.PointOrder as order
use Rattle.flow_defs.specs.Coded.{Coded}
use Rattle.flow_defs.specs.Arrival.{is_padding}
use Rattle.flow_defs.specs.Code.{no_point, number_of, point_at, points_of_object, same_point}

one_point : (p q : Point) → same_point p q ≡ true → p ≡ q
one_point p q same =
    let parts = and_both (same_place p.place q.place) _ same in
    let places = and_both _ _ parts.0 in
    order.same_point p.place.sec p.place.off p.variant q (eqb-true p.place.sec q.place.sec places.0) (eqb-true p.place.off q.place.off places.1) (eqb-true p.variant q.variant parts.1)

-- the number of a point is one, and its own
pub numbered : (o : Coded) (p : Point) (n : ℕ) → number_of o p ≡ Some n → (n < length (points_of_object o)) × (p ≡ point_at o n)
numbered o p n is =
    let at = position-Some (same_point p) (points_of_object o) n no_point is in
    (at.0, one_point p (point_at o n) at.1)

-- a point is padding where the point with its number is
pub padding_of_number : (o : Coded) (p : Point) (n : ℕ) → number_of o p ≡ Some n → is_padding o (point_at o n) ≡ is_padding o p
padding_of_number o p n is = ap (is_padding o) (sym (numbered o p n is).1)
