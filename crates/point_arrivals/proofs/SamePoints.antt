-- Points with the same parts.
use Rattle.std.proofs.Common.{◌≡◌, ℕ, true, eqb, ◌&&◌, arith}
use Rattle.std.proofs.lemmas.Bool.Decides.{nat_tests}
use Rattle.alternatives.specs.declared.point.Point.{Point}
use Rattle.alternatives.proofs.PointOrder as order
use Rattle.flow_defs.specs.Code.{same_point}

sec_part : (a b i d e j : ℕ) → ((eqb a d && eqb b e) && eqb i j) ≡ true → a ≡ d
sec_part a b i d e j same = grind (arith, nat_tests)

off_part : (a b i d e j : ℕ) → ((eqb a d && eqb b e) && eqb i j) ≡ true → b ≡ e
off_part a b i d e j same = grind (arith, nat_tests)

variant_part : (a b i d e j : ℕ) → ((eqb a d && eqb b e) && eqb i j) ≡ true → i ≡ j
variant_part a b i d e j same = grind (arith, nat_tests)

pub one_point : (p q : Point) → same_point p q ≡ true → p ≡ q
one_point p q same =
    order.same_point p.place.sec p.place.off p.variant q
    (sec_part p.place.sec p.place.off p.variant q.place.sec q.place.off q.variant same)
    (off_part p.place.sec p.place.off p.variant q.place.sec q.place.off q.variant same)
    (variant_part p.place.sec p.place.off p.variant q.place.sec q.place.off q.variant same)
