-- The point right behind a plain one.
use Rattle.std.proofs.Common.{◌≡◌, ℕ, ◌+◌, ◌-◌, ◌<◌, true, cond, ◌&&◌, Some, None, Contains, find, length, option_and_then, inl, inr, refl, sym, ap, ◌∙◌, subst, arith}
use Rattle.std.specs.Prelude.{◌==◌}
use Rattle.std.proofs.lemmas.Bool.{cases_lt, eq-eqb, eqb-true, ne_eqb}
use Rattle.std.proofs.lemmas.List.{get_or_default}
use Rattle.std.proofs.lemmas.List.Elements.{Contains-get_or}
use Rattle.ot_base.specs.declared.place.Place.{Place}
use Rattle.ot_base.specs.Places.{same_place}
use Rattle.operation_defs.specs.declared.insn.Insn.{Insn}
use Rattle.flow_defs.specs.Coded.{Coded}
use Rattle.alternatives.specs.declared.point.Point.{Point}
use Rattle.alternatives.specs.Texts.{behind}
use Rattle.table_law.proofs.Equal.{equal_places, is_same_place, same_place_is}
use Rattle.table_law.proofs.Lists.{finds_one}
use Rattle.flow_defs.specs.Arrival.{decoded_insn}
use Rattle.flow_defs.specs.Code.{is_plain, no_point, number_of, plain_point, point_at, points_of_object}
use Rattle.flow_defs.specs.Program.{is_right_before, previous_of}
use Rattle.object_law.specs.Flows.{HasBytes}
use Rattle.object_law.proofs.Bodies.{IsAt, at_lies, before_other}
use Rattle.object_law.proofs.Levels.{and_true}
use Rattle.object_law.proofs.Overlays.{address_plain, plain_at}
use Rattle.object_law.proofs.PointKinds.{PointIs, point_is}
use Rattle.point_edges.proofs.Standing.{own_number, plain_is}
use Rattle.program_graph.specs.Tells.{previous_by}
use Rattle.program_graph.specs.declared.parts.Previous.TheVariants.{Below}
use Rattle.control_flow.specs.Rares.{IsRare}
use Rattle.point_edges.specs.Straight.{IsStraight}
use Rattle.control_flow.specs.declared.rares.TheConstants.{USUAL}

-- a plain point with its instruction, which ends at a place
record EndsAt (o : Coded) (place : Place) (q : Point) : Type 0 where
  plain : q.variant ≡ 0
  at : IsAt o q.place (decoded_insn o q)
  sec : q.place.sec ≡ place.sec
  off : q.place.off + (decoded_insn o q).len ≡ place.off

ends_at : (o : Coded) (p q : Point) → HasBytes o → Contains (points_of_object o) q → is_right_before o p q ≡ true → EndsAt o p.place q
ends_at o p q bytes listed right =
    let parts = and_true (is_plain q) (same_place (behind q.place (decoded_insn o q).len) p.place) right in
    let place = same_place_is (behind q.place (decoded_insn o q).len) p.place parts.1 in
    let plain = eqb-true q.variant 0 parts.0 in
    record {
      plain = plain;
      at = listed_at o q bytes listed plain;
      sec = ap (λ (x : Place). x.sec) place;
      off = ap (λ (x : Place). x.off) place;
    }
  where
    listed_at : (o : Coded) (q : Point) → HasBytes o → Contains (points_of_object o) q → q.variant ≡ 0 → IsAt o q.place (decoded_insn o q)
    listed_at o q bytes listed plain =
        let same : point_at o listed.0 ≡ q = get_or_default (points_of_object o) listed.0 no_point q listed.1 ∙ listed.2 in
        plain_at o q (decoded_insn o q) plain (subst (λ (x : Point). PointIs o x (decoded_insn o x)) same (point_is o listed.0 bytes listed.1))

-- only one does
only_one : (o : Coded) (place : Place) (a b : Point) → EndsAt o place a → EndsAt o place b → a ≡ b
only_one o place a b one other = plain_is a one.plain ∙ (ap plain_point (equal_places a.place b.place sec off) ∙ sym (plain_is b other.plain))
  where
    sec : a.place.sec ≡ b.place.sec
    sec = one.sec ∙ sym other.sec

    off : a.place.off ≡ b.place.off
    off = elim (cases_lt a.place.off b.place.off) [
      | inl less ↦ absurd (omega (arith, before_other o a.place b.place (decoded_insn o a) (decoded_insn o b) one.at other.at sec less, one.off, other.off, (at_lies o b.place (decoded_insn o b) other.at).some))
      | inr not_less ↦ elim (cases_lt b.place.off a.place.off) [
        | inl more ↦ absurd (omega (arith, before_other o b.place a.place (decoded_insn o b) (decoded_insn o a) other.at one.at (sym sec) more, one.off, other.off, (at_lies o a.place (decoded_insn o a) one.at).some))
        | inr not_more ↦ omega (arith, not_less, not_more)
      ]
    ]

-- a plain point right behind the plain one with the number below
module _ (o : Coded) (n : ℕ) (bytes : HasBytes o) (inside : n < length (points_of_object o)) (plain : is_plain (point_at o n) ≡ true) (next_plain : (point_at o (n + 1)).variant ≡ 0) (next_place : (point_at o (n + 1)).place ≡ behind (point_at o n).place (decoded_insn o (point_at o n)).len) where
  abbrev p : Point
  p = point_at o n

  abbrev next : Point
  next = point_at o (n + 1)

  listed : Contains (points_of_object o) p
  listed = Contains-get_or (points_of_object o) n no_point inside

  right : is_right_before o next p ≡ true
  right = ap (λ b. b && same_place (behind p.place (decoded_insn o p).len) next.place) plain ∙ is_same_place (behind p.place (decoded_insn o p).len) next.place (sym next_place)

  found : find (is_right_before o next) (points_of_object o) ≡ Some p
  found =
      let one = finds_one (is_right_before o next) (points_of_object o) p listed right in
      one.1 ∙ ap Some (only_one o next.place one.0 p (ends_at o next one.0 bytes one.2 one.3) (ends_at o next p bytes listed right))

  previous : previous_of o next ≡ Some n
  unfolding previous_of
  previous =
      ap (λ v. cond (v == 0) (option_and_then (number_of o) (find (is_right_before o next) (points_of_object o))) None) next_plain
      ∙ (ap (option_and_then (number_of o)) found ∙ own_number o n inside)

  below : Some n ≡ previous_by (n + 1) Below
  below =
      let last : n ≡ n + 1 - 1 = omega arith in
      sym (ap (λ b. cond b None (Some (n + 1 - 1))) (ne_eqb (n + 1) 0 (λ none. omega (arith, none))) ∙ ap Some (sym last))

  behind_plain : IsRare o (n + 1) None USUAL
  behind_plain = record {
    variant = next_plain;
    address = address_plain o next next_plain;
    previous = previous ∙ below;
    hinted = refl;
  }

-- the same by what was read of both
pub behind_by : (o : Coded) (n : ℕ) (x y : Point) (insn : Insn) → HasBytes o → 0 < n → n < length (points_of_object o) → x ≡ point_at o (n - 1) → y ≡ point_at o n → insn ≡ decoded_insn o (point_at o (n - 1)) → y.variant ≡ 0 → x.variant ≡ 0 → x.place.sec ≡ y.place.sec → x.place.off + insn.len ≡ y.place.off
    → IsRare o n None USUAL
behind_by o n x y insn bytes some inside x_is y_is insn_is y_plain x_plain sec off =
    let m : ℕ = n - 1 in
    let number : m + 1 ≡ n = omega (arith, some) in
    let p : Point = point_at o m in
    let next : Point = point_at o (m + 1) in
    let next_is : y ≡ next = y_is ∙ ap (point_at o) (sym number) in
    let own : x.place.off ≡ p.place.off = ap (λ (z : Point). z.place.off) x_is in
    let other : y.place.off ≡ next.place.off = ap (λ (z : Point). z.place.off) next_is in
    let len : insn.len ≡ (decoded_insn o p).len = ap (λ (i : Insn). i.len) insn_is in
    let same : p.place.sec ≡ next.place.sec = ap (λ (z : Point). z.place.sec) (sym x_is) ∙ (sec ∙ ap (λ (z : Point). z.place.sec) next_is) in
    let ends : p.place.off + (decoded_insn o p).len ≡ next.place.off = omega (arith, own, other, len, off) in
    subst (λ (k : ℕ). IsRare o k None USUAL) number
    (behind_plain o m bytes (omega (arith, inside, some)) (eq-eqb p.variant 0 (ap (λ (z : Point). z.variant) (sym x_is) ∙ x_plain)) (ap (λ (z : Point). z.variant) (sym next_is) ∙ y_plain)
    (sym (equal_places (behind p.place (decoded_insn o p).len) next.place same ends)))

-- the point behind a straight one
pub behind_straight : (o : Coded) (n : ℕ) → HasBytes o → IsStraight o n → IsRare o (n + 1) None USUAL
behind_straight o n bytes is = behind_plain o n bytes (omega (arith, is.inside)) is.plain next_plain next_place
  where
    next_place : (point_at o (n + 1)).place ≡ behind (point_at o n).place (decoded_insn o (point_at o n)).len
    next_place = ap (λ (x : Point). x.place) is.next ∙ is.ends

    next_plain : (point_at o (n + 1)).variant ≡ 0
    next_plain = ap (λ (x : Point). x.variant) is.next
