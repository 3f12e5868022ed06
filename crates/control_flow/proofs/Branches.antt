-- Whether a Nop or a Jmp begins at a place, or a direct call, by the number of the point there.
use Rattle.std.proofs.Common.{◌≡◌, ℕ, Bool, true, false, cond, not, eqb, List, length, Option, Some, None, Contains, inl, inr, refl, sym, ap, ◌∙◌, subst, arith}
use Rattle.std.specs.Prelude.{is_some, position, unwrap_or}
use Rattle.std.specs.List.{position_or_len}
use Rattle.std.proofs.lemmas.Bool.{and_from, cases_lt, eqb-true, false≢true, lt-ltb}
use Rattle.std.proofs.lemmas.List.Quantifiers.{position-Some}
use Rattle.std.proofs.lemmas.List.Sums.{fails_before_first}
use Rattle.ot_base.specs.declared.place.Place.{Place}
use Rattle.ot_base.specs.Places.{same_place}
use Rattle.alternatives.specs.Texts.{insn_at}
use Rattle.operation_defs.specs.declared.insn.Insn.{Insn}
use Rattle.operation_defs.specs.declared.op.Op.{Op}
use Rattle.flow_defs.specs.Coded.{Coded}
use Rattle.alternatives.specs.declared.point.Point.{Point}
use Rattle.alternatives.specs.Points.{points_of}
use Rattle.alternatives.proofs.Ascending.{In, contains_in}
use Rattle.alternatives.proofs.Listing.{points_complete}
use Rattle.alternatives.proofs.Placed.{and_both}
use Rattle.alternatives.proofs.SiteEntries.{is_place_refl, place_is}
use Rattle.flow_defs.specs.Arrival.{decoded_insn}
use Rattle.flow_defs.specs.Decoded.{no_insn}
use Rattle.flow_defs.specs.Code.{alternatives_of, no_point, number_of, plain_point, point_at, points_of_object, same_point, texts_of}
use Rattle.flow_defs.specs.Faults.{is_branch_op, is_branch_site, is_call_insn, is_direct_call}
use Rattle.control_flow.specs.Judged.{is_no_branch, is_no_call}

-- what has no number isn't among them
absent : {X : Type 0} (p : X → Bool) (xs : List X) (x : X) → position p xs ≡ None → In x xs → p x ≡ false
absent p xs x none h =
    let at : Contains xs x = contains_in xs x h in
    elim (cases_lt (position_or_len p xs) (length xs)) [
      | inl less ↦ absurd (let found : Some (position_or_len p xs) ≡ None = sym (ap (λ b. cond b (Some (position_or_len p xs)) None) (lt-ltb (position_or_len p xs) (length xs) less)) ∙ none in let bad : ⊥ = cc in bad)
      | inr past ↦ subst (λ y. p y ≡ false) at.2 (fails_before_first p xs at.0 x (omega (arith, at.1, past)))
    ]

plain_is : (place : Place) (q : Point) → same_point (plain_point place) q ≡ true → plain_point place ≡ q
plain_is place q same =
    let parts = and_both (same_place place q.place) (eqb 0 q.variant) same in
    ap (λ (p : Place). let x : Point = record { place = p; variant = 0 } in x) (place_is place q.place parts.0)
    ∙ ap (λ (v : ℕ). let x : Point = record { place = q.place; variant = v } in x) (eqb-true 0 q.variant parts.1)

plain_insn : (o : Coded) (place : Place) → decoded_insn o (plain_point place) ≡ unwrap_or (insn_at (texts_of o) place) no_insn
unfolding decoded_insn
plain_insn o place = refl

-- a place that no plain point has begins no instruction
no_insn_there : (o : Coded) (place : Place) (found : Option Insn) → insn_at (texts_of o) place ≡ found → number_of o (plain_point place) ≡ None → found ≡ None
unfolding points_of_object
no_insn_there o place None is none = refl
no_insn_there o place (Some insn) is none =
    let listed : In (plain_point place) (points_of (texts_of o) (alternatives_of o)) = points_complete (texts_of o) (alternatives_of o) (plain_point place) (ap is_some is) in
    let itself : same_point (plain_point place) (plain_point place) ≡ true = and_from (same_place place place) true (is_place_refl place place refl) refl in
    absurd (false≢true (sym (absent (same_point (plain_point place)) (points_of (texts_of o) (alternatives_of o)) (plain_point place) none listed) ∙ itself))

-- a test of the operation there, where there is one
module _ (test : Op → Bool) (site : Option Insn → Bool) (by : (found : Option Insn) → test (unwrap_or found no_insn).op ≡ site found) (o : Coded) (place : Place) where
  numbered : (n : ℕ) → number_of o (plain_point place) ≡ Some n → not (test (decoded_insn o (point_at o n)).op) ≡ not (site (insn_at (texts_of o) place))
  numbered n found =
      let there = position-Some (same_point (plain_point place)) (points_of_object o) n no_point found in
      ap (λ (q : Point). not (test (decoded_insn o q).op)) (sym (plain_is place (point_at o n) there.1))
      ∙ ap (λ (insn : Insn). not (test insn.op)) (plain_insn o place)
      ∙ ap not (by (insn_at (texts_of o) place))

  unnumbered : site None ≡ false → number_of o (plain_point place) ≡ None → true ≡ not (site (insn_at (texts_of o) place))
  unnumbered fails none = sym (ap (λ (found : Option Insn). not (site found)) (no_insn_there o place (insn_at (texts_of o) place) refl none) ∙ ap not fails)

branch_insn : (found : Option Insn) → is_branch_op (unwrap_or found no_insn).op ≡ is_branch_site found
branch_insn None = refl
branch_insn (Some insn) = refl

pub numbered_branch : (o : Coded) (place : Place) (n : ℕ) → number_of o (plain_point place) ≡ Some n → not (is_branch_op (decoded_insn o (point_at o n)).op) ≡ is_no_branch o place
numbered_branch o place n found = numbered is_branch_op is_branch_site branch_insn o place n found

pub unnumbered_branch : (o : Coded) (place : Place) → number_of o (plain_point place) ≡ None → true ≡ is_no_branch o place
unnumbered_branch o place none = unnumbered is_branch_op is_branch_site branch_insn o place refl none

call_insn : (found : Option Insn) → is_direct_call (unwrap_or found no_insn).op ≡ is_call_insn found
call_insn None = refl
call_insn (Some insn) = refl

pub numbered_call : (o : Coded) (place : Place) (n : ℕ) → number_of o (plain_point place) ≡ Some n → not (is_direct_call (decoded_insn o (point_at o n)).op) ≡ is_no_call o place
numbered_call o place n found = numbered is_direct_call is_call_insn call_insn o place n found

pub unnumbered_call : (o : Coded) (place : Place) → number_of o (plain_point place) ≡ None → true ≡ is_no_call o place
unnumbered_call o place none = unnumbered is_direct_call is_call_insn call_insn o place refl none
