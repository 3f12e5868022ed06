use Rattle.std.proofs.Common.{◌≡◌, true, false, ◌++◌, List, Some, sym, ap, ◌∙◌}
use Rattle.std.proofs.lemmas.List.{append-nil}
use Rattle.flow_defs.specs.Coded.{Coded}
use Rattle.alternatives.specs.declared.point.Point.{Point}
use Rattle.machine_defs.specs.declared.flow.Edge.{Edge}
use Rattle.flow_defs.specs.Tables.{same_owner}
use Rattle.flow_defs.specs.Code.{number_of, point_at}
use Rattle.flow_defs.specs.Owners.{owner_of_point}
use Rattle.point_edges.proofs.EdgesWithin.{with_number}
use Rattle.point_edges.proofs.branch_edges.push_within.Goals as goal

pub returns-in_ok-push : goal.returns-in_ok-push
returns-in_ok-push c =
    let o : Coded = c.args.points.now in
    let p : Point = point_at o c.args.n in
    let number : number_of o c.args.other ≡ Some c.in-Some.to = sym (c.in-Some.ensures ∙ ap (λ (e : Coded). number_of e c.args.other) c.places-places.ensures) in
    let own : c.owner.result ≡ owner_of_point o p = c.owner.ensures ∙ ap (λ (e : Coded). owner_of_point e (point_at e c.args.n)) c.places-places.ensures in
    let theirs : c.owner-2.result ≡ owner_of_point o (point_at o c.in-Some.to) = c.owner-2.ensures ∙ ap (λ (e : Coded). owner_of_point e (point_at e c.in-Some.to)) c.places-places.ensures in
    let owners : same_owner (owner_of_point o p) (owner_of_point o (point_at o c.in-Some.to)) ≡ true =
    ap (λ x. same_owner x (owner_of_point o (point_at o c.in-Some.to))) (sym own) ∙ ap (same_owner c.owner.result) (sym theirs) ∙ sym c.is_same_owner.ensures ∙ c.if-is_same_owner.true in
    c.in_ok-push.ensures.items
    ∙ ap (λ (edges : List Edge). c.args.into.now.items ++ edges) (sym (with_number o p c.args.other c.in-Some.to true number owners))

pub returns-else-is_same_owner : goal.returns-else-is_same_owner
returns-else-is_same_owner c =
    let o : Coded = c.args.points.now in
    let p : Point = point_at o c.args.n in
    let number : number_of o c.args.other ≡ Some c.in-Some.to = sym (c.in-Some.ensures ∙ ap (λ (e : Coded). number_of e c.args.other) c.places-places.ensures) in
    let own : c.owner.result ≡ owner_of_point o p = c.owner.ensures ∙ ap (λ (e : Coded). owner_of_point e (point_at e c.args.n)) c.places-places.ensures in
    let theirs : c.owner-2.result ≡ owner_of_point o (point_at o c.in-Some.to) = c.owner-2.ensures ∙ ap (λ (e : Coded). owner_of_point e (point_at e c.in-Some.to)) c.places-places.ensures in
    let owners : same_owner (owner_of_point o p) (owner_of_point o (point_at o c.in-Some.to)) ≡ false =
    ap (λ x. same_owner x (owner_of_point o (point_at o c.in-Some.to))) (sym own) ∙ ap (same_owner c.owner.result) (sym theirs) ∙ sym c.is_same_owner.ensures ∙ c.if-is_same_owner.false in
    sym (append-nil c.args.into.now.items)
    ∙ ap (λ (edges : List Edge). c.args.into.now.items ++ edges) (sym (with_number o p c.args.other c.in-Some.to false number owners))
