use Rattle.std.proofs.Common.{◌≡◌, true, false, ◌++◌, List, sym, ap, ◌∙◌}
use Rattle.std.proofs.lemmas.List.{append-nil}
use Rattle.std.proofs.lemmas.Result.{on_ok_weaker}
use Rattle.flow_defs.specs.Coded.{Coded}
use Rattle.alternatives.specs.declared.point.Point.{Point}
use Rattle.machine_defs.specs.declared.flow.Edge.{Edge}
use Rattle.machine_defs.specs.declared.flow.EdgeKind.TheVariants.{Fixup, Taken}
use Rattle.flow_defs.specs.Code.{point_at}
use Rattle.flow_defs.specs.Edges.{branch_edges, fixups, listed_edges, next_edges, static_targets, table_edges}
use Rattle.flow_defs.specs.Owners.{is_unchecked_point}
use Rattle.point_edges.proofs.Inside.{goes_inside}
use Rattle.point_edges.proofs.Pushing.{all_parts, no_edges}
use Rattle.point_edges.proofs.edges.push_edges.Goals as goal

pub returns-then-is_unchecked_point-clause-pushed : goal.returns-then-is_unchecked_point-clause-pushed
returns-then-is_unchecked_point-clause-pushed c =
    let o : Coded = c.args.points.now in
    let unchecked : is_unchecked_point o (point_at o c.args.n) ≡ true =
    sym (c.is_unchecked_point.ensures ∙ ap (λ (e : Coded). is_unchecked_point e (point_at e c.args.n)) c.places.ensures) ∙ c.if-is_unchecked_point.true in
    sym (append-nil c.args.into.now.items) ∙ ap (λ (edges : List Edge). c.args.into.now.items ++ edges) (sym (no_edges o (point_at o c.args.n) unchecked))

pub returns-then-is_unchecked_point-clause-known : goal.returns-then-is_unchecked_point-clause-known
returns-then-is_unchecked_point-clause-known c = goes_inside c.args.points.now (point_at c.args.points.now c.args.n)

pub returns-clause-pushed : goal.returns-clause-pushed
returns-clause-pushed c =
    let o : Coded = c.args.points.now in
    let p : Point = point_at o c.args.n in
    let checked : is_unchecked_point o p ≡ false =
    sym (c.is_unchecked_point.ensures ∙ ap (λ (e : Coded). is_unchecked_point e (point_at e c.args.n)) c.places.ensures) ∙ c.if-is_unchecked_point.false in
    let targets : c.static_targets.result.now ≡ static_targets o p = c.static_targets.ensures ∙ ap (λ (e : Coded). static_targets e (point_at e c.args.n)) c.arrivals-arrivals.ensures in
    let fixes : c.fixups.result.now ≡ fixups o p = c.fixups.ensures ∙ ap (λ (e : Coded). fixups e (point_at e c.args.n)) c.arrivals-arrivals.ensures in
    let before : c.push_listed-2.new.into.items ≡ (((c.args.into.now.items ++ next_edges o p) ++ branch_edges o p) ++ listed_edges o Taken p c.static_targets.result.now) ++ listed_edges o Fixup p c.fixups.result.now =
    c.in_ok-push_listed-2.ensures
    ∙ ap (λ (edges : List Edge). edges ++ listed_edges o Fixup p c.fixups.result.now)
    (c.in_ok-push_listed.ensures
    ∙ ap (λ (edges : List Edge). edges ++ listed_edges o Taken p c.static_targets.result.now)
    (c.in_ok-push_branch.ensures ∙ ap (λ (edges : List Edge). edges ++ branch_edges o p) c.in_ok-push_next.ensures)) in
    on_ok_weaker c.push_table.result
    (λ last. last ∙ ap (λ (edges : List Edge). edges ++ table_edges o p) before ∙ all_parts o p c.args.into.now.items c.static_targets.result.now c.fixups.result.now checked targets fixes)
    c.push_table.ensures

pub returns-clause-known : goal.returns-clause-known
returns-clause-known c = on_ok_weaker c.push_table.result (λ last. goes_inside c.args.points.now (point_at c.args.points.now c.args.n)) c.push_table.ensures
