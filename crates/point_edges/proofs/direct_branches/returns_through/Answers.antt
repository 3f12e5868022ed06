use Rattle.std.proofs.Common.{inl, inr, sym, ap, ◌∙◌}
use Rattle.flow_defs.specs.Coded.{Coded}
use Rattle.flow_defs.specs.Code.{point_at}
use Rattle.flow_defs.specs.Roles.{returns_through_by}
use Rattle.flow_defs.specs.Targets.{returning_inside, returning_target}
use Rattle.point_edges.proofs.Through.{other_through, through_by}
use Rattle.point_edges.proofs.direct_branches.returns_through.Goals as goal

pub returns-in-Call : goal.returns-in-Call
returns-in-Call c =
    let o : Coded = c.args.points.now in
    c.returning_target.ensures
    ∙ ap (returning_target o) c.requires.to
    ∙ ap (returns_through_by o (point_at o c.args.n)) (sym c.in-Call.is)
    ∙ through_by o (point_at o c.args.n) c.args.decoded c.requires.decoded

pub returns-in-Jmp : goal.returns-in-Jmp
returns-in-Jmp c =
    let o : Coded = c.args.points.now in
    c.returning_inside.ensures
    ∙ ap (returning_inside o) c.requires.to
    ∙ elim c.in-Jmp.is [
      | inl is ↦ ap (returns_through_by o (point_at o c.args.n)) (sym is.2)
      | inr is ↦ ap (returns_through_by o (point_at o c.args.n)) (sym is.2)
    ]
    ∙ through_by o (point_at o c.args.n) c.args.decoded c.requires.decoded

pub returns-in_default : goal.returns-in_default
returns-in_default c =
    let o : Coded = c.args.points.now in
    other_through o (point_at o c.args.n) c.args.decoded c.in_default.not-Call c.in_default.not-Jmp c.in_default.not-Jcc
    ∙ through_by o (point_at o c.args.n) c.args.decoded c.requires.decoded
