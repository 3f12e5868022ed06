use Rattle.std.proofs.Common.{ap, ◌∙◌}
use Rattle.flow_defs.specs.Coded.{Coded}
use Rattle.alternatives.specs.declared.point.Point.{Point}
use Rattle.flow_defs.specs.Code.{point_at}
use Rattle.object_points.specs.Places.{is_among}
use Rattle.object_check.specs.Allowances.{is_safe_branch}
use Rattle.object_check.proofs.branches.is_safe_branch.Goals as goal

pub returns : goal.returns
unfolding is_safe_branch
returns c =
    let o : Coded = c.args.places.now in
    c.contains.ensures
    ∙ ap (λ (p : Point). is_among c.args.safe.now p.place) c.point.ensures
    ∙ c.requires.safe.same (point_at o c.args.n).place
