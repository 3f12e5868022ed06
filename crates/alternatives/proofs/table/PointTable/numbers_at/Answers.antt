use Rattle.std.proofs.Common.{◌≡◌, List, ap, ◌∙◌, subst}
use Rattle.alternatives.specs.declared.point.Point.{Point}
use Rattle.alternatives.specs.Numbers.{IsRunOf}
use Rattle.alternatives.proofs.Numbering.{run_between}
use Rattle.alternatives.proofs.table.PointTable.numbers_at.Goals as goal

pub returns : goal.returns
returns c =
    let points : List Point = c.as_slice-points.result.now in
    let same : points ≡ c.args.self.now.points = c.as_slice-points.ensures.value ∙ ap (λ t. t.points) c.self.view_is in
    subst (λ ps. IsRunOf ps c.args.place c.count_before.result c.count_to.result) same
    (run_between points c.args.place c.count_before.result c.count_to.result c.count_before.ensures.within c.count_to.ensures.within
    c.count_before.ensures.before c.count_before.ensures.others c.count_to.ensures.upto c.count_to.ensures.behind)
