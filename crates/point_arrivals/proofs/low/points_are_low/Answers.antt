use Rattle.std.proofs.Common.{◌≤◌, subst}
use Rattle.flow_defs.specs.Coded.{Coded}
use Rattle.alternatives.specs.Texts.{text_bytes}
use Rattle.flow_defs.specs.Code.{texts_of}
use Rattle.point_arrivals.proofs.LowPoints.{all_low}
use Rattle.point_arrivals.proofs.low.points_are_low.Goals as goal

pub returns : goal.returns
returns c =
    let o : Coded = c.args.linked.now in
    let little : text_bytes (texts_of o) ≤ 16777216 = subst (λ ts. text_bytes ts ≤ 16777216) c.texts.ensures.value c.texts.ensures.little in
    all_low o little c.texts.ensures.linked.1.sites
