use Rattle.std.proofs.lemmas.Option.{IfSome_then}
use Rattle.std.proofs.Common.{sym, ◌∙◌}
use Rattle.point_arrivals.proofs.ByCourse.{kind_seen}
use Rattle.point_arrivals.proofs.told.untold_kind.Goals as goal

pub returns : goal.returns
returns c =
    IfSome_then c.followed_kind.result c.followed_kind.ensures (λ kind told.
    kind_seen c.args.places.now c.args.n c.args.course c.args.point c.args.next kind c.requires.inside c.requires.course c.requires.point c.requires.next c.if-point.false c.if-next.false
    (sym c.is_right_behind.ensures ∙ c.if-not-is_right_behind.false) (c.may_begin_run.ensures c.if-may_begin_run.false) told)
