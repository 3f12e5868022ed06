use Rattle.std.proofs.Common.{ap, ◌∙◌}
use Rattle.flow_defs.specs.Code.{point_at}
use Rattle.flow_defs.specs.Targets.{destination, destination_by}
use Rattle.point_arrivals.proofs.destinations.destination.Goals as goal

pub returns-in-Some : goal.returns-in-Some
unfolding destination
returns-in-Some c =
    c.displaced_destination.ensures ∙ ap (destination_by c.args.places.now (point_at c.args.places.now c.args.n) c.args.insn) c.in-Some.ensures

pub returns-in-None : goal.returns-in-None
unfolding destination
returns-in-None c = ap (destination_by c.args.places.now (point_at c.args.places.now c.args.n) c.args.insn) c.in-None.ensures
