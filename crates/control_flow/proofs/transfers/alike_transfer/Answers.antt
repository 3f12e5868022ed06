use Rattle.std.proofs.Common.{◌≡◌, sym, ap, ◌∙◌}
use Rattle.std.specs.Prelude.{is_some}
use Rattle.flow_defs.specs.Code.{point_at}
use Rattle.flow_defs.specs.Coded.{Coded}
use Rattle.flow_defs.specs.Targets.{names_of}
use Rattle.control_flow.proofs.Going.{is_alike_transfer}
use Rattle.control_flow.proofs.transfers.alike_transfer.Goals as goal

pub returns : goal.returns
returns c =
    let named : is_some (names_of c.args.points.now (point_at c.args.points.now c.args.n)) ≡ c.is_some.result = sym (c.is_some.ensures ∙ ap is_some (c.names.ensures ∙ ap (λ (o : Coded). names_of o (point_at o c.args.n)) c.places.ensures)) in
    λ r alike is. is_alike_transfer c.args.points.now c.args.n r c.is_some.result c.args.transfer named alike is
