use Rattle.std.proofs.Common.{ap, ◌∙◌}
use Rattle.flow_defs.specs.Coded.{Coded}
use Rattle.flow_defs.specs.Code.{point_at}
use Rattle.flow_defs.specs.Marks.{has_relocated_offset}
use Rattle.point_edges.proofs.marking.is_relocated.Goals as goal

pub returns : goal.returns
returns c =
    let o : Coded = c.args.points.now in
    c.has_relocated_offset.ensures
    ∙ ap (λ (e : Coded). has_relocated_offset e (point_at e c.args.n) c.args.insn) c.places.ensures
    ∙ ap (has_relocated_offset o (point_at o c.args.n)) c.requires.insn
