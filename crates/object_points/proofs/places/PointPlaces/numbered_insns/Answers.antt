use Rattle.std.proofs.Common.{subst}
use Rattle.flow_defs.specs.Coded.{Coded}
use Rattle.object_points.specs.Decoded.{AreDecoded}
use Rattle.object_points.proofs.Decoded.{numbered_decoded}
use Rattle.object_points.proofs.places.PointPlaces.numbered_insns.Goals as goal

pub returns : goal.returns
returns c =
    let own : Coded = c.self.inside.linked.now in
    subst (λ (e : Coded). AreDecoded e c.numbered_insns.result.kinds.now c.numbered_insns.result.numbers.now) c.self.view_is
    (numbered_decoded own c.sites.result.now.points c.sites.result.now.insns c.sites.ensures.points c.sites.ensures.insns c.numbered_insns.result.kinds.now c.numbered_insns.result.numbers.now c.numbered_insns.ensures)
