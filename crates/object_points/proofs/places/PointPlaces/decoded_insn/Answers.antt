use Rattle.std.proofs.Common.{◌≡◌, ◌<◌, length, get_or, sym, ap, ◌∙◌, subst, List}
use Rattle.std.specs.Prelude.{unwrap_or}
use Rattle.flow_defs.specs.Coded.{Coded}
use Rattle.alternatives.specs.declared.point.Point.{Point}
use Rattle.alternatives.specs.Points.{insn_of_point}
use Rattle.flow_defs.specs.Decoded.{decoded_insn, no_insn}
use Rattle.flow_defs.specs.Code.{alternatives_of, no_point, points_of_object, texts_of}
use Rattle.object_points.proofs.Numbers.{made_at}
use Rattle.object_points.proofs.places.PointPlaces.decoded_insn.Goals as goal

pub returns : goal.returns
unfolding decoded_insn
returns c =
    let o : Coded = c.args.self.now in
    let own : Coded = c.self.inside.linked.now in
    let points : c.sites.result.now.points ≡ points_of_object own = c.sites.ensures.points in
    let inside : c.args.n < length c.sites.result.now.points = subst (λ (ps : List Point). c.args.n < length ps) (sym points) (subst (λ (e : Coded). c.args.n < length (points_of_object e)) (sym c.self.view_is) c.requires) in
    sym (ap (λ (e : Coded). unwrap_or (insn_of_point (texts_of e) (alternatives_of e) (get_or (points_of_object e) c.args.n no_point)) no_insn) (sym c.self.view_is)
    ∙ ap (λ ps. unwrap_or (insn_of_point (texts_of own) (alternatives_of own) (get_or ps c.args.n no_point)) no_insn) (sym points)
    ∙ ap (λ i. unwrap_or i no_insn) (made_at (insn_of_point (texts_of own) (alternatives_of own)) c.sites.result.now.points c.sites.result.now.insns c.args.n c.insn_of.result no_point c.sites.ensures.insns inside c.insn_of.ensures))
