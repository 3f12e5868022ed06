use Rattle.std.proofs.Common.{Bool, cond, Option, None, sym, ap, ◌∙◌}
use Rattle.flow_defs.specs.Coded.{Coded}
use Rattle.special_sections.specs.Special.{special_of}
use Rattle.alternatives.specs.declared.point.Point.{Point}
use Rattle.state_defs.specs.declared.state.HintState.{HintState}
use Rattle.special_sections.specs.HintStates.{hint_at}
use Rattle.flow_defs.specs.Arrival.{own_hint_of}
use Rattle.flow_defs.specs.Code.{point_at}
use Rattle.object_points.proofs.places.PointPlaces.own_hint.Goals as goal

abbrev unless : Bool → Option HintState → Option HintState
unless padding hint = cond padding None hint

pub returns-then-is_padding : goal.returns-then-is_padding
unfolding own_hint_of
returns-then-is_padding c =
    let o : Coded = c.args.self.now in
    sym (ap (λ b. unless b (hint_at (special_of o.elf).hints (point_at o c.args.n).place)) (sym c.is_padding.ensures ∙ c.if-is_padding.true))

pub returns : goal.returns
unfolding own_hint_of
returns c =
    let o : Coded = c.args.self.now in
    c.hint_at.ensures
    ∙ ap (λ (q : Point). hint_at (special_of o.elf).hints q.place) c.point.ensures
    ∙ sym (ap (λ b. unless b (hint_at (special_of o.elf).hints (point_at o c.args.n).place)) (sym c.is_padding.ensures ∙ c.if-is_padding.false))
