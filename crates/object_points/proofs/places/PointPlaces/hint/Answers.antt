use Rattle.std.proofs.Common.{Option, ap, ◌∙◌}
use Rattle.std.specs.Option.{option_or}
use Rattle.state_defs.specs.declared.state.HintState.{HintState}
use Rattle.flow_defs.specs.Coded.{Coded}
use Rattle.flow_defs.specs.Arrival.{hint_of, start_hint_of}
use Rattle.flow_defs.specs.Code.{point_at}
use Rattle.object_points.proofs.places.PointPlaces.hint.Goals as goal

pub returns-in-Some : goal.returns-in-Some
unfolding hint_of
returns-in-Some c =
    let o : Coded = c.args.self.now in
    ap (λ (own : Option HintState). option_or own (start_hint_of o (point_at o c.args.n))) c.in-Some.ensures

pub returns-in-None : goal.returns-in-None
unfolding hint_of
returns-in-None c =
    let o : Coded = c.args.self.now in
    c.start_hint.ensures ∙ ap (λ (own : Option HintState). option_or own (start_hint_of o (point_at o c.args.n))) c.in-None.ensures
