use Rattle.std.proofs.Common.{Option, sym, ap, ◌∙◌}
use Rattle.std.specs.Prelude.{is_some}
use Rattle.state_defs.specs.declared.state.HintState.{HintState}
use Rattle.flow_defs.specs.Coded.{Coded}
use Rattle.flow_defs.specs.Arrival.{own_hint_of}
use Rattle.flow_defs.specs.Code.{point_at}
use Rattle.control_flow.proofs.hinted.hinted_of.Goals as goal

pub returns : goal.returns
returns c = record {
  hint = sym c.hint-hint.ensures;
  own = sym (c.is_some.ensures ∙ ap (λ (x : Option HintState). is_some x) (c.own_hint.ensures ∙ ap (λ (e : Coded). own_hint_of e (point_at e c.args.n)) (sym c.requires.places)));
  save_of = sym c.save_of.ensures;
  order = c.restores_of-restores_from.ensures.order;
  within = c.restores_of-restores_from.ensures.within;
  restores = c.restores_of-restores_from.ensures.members;
}
