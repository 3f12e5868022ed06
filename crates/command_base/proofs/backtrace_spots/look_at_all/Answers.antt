use Rattle.std.proofs.Common.{sym, ap, ◌∙◌}
use Rattle.kept_states.specs.LevelStates.{at}
use Rattle.command_base.proofs.SpotLemmas.{kept_or_not}
use Rattle.command_base.proofs.backtrace_spots.look_at_all.Goals as goal

pub loop-n-preserved : goal.loop-n-preserved
loop-n-preserved c = record {
  len = c.look_at.ensures.len ∙ c.loop-n.invariant.len;
  places = λ k d. c.look_at.ensures.places k d ∙ c.loop-n.invariant.places k d;
  spots = λ p tells were. c.look_at.ensures.spots p (at c.args.kept.now) (sym (c.place.ensures p tells)) (kept_or_not c.is_kept.result (at c.args.kept.now c.loop-n.n) c.is_kept.ensures) (c.loop-n.invariant.spots p tells were);
}
