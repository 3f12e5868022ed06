use Rattle.std.proofs.Common.{sym, ap, ◌∙◌}
use Rattle.state_defs.specs.Frame.{Frame}
use Rattle.machine_model.proofs.Top.{top_is, first_removed}
use Rattle.machine_model.proofs.promises.leaves_as_found.Goals as goal

pub returns-in-len1-up : goal.returns-in-len1-up
returns-in-len1-up c = (
  λ h f fs e leaves. c.is_as_found.ensures.0 h leaves ∙ sym (ap (λ (g : Frame). g.ac) (top_is c.args.shadow.now _ f fs c.in-len1-up.len_at_least e)),
  λ h. c.is_as_found.ensures.1 (λ leaves. h _ _ (first_removed c.args.shadow.now _ c.in-len1-up.len_at_least) leaves),
)
