use Rattle.std.proofs.Common.{sym, ◌∙◌}
use Rattle.machine_model.proofs.promises.is_safe_sibling.Goals as goal

pub returns-in-Sibling : goal.returns-in-Sibling
returns-in-Sibling c = λ set. (λ h _. sym (c.is_safe.ensures set) ∙ h, λ h. c.is_safe.ensures set ∙ h c.in-Sibling.is)
