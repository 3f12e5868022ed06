-- No RESTORE means the point.
use Rattle.unwinding_law.proofs.Lists.{nowhere}
use Rattle.kept_states.proofs.passages.restores_of.Goals as goal

pub returns-else-is_special-clause-restores : goal.returns-else-is_special-clause-restores
returns-else-is_special-clause-restores c p t r = ((λ (none : _). nowhere r none), (λ means. absurd (c.is_special.ensures.meant c.if-is_special.false p c.args.n (c.passage_at.ensures p (c.requires.told p t)) r means)))
