-- Control comes in this way, and leaves.
use Rattle.program_check.proofs.access_exits.is_left_on.Goals as goal

pub returns-then-ways : goal.returns-then-ways
returns-then-ways c p t = (λ h. (c.if-ways.true, (c.leaves_function.ensures p t).0 h), λ k. (c.leaves_function.ensures p t).1 k.1)
