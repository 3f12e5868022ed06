use Rattle.unwinding_law.proofs.Unbalanced as unbalanced
use Rattle.unwinding_law.proofs.wrecks_unbalanced.Goals as goal

pub returns : goal.returns
returns c = record { program = unbalanced.program; placed = unbalanced.placed; warned = unbalanced.warned; wrecked = unbalanced.wrecked }
