use Rattle.std.proofs.Common.{◌≡◌, map, take}
use Rattle.jump_tables.specs.declared.jump.Jump.{Jump}
use Rattle.jump_tables.proofs.starts.tables_of.Given as goal

abbrev pub invariant-loop-jump : goal.invariant-loop-jump
invariant-loop-jump l = l.starts.items ≡ map (λ (j : Jump). j.table) (take l.jump-index l.jumps)
