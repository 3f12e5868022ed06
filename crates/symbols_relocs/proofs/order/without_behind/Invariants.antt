use Rattle.std.proofs.Common.{◌≤◌, length}
use Rattle.symbols_relocs.proofs.order.without_behind.Given as goal

abbrev pub invariant-loop : goal.invariant-loop
invariant-loop l = l.left ≤ length l.functions
