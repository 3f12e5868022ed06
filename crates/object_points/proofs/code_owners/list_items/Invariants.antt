use Rattle.std.proofs.Common.{◌≡◌, length}
use Rattle.object_points.specs.CodeOwners.{AreItemsTo}
use Rattle.object_points.proofs.code_owners.list_items.Given as goal

abbrev pub invariant-loop-function : goal.invariant-loop-function
invariant-loop-function l = record {
  long : length l.items.items ≡ l.function;
  each : AreItemsTo l.index.elf l.index.functions l.items.items;
}
