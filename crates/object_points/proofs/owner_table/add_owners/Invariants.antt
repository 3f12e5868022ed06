use Rattle.std.proofs.Common.{◌≡◌, ◌++◌, take}
use Rattle.object_points.specs.Owners.{fourfold}
use Rattle.object_points.proofs.owner_table.add_owners.Given as goal

abbrev pub invariant-loop-k : goal.invariant-loop-k
invariant-loop-k l = l.owners.items ≡ l.fn.owners.items ++ fourfold l.is_loose (take l.k l.items)
