use Rattle.std.proofs.Common.{◌≡◌, map, take}
use Rattle.std.specs.FinSet as set
use Rattle.ot_base.proofs.name_set.NameSet.of.Given as goal

abbrev pub invariant-loop-name : goal.invariant-loop-name
invariant-loop-name l = l.all ≡ set.from_list (map (λ name. name.now) (take l.name-index l.names))
