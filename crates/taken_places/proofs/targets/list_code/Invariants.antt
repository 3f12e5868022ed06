use Rattle.std.proofs.Common.{◌≡◌, take}
use Rattle.std.specs.Prelude.{flat_map}
use Rattle.flow_defs.specs.Code.{texts_of}
use Rattle.taken_places.specs.Listed.{addresses_in_text}
use Rattle.taken_places.proofs.targets.list_code.Given as goal

abbrev pub invariant-loop-text : goal.invariant-loop-text
invariant-loop-text l = l.places.items ≡ flat_map (addresses_in_text l.linked.elf) (take l.text-index (texts_of l.linked))
