use Rattle.site_lists.specs.Parts.{parts_of}
use Rattle.site_lists.proofs.Decoding.{AreRead}
use Rattle.site_lists.proofs.reading.read_places.Given as goal

abbrev pub invariant-loop-slot : goal.invariant-loop-slot
invariant-loop-slot l = AreRead l.object (parts_of l.object l.slots) l.slot l.places.items
