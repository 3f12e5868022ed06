-- The addresses stay.
use Rattle.state_defs.specs.Region.{SameAddresses}
use Rattle.program_model.specs.Region.{region_of}
use Rattle.program_model.proofs.region.Region.stored.Given as goal

abbrev pub invariant-loop-store : goal.invariant-loop-store
invariant-loop-store l = SameAddresses (region_of l.self) (region_of l.after)
