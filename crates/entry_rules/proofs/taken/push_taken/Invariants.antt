use Rattle.ot_base.specs.NameLists.{NameLists}
use Rattle.flow_defs.specs.Program.{program_of}
use Rattle.program_graph.specs.Tells.{Tells}
use Rattle.stack_rules.specs.Gains.{Gains}
use Rattle.stack_rules.proofs.GainsLemmas.{OfBelow}
use Rattle.entry_rules.specs.ObjectFacts.{facts_of}
use Rattle.entry_rules.specs.PointWarns.{PointIsTaken}
use Rattle.entry_rules.proofs.taken.push_taken.Given as goal

abbrev pub invariant-loop-n : goal.invariant-loop-n
invariant-loop-n l =
    (lists : NameLists) → Tells (program_of l.places lists) l.graph.parts
    → Gains l.fn.into.items l.into.items (OfBelow l.n (PointIsTaken (program_of l.places lists) (facts_of l.places)))
