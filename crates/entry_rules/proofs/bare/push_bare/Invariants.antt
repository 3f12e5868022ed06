use Rattle.ot_base.specs.NameLists.{NameLists}
use Rattle.flow_defs.specs.Program.{program_of}
use Rattle.program_graph.specs.Tells.{Tells}
use Rattle.stack_rules.specs.Gains.{Gains}
use Rattle.stack_rules.proofs.GainsLemmas.{OfBelow}
use Rattle.entry_rules.specs.PointWarns.{PointIsBare}
use Rattle.entry_rules.proofs.bare.push_bare.Given as goal

abbrev pub invariant-loop-n : goal.invariant-loop-n
invariant-loop-n l =
    (lists : NameLists) → Tells (program_of l.linked lists) l.graph.parts
    → Gains l.fn.into.items l.into.items (OfBelow l.n (PointIsBare (program_of l.linked lists)))
