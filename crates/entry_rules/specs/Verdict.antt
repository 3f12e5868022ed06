-- What the check of an object against the entry rules finds.
use Rattle.std.specs.Prelude.{◌≡◌, ◌↔◌, List, [], AllPairs, Contains}
use Rattle.ot_base.specs.declared.warning.Warning.{Warning}
use Rattle.ot_base.specs.NameLists.{NameLists}
use Rattle.flow_defs.specs.Coded.{Coded}
use Rattle.flow_defs.specs.Program.{program_of}
use Rattle.machine_defs.specs.Program.{Program}
use Rattle.program_graph.specs.declared.parts.GraphParts.{GraphParts}
use Rattle.program_graph.specs.Tells.{Tells}
use Rattle.stack_rules.specs.Before.{ComesBefore}
use Rattle.entry_rules.specs.declared.options.EntryOptions.{EntryOptions}
use Rattle.entry_rules.specs.EntryWarns.{EntryWarns}
use Rattle.entry_rules.specs.Facts.{EntryFacts}
use Rattle.entry_rules.specs.Law.{KeepsRules}
use Rattle.entry_rules.specs.ObjectFacts.{facts_of}

-- these are the warnings: each once, by section, offset, rule and numbers
pub record AreWarnings (p : Program) (facts : EntryFacts) (options : EntryOptions) (warnings : List Warning) : Type 0 where
  pub ascend : AllPairs ComesBefore warnings
  pub all : (w : Warning) → Contains warnings w ↔ EntryWarns p facts options w.place w.rule w.a w.b

-- The graph is that of the object's program, under some lists of names.
pub record IsGraphOf (o : Coded) (parts : GraphParts) : Type 0 where
  pub lists : NameLists
  pub tells : Tells (program_of o lists) parts

-- so it is for the program under any lists of names of which the graph is
abbrev pub AreFound : Coded → GraphParts → EntryOptions → List Warning → Type 0
AreFound o parts options warnings = (lists : NameLists) → Tells (program_of o lists) parts → AreWarnings (program_of o lists) (facts_of o) options warnings

-- where there is none, every run keeps what the options ask for
abbrev pub PromisesHold : Coded → GraphParts → EntryOptions → List Warning → Type 0
PromisesHold o parts options warnings = warnings ≡ [] → (lists : NameLists) → Tells (program_of o lists) parts → KeepsRules (program_of o lists) (facts_of o) options
