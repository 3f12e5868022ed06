use Rattle.std.proofs.Common.{◌≡◌, ◌++◌, take}
use Rattle.machine_defs.specs.Program.{Program}
use Rattle.program_graph.specs.Tells.{Tells}
use Rattle.command_base.specs.BacktraceText.{further_text}
use Rattle.command_base.proofs.backtrace_text.push_further.Given as goal

abbrev pub invariant-loop-step : goal.invariant-loop-step
invariant-loop-step l = (p : Program) → Tells p l.graph.parts → l.into.items ≡ l.initial.into.items ++ further_text l.object p (take l.step-index l.steps)
