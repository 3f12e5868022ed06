use Rattle.std.proofs.Common.{◌≡◌}
use Rattle.ot_base.specs.declared.rules.TheConstants.{UNREACHABLE_INSTRUCTION}
use Rattle.ot_base.specs.Warnings.{bare_warning}
use Rattle.machine_defs.specs.Program.{Program}
use Rattle.machine_defs.specs.Broken.{IsFirstUnreached}
use Rattle.stack_rules.specs.Checks.{Checks}
use Rattle.stack_rules.specs.Gains.{Gains}
use Rattle.stack_rules.proofs.GainsLemmas.{OfBelow}
use Rattle.stack_rules.proofs.unreached.push_unreachable.Given as goal

abbrev pub invariant-loop-n : goal.invariant-loop-n
invariant-loop-n l =
    (p : Program) → Checks p l.graph.parts l.kept
    → Gains l.fn.into.items l.into.items (OfBelow l.n (λ q w. IsFirstUnreached p l.options q × (w ≡ bare_warning (p.place q) UNREACHABLE_INSTRUCTION)))
