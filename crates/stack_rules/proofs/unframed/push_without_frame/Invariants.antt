use Rattle.std.proofs.Common.{◌≡◌}
use Rattle.ot_base.specs.declared.rules.TheConstants.{CALL_WITHOUT_FRAME}
use Rattle.ot_base.specs.Warnings.{bare_warning}
use Rattle.machine_defs.specs.Program.{Program}
use Rattle.stack_rules.specs.Checks.{Checks}
use Rattle.stack_rules.specs.Gains.{Gains}
use Rattle.stack_rules.specs.Unframed.{IsUnframed}
use Rattle.stack_rules.proofs.GainsLemmas.{OfBelow}
use Rattle.stack_rules.proofs.unframed.push_without_frame.Given as goal

abbrev pub invariant-loop-n : goal.invariant-loop-n
invariant-loop-n l =
    (p : Program) → Checks p l.graph.parts l.kept
    → Gains l.fn.into.items l.into.items (OfBelow l.n (λ q w. IsUnframed p q × (w ≡ bare_warning (p.place q) CALL_WITHOUT_FRAME)))
