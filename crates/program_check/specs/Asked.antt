-- The warnings of a program, by whether an option asks for them.
use Rattle.std.specs.Prelude.{◌≡◌, ◌↔◌, ℕ, true, List, Contains}
use Rattle.ot_base.specs.declared.options.Options.{Options}
use Rattle.ot_base.specs.declared.rules.TheConstants.{UNREACHABLE_INSTRUCTION, CALL_WITHOUT_FRAME}
use Rattle.ot_base.specs.declared.warning.Warning.{Warning}
use Rattle.ot_base.specs.Warnings.{bare_warning}
use Rattle.machine_defs.specs.Program.{Program}
use Rattle.machine_defs.specs.Broken.{IsAccepted, IsBroken, IsFirstUnreached, Warns}
use Rattle.stack_rules.specs.Unframed.{IsUnframed}

-- the warnings that no option has to ask for
abbrev pub AreUnasked : Program → List Warning → Type 0
AreUnasked p warnings = (w : Warning) → Contains warnings w ↔ Warns p w.place w.rule w.a w.b

-- 14: where it is asked for, and nothing above warns
abbrev pub UnreachedWarns : Program → Options → Warning → Type 0
UnreachedWarns p options w = (q : ℕ) × (options.unreachable ≡ true) × IsAccepted p × IsFirstUnreached p options q × (w ≡ bare_warning (p.place q) UNREACHABLE_INSTRUCTION)

-- 21: where it is asked for
abbrev pub UnframedWarns : Program → Options → Warning → Type 0
UnframedWarns p options w = (q : ℕ) × (options.fp ≡ true) × IsUnframed p q × (w ≡ bare_warning (p.place q) CALL_WITHOUT_FRAME)

-- all warnings of a check
abbrev pub AreBroken : Program → Options → List Warning → Type 0
AreBroken p options warnings = (w : Warning) → Contains warnings w ↔ IsBroken p options w.place w.rule w.a w.b
