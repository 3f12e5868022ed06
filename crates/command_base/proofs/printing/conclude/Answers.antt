use Rattle.std.proofs.Common.{◌≡◌, ℕ, List, refl, ◌∙◌, subst}
use Rattle.command_base.specs.Outside.{Output}
use Rattle.command_base.specs.Printing.{Prints, silent, tells}
use Rattle.command_base.specs.declared.status.Status.{Status}
use Rattle.command_base.proofs.PrintLemmas.{nothing_printed}
use Rattle.command_base.proofs.printing.conclude.Goals as goal

-- what is printed is the stop's line, and the status is the stop's
same_line : (s t : Status) (printed line : List ℕ) (before after : Output) (x : Status) → s ≡ t → printed ≡ line → Prints s printed before after x → Prints t line before after x
same_line s t printed line before after x status text h = subst (λ (y : Status). Prints y line before after x) status (subst (λ (bytes : List ℕ). Prints s bytes before after x) text h)

pub returns-in-NoMemory-clause-concluded : goal.returns-in-NoMemory-clause-concluded
returns-in-NoMemory-clause-concluded g c = silent c.in-NoMemory.is refl

pub returns-in-Ok-clause-concluded : goal.returns-in-Ok-clause-concluded
returns-in-Ok-clause-concluded g c = tells c.in_default.not-NoMemory (same_line _ _ _ _ _ _ _ c.status.ensures (c.as_bytes.ensures.value ∙ c.in-Ok.ensures.ok) c.print_line.ensures.printed)

pub returns-in-Err-clause-concluded : goal.returns-in-Err-clause-concluded
returns-in-Err-clause-concluded g c = tells c.in_default.not-NoMemory (nothing_printed _ _ _ _ refl)
