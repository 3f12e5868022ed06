use Rattle.std.proofs.Common.{ℕ, ◌≤◌, ◌∙◌, List, length, refl, sym, subst}
use Rattle.elf_objects.specs.declared.TheConstants.{MAX_FILE_BYTES}
use Rattle.command_base.specs.declared.stop.CommandStop.TheVariants as stop
use Rattle.command_base.specs.Printing.{silent}
use Rattle.objtool_cli.specs.Summary.{stopped}
use Rattle.objtool_cli.proofs.DemoBytes.{demo_short}
use Rattle.objtool_cli.proofs.demo.demo.Goals as goal

pub returns-in_default-clause-ends : goal.returns-in_default-clause-ends
returns-in_default-clause-ends g c = stopped stop.NoMemory tt (silent refl refl)

pub summary-requires : goal.summary-requires
summary-requires g c = subst (λ (bytes : List ℕ). length bytes ≤ MAX_FILE_BYTES) (sym (c.as_slice.ensures.value ∙ c.in-Ok.ensures.layout)) (demo_short c.args.n c.requires)

pub returns-clause-ends : goal.returns-clause-ends
returns-clause-ends g c = stopped stop.NoMemory tt (silent refl refl)
