use Rattle.std.proofs.Common.{sym, ◌∙◌}
use Rattle.elf_objects.proofs.Read.{length-symbols}
use Rattle.elf_objects.proofs.object.Object.symbols.Goals as goal

pub returns-clause-value : goal.returns-clause-value
returns-clause-value c = c.self.invariant.count_is ∙ sym (length-symbols _ _ c.self.view_is)
