use Rattle.std.proofs.Common.{sym, ◌∙◌}
use Rattle.elf_objects.proofs.Read.{length-sections}
use Rattle.elf_objects.proofs.object.Object.sections.Goals as goal

pub returns-clause-value : goal.returns-clause-value
returns-clause-value c = c.self.inside.symbols.headers.count_is ∙ sym (length-sections _ _ c.self.view_is)
