use Rattle.elf_write.proofs.Same.{added}
use Rattle.elf_write.proofs.law.calls_add.Goals as goal

pub returns : goal.returns
returns c = added
