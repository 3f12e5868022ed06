use Rattle.std.proofs.Common.{rules}
use Rattle.elf_write.specs.Layout.{encoded}
use Rattle.elf_write.proofs.bytes.push_u32.Goals as goal

pub returns : goal.returns
unfolding encoded
returns c = search rules
