use Rattle.elf_write.specs.Layout.{encoded}
use Rattle.elf_write.proofs.Put.{put-written}
use Rattle.elf_write.proofs.changes.put_u32.Goals as goal

pub returns-clause-bytes : goal.returns-clause-bytes
unfolding encoded
returns-clause-bytes c = put-written c.args.at 4 c.args.n c.args.out.now c.write_u32.new.buf c.write_u32.ensures
