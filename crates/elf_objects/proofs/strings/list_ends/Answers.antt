use Rattle.elf_objects.proofs.Read.{body_short}
use Rattle.elf_objects.proofs.strings.list_ends.Goals as goal

pub build-requires : goal.build-requires
build-requires c = rw c.slice_body.ensures (body_short c.args.bytes.now c.args.h.now c.requires.short)
