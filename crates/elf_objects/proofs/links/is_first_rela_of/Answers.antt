use Rattle.std.proofs.Common.{None, get_or}
use Rattle.elf_objects.proofs.Found.{is_first_rela-tells}
use Rattle.elf_objects.proofs.links.is_first_rela_of.Goals as goal

pub returns : goal.returns
returns c = is_first_rela-tells c.args.headers.now.bytes.now c.args.s c.args.i (get_or c.args.relas.now c.args.s None) c.is_none.result (c.requires.seen.each c.args.s c.requires.known) c.is_none.ensures
