use Rattle.std.proofs.Common.{◌∙◌, sym}
use Rattle.elf_objects.proofs.Read.{rela-is}
use Rattle.elf_objects.proofs.relocs.rela_header.Goals as goal

pub header_or_null-requires : goal.header_or_null-requires
header_or_null-requires c = record {
  known = λ i e. (rela-is _ c.args.sec i _ (sym (c.requires.found.each c.args.sec c.requires.known) ∙ e)).0;
  body = λ i e. (rela-is _ c.args.sec i _ (sym (c.requires.found.each c.args.sec c.requires.known) ∙ e)).1;
  bodies = c.requires.bodies;
}
