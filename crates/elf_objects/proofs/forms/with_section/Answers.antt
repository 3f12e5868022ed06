use Rattle.std.proofs.Common.{ap, ◌==◌}
use Rattle.elf_objects.specs.declared.TheConstants.{SHT_SYMTAB, SHT_SYMTAB_SHNDX}
use Rattle.elf_objects.specs.Table.{is_kind}
use Rattle.elf_objects.specs.declared.header.SectionHeader.{SectionHeader}
use Rattle.elf_objects.proofs.LeastBelow.{least_below-step}
use Rattle.elf_objects.proofs.forms.with_section.Goals as goal

pub returns : goal.returns
returns c = record {
  symbols = least_below-step (is_kind c.args.headers.now.bytes.now SHT_SYMTAB) c.args.i _ _ _ c.requires.seen.symbols (ap (λ (h : SectionHeader). h.kind == SHT_SYMTAB) c.get-kind.ensures) c.earliest.ensures;
  indices = least_below-step (is_kind c.args.headers.now.bytes.now SHT_SYMTAB_SHNDX) c.args.i _ _ _ c.requires.seen.indices (ap (λ (h : SectionHeader). h.kind == SHT_SYMTAB_SHNDX) c.get-kind.ensures) c.earliest-2.ensures;
}
