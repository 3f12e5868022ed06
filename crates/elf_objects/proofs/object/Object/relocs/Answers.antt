use Rattle.std.proofs.Common.{◌<◌, ap, sym, ◌∙◌, ◌/◌, List, arith, length}
use Rattle.elf_objects.specs.declared.header.SectionHeader.{SectionHeader}
use Rattle.elf_objects.specs.declared.symbol.Reloc.{Reloc}
use Rattle.elf_objects.specs.File.{section_count}
use Rattle.elf_objects.proofs.Read.{length-relocs_of, length-sections, relocs_at-entry}
use Rattle.elf_objects.proofs.object.Object.relocs.Goals as goal

pub rela_header-rela-requires-clause-known : goal.rela_header-rela-requires-clause-known
rela_header-rela-requires-clause-known c = omega (arith, length-sections _ _ c.self.view_is)

pub returns : goal.returns
returns c =
    let b = c.self.inside.symbols.headers.bytes.now in
    let known : c.args.sec < section_count b = omega (arith, length-sections _ _ c.self.view_is) in
    ap (λ (h : SectionHeader). h.size / 24) c.rela_header-rela.ensures.value
    ∙ sym (length-relocs_of b c.args.sec) ∙ sym (ap (λ (rs : List Reloc). length rs) (relocs_at-entry b _ c.args.sec c.self.view_is known))
