use Rattle.std.proofs.Common.{◌≡◌, ◌<◌, ap, sym, ◌∙◌, ◌/◌, List, arith, length}
use Rattle.elf_objects.specs.Contents.{relocs_at}
use Rattle.elf_objects.specs.declared.header.SectionHeader.{SectionHeader}
use Rattle.elf_objects.specs.declared.symbol.Reloc.{Reloc}
use Rattle.elf_objects.specs.File.{section_count}
use Rattle.elf_objects.specs.Table.{header_of, rela_of}
use Rattle.elf_objects.proofs.Read.{length-relocs_of, length-sections, relocs_at-entry, relocs_of-get}
use Rattle.elf_objects.proofs.object.Object.reloc.Goals as goal

pub rela_header-rela-requires-clause-known : goal.rela_header-rela-requires-clause-known
rela_header-rela-requires-clause-known c = omega (arith, length-sections _ _ c.self.view_is)

pub nth_reloc-requires-clause-known : goal.nth_reloc-requires-clause-known
nth_reloc-requires-clause-known c =
    let b = c.self.inside.symbols.headers.bytes.now in
    let known : c.args.sec < section_count b = omega (arith, length-sections _ _ c.self.view_is) in
    let count : length (relocs_at c.args.self.now c.args.sec) ≡ c.rela_header-rela.result.size / 24 = ap (λ (rs : List Reloc). length rs) (relocs_at-entry b _ c.args.sec c.self.view_is known)
    ∙ length-relocs_of b c.args.sec ∙ sym (ap (λ (h : SectionHeader). h.size / 24) c.rela_header-rela.ensures.value) in
    omega (arith, count, c.requires.inside)

pub returns : goal.returns
returns c =
    let b = c.self.inside.symbols.headers.bytes.now in
    let known : c.args.sec < section_count b = omega (arith, length-sections _ _ c.self.view_is) in
    let at = relocs_at-entry b c.args.self.now c.args.sec c.self.view_is known in
    let count = ap (λ (rs : List Reloc). length rs) at ∙ length-relocs_of b c.args.sec in
    let inside : c.args.i < (header_of b (rela_of b c.args.sec)).size / 24 = omega (arith, count, c.requires.inside) in
    rw (at, c.nth_reloc.ensures, c.rela_header-rela.ensures.value) (relocs_of-get b c.args.sec c.args.i inside)
