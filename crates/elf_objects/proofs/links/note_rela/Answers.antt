use Rattle.std.proofs.Common.{◌<◌, ◌∙◌, Option, Some, None, ℕ, length, sym, ap, arith}
use Rattle.std.proofs.lemmas.List.{get_or_default}
use Rattle.elf_objects.specs.Below.{first_of}
use Rattle.elf_objects.specs.declared.header.SectionHeader.{SectionHeader}
use Rattle.elf_objects.specs.File.{section_count}
use Rattle.elf_objects.specs.Table.{is_rela_of}
use Rattle.elf_objects.proofs.Found.{AreLeast-other, AreLeast-set, is_rela_of-other, is_rela_of-rela}
use Rattle.elf_objects.proofs.links.note_rela.Goals as goal

pub returns-then-h-eq-SHT_RELA : goal.returns-then-h-eq-SHT_RELA
returns-then-h-eq-SHT_RELA c =
    let b = c.args.headers.now.bytes.now in
    let i = c.args.i in
    let h = c.get-h.ensures in
    let is = sym (ap (λ (h : SectionHeader). h.kind) h) ∙ c.if-h-eq-SHT_RELA.true in
    let info = sym (ap (λ (h : SectionHeader). h.info) h) in
    let exists = (c.requires.links.relocs is).exists in
    let inside : c.get-h.result.info < length c.args.relas.now.items = omega (arith, exists, info, c.requires.seen.size_is) in
    let read = c.index.ensures ∙ get_or_default c.args.relas.now.items c.get-h.result.info _ None inside in
    AreLeast-set (is_rela_of b) (section_count b) i c.get-h.result.info c.args.relas.now.items c.earliest.result
    (is_rela_of-rela b i c.get-h.result.info is info)
    (omega (arith, exists, info))
    c.requires.seen
    (c.earliest.ensures ∙ ap (λ (o : Option ℕ). first_of o (Some i)) read)

pub returns-else-h-eq-SHT_RELA : goal.returns-else-h-eq-SHT_RELA
returns-else-h-eq-SHT_RELA c =
    let b = c.args.headers.now.bytes.now in
    AreLeast-other (is_rela_of b) (section_count b) c.args.i c.args.relas.now.items
    (is_rela_of-other b c.args.i (λ is. c.if-h-eq-SHT_RELA.false (ap (λ (h : SectionHeader). h.kind) c.get-h.ensures ∙ is)))
    c.requires.seen
