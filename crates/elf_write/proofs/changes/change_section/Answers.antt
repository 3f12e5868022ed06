use Rattle.std.proofs.Common.{◌≢◌, ℕ, ◌+◌, ◌*◌, List, map, sym, ap, ◌∙◌, arith}
use Rattle.elf_objects.specs.Contents.{section_at}
use Rattle.elf_objects.specs.Elf.{SectionEntry}
use Rattle.elf_objects.specs.declared.TheConstants.{SHT_SYMTAB, SHT_RELA, SHT_GROUP, SHT_SYMTAB_SHNDX}
use Rattle.elf_objects.specs.Lent.{lent_section}
use Rattle.elf_write.specs.Layout.{encoded, written}
use Rattle.elf_write.specs.SymbolLayout.{Change, changed, moved}
use Rattle.elf_write.proofs.ChangesOf.{at_header, at_rela, header_group, header_numbers, header_other, header_symtab, of}
use Rattle.elf_write.proofs.changes.change_section.Goals as goal

pub returns-in-4-clause-bytes : goal.returns-in-4-clause-bytes
returns-in-4-clause-bytes c =
    let o = c.args.object.now in
    let p = c.args.plan.now in
    let i : ℕ = c.args.i in
    let s : SectionEntry = lent_section (section_at o i).name c.section-section.result in
    let made = of o p i s (sym c.section-section.ensures.value) ∙ at_rela p (p.headers_at + 64 * i) s c.in-4.is in
    c.change_relocs.ensures.bytes ∙ ap (λ (cs : List Change). changed cs c.args.out.now) (sym made)

pub returns-in-2-clause-bytes : goal.returns-in-2-clause-bytes
returns-in-2-clause-bytes c =
    let o = c.args.object.now in
    let p = c.args.plan.now in
    let i : ℕ = c.args.i in
    let at : ℕ = p.headers_at + 64 * i in
    let s : SectionEntry = lent_section (section_at o i).name c.section-section.result in
    let made = of o p i s (sym c.section-section.ensures.value) ∙ at_header p at s (λ e. omega (arith, c.in-2.is)) ∙ ap (map (moved at)) (header_symtab p s c.in-2.is) in
    c.put_u32.ensures.bytes
    ∙ ap (written (at + 44) (encoded 4 (s.info + p.count)))
    (c.put_u64-in-2.ensures.bytes ∙ ap (written (at + 32) (encoded 8 (s.size + 24 * p.count))) c.put_u64.ensures.bytes)
    ∙ ap (λ (cs : List Change). changed cs c.args.out.now) (sym made)

pub returns-in-18-clause-bytes : goal.returns-in-18-clause-bytes
returns-in-18-clause-bytes c =
    let o = c.args.object.now in
    let p = c.args.plan.now in
    let i : ℕ = c.args.i in
    let at : ℕ = p.headers_at + 64 * i in
    let s : SectionEntry = lent_section (section_at o i).name c.section-section.result in
    let made = of o p i s (sym c.section-section.ensures.value) ∙ at_header p at s (λ e. omega (arith, c.in-18.is)) ∙ ap (map (moved at)) (header_numbers p s c.in-18.is) in
    c.put_u64-in-18-2.ensures.bytes
    ∙ ap (written (at + 32) (encoded 8 (s.size + 4 * p.count))) c.put_u64-in-18.ensures.bytes
    ∙ ap (λ (cs : List Change). changed cs c.args.out.now) (sym made)

pub returns-in-17-clause-bytes : goal.returns-in-17-clause-bytes
returns-in-17-clause-bytes c =
    let o = c.args.object.now in
    let p = c.args.plan.now in
    let i : ℕ = c.args.i in
    let at : ℕ = p.headers_at + 64 * i in
    let s : SectionEntry = lent_section (section_at o i).name c.section-section.result in
    let made = of o p i s (sym c.section-section.ensures.value) ∙ at_header p at s (λ e. omega (arith, c.in-17.is)) ∙ ap (map (moved at)) (header_group p s c.in-17.is) in
    c.put_u32-in-17.ensures.bytes
    ∙ ap (λ (n : ℕ). written (at + 44) (encoded 4 n) c.args.out.now) c.renumbered.ensures
    ∙ ap (λ (cs : List Change). changed cs c.args.out.now) (sym made)

pub returns-in_default-clause-bytes : goal.returns-in_default-clause-bytes
returns-in_default-clause-bytes c =
    let o = c.args.object.now in
    let p = c.args.plan.now in
    let i : ℕ = c.args.i in
    let at : ℕ = p.headers_at + 64 * i in
    let s : SectionEntry = lent_section (section_at o i).name c.section-section.result in
    let not_rela : s.kind ≢ SHT_RELA = λ e. omega arith in
    let not_symtab : s.kind ≢ SHT_SYMTAB = λ e. omega arith in
    let not_numbers : s.kind ≢ SHT_SYMTAB_SHNDX = λ e. omega arith in
    let not_group : s.kind ≢ SHT_GROUP = λ e. omega arith in
    let made = of o p i s (sym c.section-section.ensures.value) ∙ at_header p at s not_rela ∙ ap (map (moved at)) (header_other p s not_symtab not_numbers not_group) in
    ap (λ (cs : List Change). changed cs c.args.out.now) (sym made)
