use Rattle.std.proofs.Common.{◌≡◌, ℕ, length, refl, sym, ap, ◌∙◌, arith}
use Rattle.std.specs.Prelude.{◌==◌}
use Rattle.elf_objects.specs.Contents.{section_at}
use Rattle.elf_objects.specs.Elf.{SectionEntry}
use Rattle.elf_objects.specs.declared.TheConstants.{SHT_SYMTAB_SHNDX}
use Rattle.elf_objects.proofs.LeastBelow.{none-least_below}
use Rattle.elf_write.proofs.Ranges.{least_below-is}
use Rattle.elf_write.proofs.find.index_table.Goals as goal

pub returns-then-section-eq-SHT_SYMTAB_SHNDX : goal.returns-then-section-eq-SHT_SYMTAB_SHNDX
returns-then-section-eq-SHT_SYMTAB_SHNDX c =
    let o = c.args.object.now in
    let k : (section_at o c.loop-i.i).kind ≡ SHT_SYMTAB_SHNDX =
    sym (ap (λ (s : SectionEntry). s.kind) c.section.ensures.value) ∙ c.if-section-eq-SHT_SYMTAB_SHNDX.true in
    sym (least_below-is (λ (i : ℕ). (section_at o i).kind == SHT_SYMTAB_SHNDX) (length o.sections) c.loop-i.i
    (omega (arith, c.loop-i-test.true, c.sections-i-end.ensures.value)) (rw k refl) c.loop-i.invariant)

pub returns : goal.returns
returns c =
    let o = c.args.object.now in
    sym (none-least_below (λ (i : ℕ). (section_at o i).kind == SHT_SYMTAB_SHNDX) (length o.sections)
    (λ k h. c.loop-i.invariant k (omega (arith, c.loop-i-test.false, c.sections-i-end.ensures.value))))
