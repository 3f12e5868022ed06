use Rattle.std.proofs.Common.{sym, ap, ◌∙◌, arith}
use Rattle.std.specs.Prelude.{◌==◌, Bool}
use Rattle.std.proofs.lemmas.List.{get_or_default}
use Rattle.std.proofs.lemmas.List.Folds.{list_any_none}
use Rattle.elf_objects.specs.Contents.{no_section}
use Rattle.elf_objects.specs.Elf.{SectionEntry}
use Rattle.elf_objects.specs.declared.TheConstants.{SHT_SYMTAB_SHNDX}
use Rattle.site_lists.proofs.code_sites.has_section_numbers.Goals as goal

pub returns-clause-value : goal.returns-clause-value
returns-clause-value c =
    let is : SectionEntry → Bool = λ s. s.kind == SHT_SYMTAB_SHNDX in
    sym
    (list_any_none is c.args.object.now.sections
    (λ k d inside.
    ap is (get_or_default c.args.object.now.sections k d no_section inside)
    ∙ c.loop-i.invariant k (omega (arith, c.loop-i-test.false, c.sections-i-end.ensures.value))))
