use Rattle.std.proofs.Common.{◌≡◌, ◌<◌, List, ℕ, Some, length, sym, ◌∙◌, ap}
use Rattle.elf_objects.specs.Elf.{Elf, SectionEntry}
use Rattle.elf_objects.specs.Contents.{relocs_at, section_at}
use Rattle.orc_bytes.specs.Sections.{section_named}
use Rattle.orc_bytes.proofs.Named.{body_at, relocs_at_named}
use Rattle.site_lists.specs.Faults.{HasList, bad_length}
use Rattle.site_lists.specs.Sections.{list_name}
use Rattle.site_lists.proofs.reading.slots_of.Goals as goal

-- what the section with a name says
has_list : (o : Elf) (name body : List ℕ) (i : ℕ) → section_named o name ≡ Some i → i < length o.sections → i < length o.relocs → body ≡ (section_at o i).body
    → HasList o name (record { slots = body; relocs = relocs_at o i })
has_list o name body i found inside related body_is = record {
  slots = body_at o name i found inside ∙ ap (λ xs. Some xs) (sym body_is);
  relocs = relocs_at_named o name i found related;
}

pub returns-then-body-ne0-clause-err : goal.returns-then-body-ne0-clause-err
returns-then-body-ne0-clause-err c =
    bad_length _
    (has_list c.args.object.now (list_name c.args.which) _ c.args.section c.requires.named c.requires.known c.requires.related (ap (λ (s : SectionEntry). s.body) c.section.ensures.value))
    c.if-body-ne0.true

pub returns-clause-ok : goal.returns-clause-ok
returns-clause-ok c =
    has_list c.args.object.now (list_name c.args.which) _ c.args.section c.requires.named c.requires.known c.requires.related (ap (λ (s : SectionEntry). s.body) c.section.ensures.value)
