use Rattle.std.proofs.Common.{◌≡◌, ℕ, ◌<◌, List, Option, Some, sym, ◌∙◌, ap}
use Rattle.std.specs.Prelude.{codes}
use Rattle.elf_objects.specs.Elf.{SectionEntry}
use Rattle.elf_objects.specs.Contents.{section_at}
use Rattle.orc_bytes.specs.Faults.{HasParts, no_table, no_ips, table_length, ips_length, counts}
use Rattle.orc_bytes.proofs.Named.{body_at, has_parts}
use Rattle.orc_bytes.proofs.reading.find_parts.Goals as goal

body_is : (section : SectionEntry) (other : SectionEntry) → section ≡ other → section.body ≡ other.body
body_is section other e = ap (λ (s : SectionEntry). s.body) e

pub returns-in_default-clause-err : goal.returns-in_default-clause-err
returns-in_default-clause-err c = no_table (sym c.in_default.ensures.value)

pub returns-in_default-section_named-clause-err : goal.returns-in_default-section_named-clause-err
returns-in_default-section_named-clause-err c =
    no_ips (section_at c.args.object.now c.in-Some.table_section).body
    (body_at c.args.object.now (codes ".orc_unwind") c.in-Some.table_section (sym c.in-Some.ensures.value) c.in-Some.ensures.known)
    (sym c.in_default-section_named.ensures.value)

pub returns-then-table-ne0-clause-err : goal.returns-then-table-ne0-clause-err
returns-then-table-ne0-clause-err c =
    table_length _
    (has_parts c.args.object.now c.in-Some.table_section c.in-Some-section_named.ip_section _ _ c.in-Some.ensures.value c.in-Some.ensures.known
    c.in-Some-section_named.ensures.value c.in-Some-section_named.ensures.known c.in-Some-section_named.ensures.related
    (body_is _ _ c.section.ensures.value) (body_is _ _ c.section-2.ensures.value))
    c.if-table-ne0.true

pub returns-then-ips-ne0-clause-err : goal.returns-then-ips-ne0-clause-err
returns-then-ips-ne0-clause-err c =
    ips_length _
    (has_parts c.args.object.now c.in-Some.table_section c.in-Some-section_named.ip_section _ _ c.in-Some.ensures.value c.in-Some.ensures.known
    c.in-Some-section_named.ensures.value c.in-Some-section_named.ensures.known c.in-Some-section_named.ensures.related
    (body_is _ _ c.section.ensures.value) (body_is _ _ c.section-2.ensures.value))
    c.if-table-ne0.false c.if-ips-ne0.true

pub returns-then-table-ips-clause-err : goal.returns-then-table-ips-clause-err
returns-then-table-ips-clause-err c =
    counts _
    (has_parts c.args.object.now c.in-Some.table_section c.in-Some-section_named.ip_section _ _ c.in-Some.ensures.value c.in-Some.ensures.known
    c.in-Some-section_named.ensures.value c.in-Some-section_named.ensures.known c.in-Some-section_named.ensures.related
    (body_is _ _ c.section.ensures.value) (body_is _ _ c.section-2.ensures.value))
    c.if-table-ne0.false c.if-ips-ne0.false c.if-table-ips.true

pub returns-clause-ok : goal.returns-clause-ok
returns-clause-ok c = (
  has_parts c.args.object.now c.in-Some.table_section c.in-Some-section_named.ip_section _ _ c.in-Some.ensures.value c.in-Some.ensures.known
      c.in-Some-section_named.ensures.value c.in-Some-section_named.ensures.known c.in-Some-section_named.ensures.related
      (body_is _ _ c.section.ensures.value) (body_is _ _ c.section-2.ensures.value),
  record { rows = c.if-table-ne0.false; places = c.if-ips-ne0.false; counts = c.if-table-ips.false },
)
