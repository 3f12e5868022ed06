-- The ORC sections of the result are the rows.
use Rattle.std.proofs.Common.{◌≡◌, ◌≢◌, ◌+◌, ◌^◌, ◌<◌, true, eqb, List, length, Some, refl, ap, ◌∙◌, arith}
use Rattle.std.specs.Prelude.{codes}
use Rattle.std.proofs.lemmas.Bool.{eq-eqb}
use Rattle.std.proofs.lemmas.List.Elements.{All-weaker}
use Rattle.ot_base.specs.declared.row.PlacedRow.{PlacedRow}
use Rattle.elf_objects.specs.declared.symbol.Reloc.{Reloc}
use Rattle.elf_objects.specs.Contents.{section_symbol_of}
use Rattle.elf_objects.specs.Elf.{Elf}
use Rattle.elf_write.specs.Added.{relocs_in, relocs_with}
use Rattle.elf_write.specs.Layout.{NewEntry}
use Rattle.orc_bytes.specs.Sections.{HoldsOrc, IsRowOf, section_named, row_section, ip_section, rela_section}
use Rattle.orc_output.specs.OrcOutput.{CanHaveOrc, IsOther, ip_number, orc_sections, with_orc_object}
use Rattle.orc_output.proofs.Extended.{body_new, found_new, relocs_new, stays}
use Rattle.orc_output.proofs.Known.{Known}
use Rattle.orc_output.proofs.Slots.{relocs_back}

relocs_of_ip : (o : Elf) (rows : List PlacedRow) → relocs_with o (orc_sections o rows) (ip_number o) ≡ relocs_in (rela_section (section_symbol_of o) rows)
relocs_of_ip o rows =
    let same : eqb (ip_number o) (ip_number o) ≡ true = eq-eqb (ip_number o) (ip_number o) refl in
    rw same refl

pub held : (o : Elf) (rows : List PlacedRow) → Known o → CanHaveOrc o rows → HoldsOrc (with_orc_object o rows) rows
held o rows known can =
    let few : length rows < 2 ^ 32 = (let r = can.few_rows in omega arith) in
    let new : List NewEntry = orc_sections o rows in
    let no_table = All-weaker IsOther (λ s. s.name ≢ codes ".orc_unwind") (λ s h. h.table) o.sections can.none in
    let no_ip = All-weaker IsOther (λ s. s.name ≢ codes ".orc_unwind_ip") (λ s h. h.ip) o.sections can.none in
    let table : section_named (with_orc_object o rows) (codes ".orc_unwind") ≡ Some (length o.sections + 0) = found_new o new (codes ".orc_unwind") 0 no_table refl (omega arith) in
    let ip : section_named (with_orc_object o rows) (codes ".orc_unwind_ip") ≡ Some (ip_number o) = found_new o new (codes ".orc_unwind_ip") 1 no_ip refl (omega arith) in
    record {
      table = body_new o new (codes ".orc_unwind") 0 (row_section rows) table refl;
      ip = body_new o new (codes ".orc_unwind_ip") 1 (ip_section rows) ip refl;
      relocs = relocs_new o new (codes ".orc_unwind_ip") 1 ip (omega arith)
          ∙ ap (λ (rs : List Reloc). Some rs) (relocs_of_ip o rows ∙ relocs_back o rows few known.few_symbols can.each);
      each = All-weaker (IsRowOf o) (IsRowOf (with_orc_object o rows)) (λ placed is. record {
        section = is.section;
        at = stays o new known placed.place.sec is.section is.at is.text;
        text = is.text;
        symbol = is.symbol;
        inside = is.inside;
        addend = is.addend;
        row = is.row;
      }) rows can.each;
    }
