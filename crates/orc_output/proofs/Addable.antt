-- The three ORC sections may be added.
use Rattle.std.proofs.Common.{◌≢◌, zero, suc, ◌*◌, ◌^◌, ◌<◌, List, ◌∷◌, [], length, refl, ◌∙◌, arith}
use Rattle.std.specs.Prelude.{AllPairs, codes}
use Rattle.std.proofs.lemmas.List.{length-replicate}
use Rattle.std.proofs.lemmas.List.Elements.{All-nil, All-cons}
use Rattle.ot_base.specs.declared.row.PlacedRow.{PlacedRow}
use Rattle.elf_objects.specs.Contents.{section_symbol_of}
use Rattle.elf_objects.specs.Elf.{Elf}
use Rattle.elf_objects.specs.declared.TheConstants.{SHT_RELA}
use Rattle.elf_write.specs.Added.{AreApart, CanAdd, IsAddable}
use Rattle.elf_write.specs.Layout.{NewEntry}
use Rattle.orc_bytes.specs.Sections.{row_section, ip_section, rela_section, slots}
use Rattle.orc_output.specs.OrcOutput.{CanHaveOrc, ip_entry, ip_number, orc_entry, orc_sections, rela_entry}
use Rattle.orc_output.proofs.Known.{Known}
use Rattle.orc_output.proofs.NewSections.{data_addable, new_size, relocs_addable}
use Rattle.orc_output.proofs.Slots.{slots_inside}
use Rattle.orc_output.proofs.Room.{room}

apart_of : (a b c : NewEntry) → a.kind ≢ SHT_RELA → b.kind ≢ SHT_RELA → AllPairs AreApart (a ∷ b ∷ c ∷ [])
apart_of a b c na nb zero j d lt within = λ k l. absurd (na k)
apart_of a b c na nb (suc zero) j d lt within = λ k l. absurd (nb k)
apart_of a b c na nb (suc (suc i)) j d lt within = absurd (omega arith)

pub can_add : (o : Elf) (rows : List PlacedRow) → Known o → CanHaveOrc o rows → CanAdd o (orc_sections o rows)
can_add o rows k can =
    let new : List NewEntry = orc_sections o rows in
    let orc : NewEntry = orc_entry (row_section rows) in
    let ip : NewEntry = ip_entry (ip_section rows) in
    let rela : NewEntry = rela_entry o (rela_section (section_symbol_of o) rows) in
    let sections = can.few in
    let few : length rows < 2 ^ 32 = (let r = can.few_rows in omega arith) in
    let one : IsAddable o new orc = data_addable o new (codes ".orc_unwind") 1 6 (row_section rows) refl (omega arith) (omega arith) in
    let two : IsAddable o new ip = data_addable o new (codes ".orc_unwind_ip") 4 4 (ip_section rows) refl (omega arith) (omega arith) in
    let three : IsAddable o new rela =
    relocs_addable o new (codes ".rela.orc_unwind_ip") (ip_number o) (4 * length rows) (slots (section_symbol_of o) rows) k refl (omega arith) (omega arith) (omega arith)
    (new_size o new (ip_number o) 1 refl ∙ length-replicate (4 * length rows) 0) (slots_inside o rows few k.few_symbols can.each) in
    record {
      few = omega arith;
      size = room o rows k can;
      each = All-cons (IsAddable o new) orc (ip ∷ rela ∷ []) one (All-cons (IsAddable o new) ip (rela ∷ []) two (All-cons (IsAddable o new) rela [] three (All-nil (IsAddable o new))));
      apart = apart_of orc ip rela (λ e. omega arith) (λ e. omega arith);
    }
