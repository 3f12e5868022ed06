-- The two frame sections may be added.
use Rattle.std.proofs.Common.{◌≡◌, ◌≢◌, zero, suc, ◌+◌, ◌≤◌, List, ◌∷◌, [], length, refl, arith}
use Rattle.std.specs.Prelude.{AllPairs, codes}
use Rattle.std.proofs.lemmas.List.Elements.{All-nil, All-cons}
use Rattle.ot_base.specs.declared.row.PlacedRow.{PlacedRow}
use Rattle.elf_objects.specs.Elf.{Elf}
use Rattle.elf_objects.specs.declared.TheConstants.{SHT_RELA}
use Rattle.elf_write.specs.Added.{AreApart, CanAdd, IsAddable}
use Rattle.elf_write.specs.Layout.{NewEntry}
use Rattle.orc_output.proofs.Known.{Known}
use Rattle.orc_output.proofs.NewSections.{data_addable, new_size, relocs_addable}
use Rattle.eh_frame.specs.RowFrames.{frame_rela, frame_section, frame_slots}
use Rattle.eh_frame.specs.FrameOutput.{CanHaveSections, frame_entry, frame_number, frame_sections, rela_entry}
use Rattle.eh_frame.proofs.Slots.{slots_inside}
use Rattle.eh_frame.proofs.Room.{room}

apart_of : (a b : NewEntry) → a.kind ≢ SHT_RELA → AllPairs AreApart (a ∷ b ∷ [])
apart_of a b na zero j d lt within = λ k l. absurd (na k)
apart_of a b na (suc i) j d lt within = absurd (omega arith)

pub can_add : (o : Elf) (rows : List PlacedRow) → Known o → CanHaveSections o rows → CanAdd o (frame_sections o rows)
can_add o rows k can =
    let new : List NewEntry = frame_sections o rows in
    let frame : NewEntry = frame_entry (frame_section o rows) in
    let rela : NewEntry = rela_entry o (frame_rela o rows) in
    let few = can.few in
    let few_sections : length o.sections ≤ 262144 = omega arith in
    let here : frame_number o ≡ length o.sections + 0 = omega arith in
    let one : IsAddable o new frame = data_addable o new (codes ".eh_frame") 8 0 (frame_section o rows) refl (omega arith) (omega arith) in
    let two : IsAddable o new rela =
    relocs_addable o new (codes ".rela.eh_frame") (frame_number o) (length (frame_section o rows)) (frame_slots o rows) k refl (omega arith) (omega arith) (omega arith)
    (new_size o new (frame_number o) 0 here) (slots_inside o rows few_sections k.few_symbols can.frames) in
    record {
      few = omega arith;
      size = room o rows k can;
      each = All-cons (IsAddable o new) frame (rela ∷ []) one (All-cons (IsAddable o new) rela [] two (All-nil (IsAddable o new)));
      apart = apart_of frame rela (λ e. omega arith);
    }
