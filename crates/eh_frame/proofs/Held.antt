-- The frame sections of the result are those of the rows.
use Rattle.std.proofs.Common.{◌≡◌, ◌≢◌, ℕ, ◌+◌, ◌<◌, ◌≤◌, true, eqb, List, length, Some, refl, sym, ap, ◌∙◌, arith}
use Rattle.std.specs.Prelude.{All, codes}
use Rattle.std.proofs.lemmas.Bool.{eq-eqb}
use Rattle.std.proofs.lemmas.List.Elements.{All-weaker}
use Rattle.std.proofs.lemmas.Option.{get_or_from_slice_get, slice_get_within}
use Rattle.ot_base.specs.declared.row.PlacedRow.{PlacedRow}
use Rattle.elf_objects.specs.declared.symbol.Reloc.{Reloc}
use Rattle.elf_objects.specs.Contents.{no_section, section_at}
use Rattle.elf_objects.specs.Elf.{Elf, SectionEntry}
use Rattle.elf_write.specs.Added.{relocs_in, relocs_with}
use Rattle.elf_write.specs.Layout.{NewEntry}
use Rattle.orc_bytes.specs.Sections.{section_named}
use Rattle.orc_output.proofs.Extended.{body_new, found_new, relocs_new, sections_grow, stays}
use Rattle.orc_output.proofs.Known.{Known}
use Rattle.eh_frame.specs.Laws.{HoldsFrames}
use Rattle.eh_frame.specs.RowFrames.{frame_rela, frame_section, sections_with, CanHaveFrames, IsFrameRowOf}
use Rattle.eh_frame.proofs.FrameLaw.{IsReady, all_ready}
use Rattle.eh_frame.proofs.FrameSame.{IsSameSize, frame_section_same, frame_slots_same}
use Rattle.eh_frame.specs.FrameOutput.{CanHaveSections, IsOther, frame_number, frame_sections, with_frames_object}
use Rattle.eh_frame.proofs.Slots.{relocs_back}

relocs_of_frame : (o : Elf) (rows : List PlacedRow) → relocs_with o (frame_sections o rows) (length o.sections + 0) ≡ relocs_in (frame_rela o rows)
relocs_of_frame o rows =
    let same : eqb (frame_number o) (length o.sections + 0) ≡ true = eq-eqb (frame_number o) (length o.sections + 0) (omega arith) in
    rw same refl

-- the sections with rows keep their sizes
sizes_stay : (o : Elf) (rows : List PlacedRow) → Known o → CanHaveFrames o rows → All (IsSameSize o (with_frames_object o rows) rows) (sections_with o rows)
sizes_stay o rows known can =
    All-weaker (IsReady o rows) (IsSameSize o (with_frames_object o rows) rows)
    (λ sec one. ap (λ (s : SectionEntry). s.size) (sym (get_or_from_slice_get (with_frames_object o rows).sections sec (section_at o sec) no_section (stays o (frame_sections o rows) known sec (section_at o sec) one.stands.at one.stands.text))))
    (sections_with o rows) (all_ready o rows can)

-- each row lies in a section
rows_inside : (o : Elf) (rows : List PlacedRow) → CanHaveFrames o rows → All (λ placed. placed.place.sec < length o.sections) rows
rows_inside o rows can =
    All-weaker (IsFrameRowOf o) (λ (placed : PlacedRow). placed.place.sec < length o.sections) (λ placed is. slice_get_within o.sections placed.place.sec is.section is.at) rows can.each

pub held : (o : Elf) (rows : List PlacedRow) → Known o → CanHaveSections o rows → HoldsFrames (with_frames_object o rows) rows
held o rows known can =
    let few = can.few in
    let few_sections : length o.sections ≤ 262144 = omega arith in
    let none = All-weaker IsOther (λ s. s.name ≢ codes ".eh_frame") (λ s h. h.frame) o.sections can.none in
    let new : List NewEntry = frame_sections o rows in
    let found : section_named (with_frames_object o rows) (codes ".eh_frame") ≡ Some (length o.sections + 0) = found_new o new (codes ".eh_frame") 0 none refl (omega arith) in
    let grow : length o.sections ≤ length (with_frames_object o rows).sections = sections_grow o new in
    let inside = rows_inside o rows can.frames in
    let sizes = sizes_stay o rows known can.frames in
    record {
      can = record {
        each = All-weaker (IsFrameRowOf o) (IsFrameRowOf (with_frames_object o rows)) (λ placed is. record {
          section = is.section;
          at = stays o (frame_sections o rows) known placed.place.sec is.section is.at is.text;
          text = is.text;
          symbol = is.symbol;
          inside = is.inside;
          short = is.short;
          row = is.row;
        }) rows can.frames.each;
        ascend = can.frames.ascend;
        few = can.frames.few;
      };
      body =
          body_new o new (codes ".eh_frame") 0 (frame_section o rows) found refl
          ∙ ap (λ (bs : List ℕ). Some bs) (frame_section_same o (with_frames_object o rows) rows grow inside sizes);
      relocs =
          relocs_new o new (codes ".eh_frame") 0 found (omega arith)
          ∙ ap (λ (rs : List Reloc). Some rs) (relocs_of_frame o rows ∙ relocs_back o rows few_sections known.few_symbols can.frames ∙ frame_slots_same o (with_frames_object o rows) rows grow inside (λ sec. refl) sizes);
    }
