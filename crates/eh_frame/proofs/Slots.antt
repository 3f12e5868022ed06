-- The relocations of the entries: they are read back, and each lies in `.eh_frame`.
use Rattle.std.proofs.Common.{◌≡◌, ℕ, ◌+◌, ◌^◌, ◌<◌, ◌≤◌, List, [], ◌∷◌, ◌++◌, length, Option, Some, ◌∙◌, ap, subst, FitsSigned, Fits, w64, arith, length-append}
use Rattle.std.specs.Prelude.{All, unwrap_or}
use Rattle.std.proofs.Math.Facts.{sfits_to_z, to_z_pos}
use Rattle.std.proofs.lemmas.List.Elements.{All-nil, All-cons, All-head, All-tail}
use Rattle.ot_base.specs.declared.row.PlacedRow.{PlacedRow}
use Rattle.elf_objects.specs.Elf.{Elf}
use Rattle.elf_objects.specs.Contents.{section_at, section_symbol_of}
use Rattle.elf_write.specs.Added.{relocs_in}
use Rattle.orc_bytes.proofs.OneList.{symbol_below}
use Rattle.orc_output.proofs.Slots.{IsInside, relocs_of}
use Rattle.eh_frame.specs.Records.{cie, entry_bytes, terminator}
use Rattle.eh_frame.specs.RowFrames.{address_slot, entries_bytes, frame_rela, frame_section, frame_slots, sections_with, slots_from, spelled_in, CanHaveFrames}
use Rattle.eh_frame.proofs.EntryLemmas.{entry_length}
use Rattle.eh_frame.proofs.FrameBound.{frame_bound}
use Rattle.eh_frame.proofs.FrameLaw.{IsReady, all_ready}

slot_inside : (o : Elf) (at sec symbol end : ℕ) → at + 12 ≤ end → end < 2 ^ 32 → length o.symbols ≤ 4194304 → section_symbol_of o sec ≡ Some symbol
    → IsInside o end (address_slot (section_symbol_of o) at sec)
slot_inside o at sec symbol end h short few is =
    let nothing : Fits w64 0 = record { fits = omega arith } in
    let low : 0 < 2 ^ 63 = omega arith in
    let same : unwrap_or (section_symbol_of o sec) 0 ≡ symbol = ap (λ (s : Option ℕ). unwrap_or s 0) is in
    let below : symbol < length o.symbols = symbol_below o sec symbol is in
    let ends : at + 8 + 4 ≤ end = omega arith in
    record {
      bits = record {
        offset = omega arith;
        kind = omega arith;
        sym = omega arith;
        addend = subst (FitsSigned w64) (to_z_pos w64 low) (sfits_to_z nothing);
      };
      inside = record { symbol = omega arith; field = λ read. ends };
    }

slots_inside_from : (o : Elf) (rows : List PlacedRow) (secs : List ℕ) (at end : ℕ) → at + length (entries_bytes o rows at secs) ≤ end → end < 2 ^ 32 → length o.symbols ≤ 4194304
    → All (IsReady o rows) secs → All (IsInside o end) (slots_from o rows at secs)
slots_inside_from o rows [] at end h short few ready = All-nil (IsInside o end)
slots_inside_from o rows (sec ∷ secs) at end h short few ready =
    let one : IsReady o rows sec = All-head (IsReady o rows) sec secs ready in
    let whole : length (entries_bytes o rows at (sec ∷ secs)) ≡ 17 + length (spelled_in o rows sec) + length (entries_bytes o rows (at + 17 + length (spelled_in o rows sec)) secs) =
    length-append (entry_bytes at (section_at o sec).size (spelled_in o rows sec)) (entries_bytes o rows (at + 17 + length (spelled_in o rows sec)) secs)
    ∙ ap (λ (k : ℕ). k + length (entries_bytes o rows (at + 17 + length (spelled_in o rows sec)) secs)) (entry_length at (section_at o sec).size (spelled_in o rows sec)) in
    All-cons (IsInside o end) (address_slot (section_symbol_of o) at sec) (slots_from o rows (at + 17 + length (spelled_in o rows sec)) secs)
    (slot_inside o at sec one.symbol end (omega arith) short few one.stands.symbol)
    (slots_inside_from o rows secs (at + 17 + length (spelled_in o rows sec)) end (omega arith) short few (All-tail (IsReady o rows) sec secs ready))

-- the section has 32 bits' room
pub short_section : (o : Elf) (rows : List PlacedRow) → length o.sections ≤ 262144 → length rows ≤ 67108865 → length (frame_section o rows) < 2 ^ 32
short_section o rows h k = let bound = frame_bound o rows in omega arith

pub slots_inside : (o : Elf) (rows : List PlacedRow) → length o.sections ≤ 262144 → length o.symbols ≤ 4194304 → CanHaveFrames o rows
    → All (IsInside o (length (frame_section o rows))) (frame_slots o rows)
unfolding frame_section frame_slots
slots_inside o rows h few can =
    let entries : List ℕ = entries_bytes o rows 24 (sections_with o rows) in
    let c : length (cie ++ (entries ++ terminator)) ≡ 24 + length (entries ++ terminator) = length-append cie (entries ++ terminator) in
    let d : length (entries ++ terminator) ≡ length entries + 4 = length-append entries terminator in
    slots_inside_from o rows (sections_with o rows) 24 (length (cie ++ (entries ++ terminator))) (omega arith) (short_section o rows h can.few) few (all_ready o rows can)

-- the relocations in the body are those that it was made of
pub relocs_back : (o : Elf) (rows : List PlacedRow) → length o.sections ≤ 262144 → length o.symbols ≤ 4194304 → CanHaveFrames o rows → relocs_in (frame_rela o rows) ≡ frame_slots o rows
relocs_back o rows h few can = relocs_of o (length (frame_section o rows)) (frame_slots o rows) (slots_inside o rows h few can)
