-- The bodies of a list of places make a section that holds these places.
use Rattle.std.proofs.Common.{◌≡◌, ℕ, ◌+◌, ◌*◌, map, length, take, drop, Some, sym, ◌∙◌, ap}
use Rattle.std.specs.Prelude.{All, slice_get, option_and_then, flat_map}
use Rattle.std.specs.List.{range_with_len}
use Rattle.std.proofs.lemmas.List.Elements.{All-weaker}
use Rattle.ot_base.specs.declared.place.Place.{Place}
use Rattle.elf_objects.specs.Contents.{section_symbol_of}
use Rattle.elf_objects.specs.Table.{reloc_at}
use Rattle.orc_bytes.specs.RelocBytes.{bytes_of_reloc, IsReloc}
use Rattle.orc_bytes.proofs.ReadBack.{relocs_read}
use Rattle.orc_output.proofs.Behind.{length-each}
use Rattle.orc_output.proofs.Slots.{IsInside}
use Rattle.site_lists.specs.Laws.{BodiesAreHeld}
use Rattle.site_lists.specs.Sections.{slot_reloc, slot_relocs}
use Rattle.site_lists.proofs.OutputSlots.{slots_inside}

pub bodies_held : BodiesAreHeld
bodies_held object name places section at placed few_places few_symbols slots named relocs stored =
    let list = slot_relocs (section_symbol_of object) places in
    let count : length list ≡ length places = length-each (λ (entry : ℕ × Place). slot_reloc (section_symbol_of object) (4 * entry.0) entry.1) 0 places in
    let fit : All IsReloc list = All-weaker (IsInside object (4 * length places)) IsReloc (λ r h. h.bits) list (slots_inside object places few_places few_symbols placed) in
    let here : take (24 * length list) (drop at object.bytes) ≡ flat_map bytes_of_reloc list = ap (λ (n : ℕ). take (24 * n) (drop at object.bytes)) count ∙ stored in
    let read : map (λ k. reloc_at object.bytes (at + 24 * k)) (range_with_len 0 (length places)) ≡ list = ap (λ (n : ℕ). map (λ k. reloc_at object.bytes (at + 24 * k)) (range_with_len 0 n)) (sym count) ∙ relocs_read object.bytes at list fit here in
    record {
      slots = slots;
      relocs = ap (option_and_then (λ i. slice_get object.relocs i)) named ∙ relocs ∙ ap (λ rs. Some rs) read;
      each = placed;
    }
