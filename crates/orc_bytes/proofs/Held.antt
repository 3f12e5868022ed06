-- The bodies of some rows make ORC sections of these rows.
use Rattle.std.proofs.Common.{◌≡◌, ℕ, ◌+◌, ◌*◌, ◌^◌, ◌<◌, List, [], ◌∷◌, map, length, take, drop, Option, Some, None, refl, sym, ◌∙◌, ap, subst, FitsSigned, Fits, w64, arith}
use Rattle.std.specs.Prelude.{All, IsSome, slice_get, unwrap_or, option_and_then, flat_map}
use Rattle.std.specs.List.{enumerate_from, range_with_len}
use Rattle.std.proofs.Math.Facts.{sfits_to_z, to_z_pos}
use Rattle.std.proofs.lemmas.Bool.{false≢true}
use Rattle.std.proofs.lemmas.List.Elements.{All-nil, All-cons, All-head, All-tail}
use Rattle.ot_base.specs.declared.row.PlacedRow.{PlacedRow}
use Rattle.elf_objects.specs.declared.symbol.Reloc.{Reloc}
use Rattle.elf_objects.specs.Elf.{Elf}
use Rattle.elf_objects.specs.Contents.{section_symbol_of}
use Rattle.elf_objects.specs.Table.{reloc_at}
use Rattle.orc_bytes.specs.RelocBytes.{bytes_of_reloc, IsReloc}
use Rattle.orc_bytes.specs.Sections.{IsRowOf, slot, slots}
use Rattle.orc_bytes.specs.Laws.{BodiesAreHeld}
use Rattle.orc_bytes.proofs.OneList.{symbol_below}
use Rattle.orc_bytes.proofs.ReadBack.{relocs_read}

slot_symbol : (object : Elf) (i : ℕ) → length object.symbols < 2 ^ 32 → IsSome (section_symbol_of object i) → unwrap_or (section_symbol_of object i) 0 < 2 ^ 32
slot_symbol object i few is = go (section_symbol_of object i) refl is
  where
    go : (o : Option ℕ) → section_symbol_of object i ≡ o → IsSome o → unwrap_or o 0 < 2 ^ 32
    go None e is = absurd (false≢true is)
    go (Some k) e is =
        let below = symbol_below object i k e in
        omega arith

-- the relocation of a row has 24 bytes
slot_fits : (object : Elf) (n : ℕ) (placed : PlacedRow) → 4 * n < 2 ^ 64 → length object.symbols < 2 ^ 32 → IsRowOf object placed → IsReloc (slot (section_symbol_of object) (4 * n) placed)
slot_fits object n placed room few is = let bits : Fits w64 placed.place.off = record { fits = let low = is.addend in omega arith } in record {
  offset = room;
  kind = omega arith;
  sym = slot_symbol object placed.place.sec few is.symbol;
  addend = subst (FitsSigned w64) (to_z_pos w64 is.addend) (sfits_to_z bits);
}

slots_fit : (object : Elf) (n : ℕ) (rows : List PlacedRow) → n + length rows < 2 ^ 32 + 1 → length object.symbols < 2 ^ 32 → All (IsRowOf object) rows → All IsReloc (map (λ entry. slot (section_symbol_of object) (4 * entry.0) entry.1) (enumerate_from n rows))
slots_fit object n [] room few all = All-nil IsReloc
slots_fit object n (placed ∷ rows) room few all =
    All-cons IsReloc _ _
    (slot_fits object n placed (omega arith) few (All-head (IsRowOf object) placed rows all))
    (slots_fit object (n + 1) rows (omega arith) few (All-tail (IsRowOf object) placed rows all))

slots_length : (f : ℕ × PlacedRow → Reloc) (n : ℕ) (rows : List PlacedRow) → length (map f (enumerate_from n rows)) ≡ length rows
slots_length f n [] = refl
slots_length f n (placed ∷ rows) = let e = slots_length f (n + 1) rows in omega (arith, e)

pub bodies_held : BodiesAreHeld
bodies_held object rows ip at placed few_rows few_symbols table ips named relocs stored =
    let list = slots (section_symbol_of object) rows in
    let count : length list ≡ length rows = slots_length (λ entry. slot (section_symbol_of object) (4 * entry.0) entry.1) 0 rows in
    let fit : All IsReloc list = slots_fit object 0 rows (omega arith) few_symbols placed in
    let here : take (24 * length list) (drop at object.bytes) ≡ flat_map bytes_of_reloc list = ap (λ (n : ℕ). take (24 * n) (drop at object.bytes)) count ∙ stored in
    let read : map (λ k. reloc_at object.bytes (at + 24 * k)) (range_with_len 0 (length rows)) ≡ list = ap (λ (n : ℕ). map (λ k. reloc_at object.bytes (at + 24 * k)) (range_with_len 0 n)) (sym count) ∙ relocs_read object.bytes at list fit here in
    record {
      table = table;
      ip = ips;
      relocs = ap (option_and_then (λ i. slice_get object.relocs i)) named ∙ relocs ∙ ap (λ rs. Some rs) read;
      each = placed;
    }
