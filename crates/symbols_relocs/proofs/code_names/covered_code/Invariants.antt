use Rattle.std.proofs.Common.{◌≡◌, ◌&&◌, true}
use Rattle.std.specs.Prelude.{nat_le}
use Rattle.std.specs.List.{list_any, range_with_len}
use Rattle.ot_base.specs.declared.place.Place.{Place}
use Rattle.elf_objects.specs.Contents.{is_text, section_at, symbol_at}
use Rattle.symbols_relocs.specs.Covers.{is_symbol_of}
use Rattle.symbols_relocs.specs.Extents.{have_byte, have_start}
use Rattle.symbols_relocs.specs.NamedCode.{is_byte_of}
use Rattle.symbols_relocs.proofs.code_names.covered_code.Given as goal

abbrev pub invariant-loop-k : goal.invariant-loop-k
invariant-loop-k l = record {
  bytes : (place : Place) → is_text (section_at l.object place.sec) ≡ true → have_byte l.extents.items place ≡ list_any (λ k. is_symbol_of l.object place.sec k && is_byte_of l.object k place) (range_with_len 0 l.k);
  starts : (place : Place) → is_text (section_at l.object place.sec) ≡ true → have_start l.extents.items place ≡ list_any (λ k. is_symbol_of l.object place.sec k && nat_le (symbol_at l.object k).value place.off) (range_with_len 0 l.k);
}
