-- The places that relocations name (x86-64 psABI, "Relocation").
use Rattle.std.specs.Prelude.{ℕ, ℤ, pos, negsuc, ◌+ℤ◌, ◌^◌, nat_lt, Bool, Option, Some, None, option_map, option_and_then, if◌then◌else◌}
use Rattle.std.specs.List.{list_any, range_with_len}
use Rattle.ot_base.specs.declared.place.Place.{Place}
use Rattle.elf_objects.specs.declared.symbol.Home.{Home}
use Rattle.elf_objects.specs.declared.symbol.Home.TheVariants as homes
use Rattle.elf_objects.specs.declared.symbol.Reloc.{Reloc}
use Rattle.elf_objects.specs.Elf.{Elf}
use Rattle.elf_objects.specs.Contents.{relocs_at, symbol_at}
use Rattle.symbols_relocs.specs.Relocs.{first_at_offset, first_pointer, is_changed}

-- a number as an offset, where 64 bits hold it
abbrev pub offset_of : ℤ → Option ℕ
offset_of (pos n) = if nat_lt n (2 ^ 64) then Some n else None
offset_of (negsuc n) = None

-- the place at an offset of a symbol's home, where that is a section
abbrev pub place_in : Home → Option ℕ → Option Place
place_in (homes.Section i) off = option_map (λ o. record { sec = i; off = o }) off
place_in homes.Undefined off = None
place_in homes.Absolute off = None
place_in homes.Common off = None

-- The place that a relocation names: in the section of its symbol, at the symbol's value plus the addend. It names
-- none where the symbol is defined in no section, and where 64 bits do not hold the sum.
abbrev pub place_named : Elf → Reloc → Option Place
place_named o r = let s = symbol_at o r.sym in place_in s.home (offset_of (pos s.value +ℤ r.addend))

-- the relocation of the field at a place, whatever its type: the first in the order of the file
abbrev pub reloc_at : Elf → Place → Option Reloc
reloc_at o field = first_at_offset field.off (relocs_at o field.sec)

-- the relocation by which the field at a place holds a place: the first, in the order of the file, of such a type
abbrev pub pointer_at : Elf → Place → Option Reloc
pointer_at o field = first_pointer field.off (relocs_at o field.sec)

-- the place that the field at a place holds
abbrev pub place_held_at : Elf → Place → Option Place
place_held_at o field = option_and_then (place_named o) (pointer_at o field)

-- a relocation of any type but 0 begins at one of so many bytes from a place on
abbrev pub is_relocated : Elf → Place → ℕ → Bool
is_relocated o place len = list_any (λ off. is_changed off (relocs_at o place.sec)) (range_with_len place.off len)
