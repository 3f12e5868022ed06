-- Which places symbols cover, and whether an object is linked from several.
use Rattle.std.specs.Prelude.{ℕ, ◌==◌, ◌&&◌, not, nat_le, nat_lt, Bool, false, length, filter}
use Rattle.std.specs.List.{list_any, range_with_len}
use Rattle.ot_base.specs.declared.place.Place.{Place}
use Rattle.elf_objects.specs.declared.symbol.Home.{Home}
use Rattle.elf_objects.specs.declared.symbol.Home.TheVariants as homes
use Rattle.elf_objects.specs.declared.TheConstants.{STT_FILE, STT_SECTION}
use Rattle.elf_objects.specs.Contents.{symbol_at}
use Rattle.elf_objects.specs.Elf.{Elf}
use Rattle.symbols_relocs.specs.NamedCode.{is_byte_of}

-- a home is this section
abbrev pub is_home_of : ℕ → Home → Bool
is_home_of sec (homes.Section i) = i == sec
is_home_of sec homes.Undefined = false
is_home_of sec homes.Absolute = false
is_home_of sec homes.Common = false

-- the symbol is defined in a section, and isn't one for the section itself
abbrev pub is_symbol_of : Elf → ℕ → ℕ → Bool
is_symbol_of o sec k = is_home_of sec (symbol_at o k).home && not ((symbol_at o k).kind == STT_SECTION)

-- one of the symbols of its section has its value at a place or below, and one has a byte there
abbrev pub is_behind_symbol : Elf → Place → Bool
is_behind_symbol o place = list_any (λ k. is_symbol_of o place.sec k && nat_le (symbol_at o k).value place.off) (range_with_len 0 (length o.symbols))

abbrev pub is_covered : Elf → Place → Bool
is_covered o place = list_any (λ k. is_symbol_of o place.sec k && is_byte_of o k place) (range_with_len 0 (length o.symbols))

-- A symbol of its section has its value at a place or below, and none covers it; so no function holds it.
unfoldable pub is_uncovered : Elf → Place → Bool
is_uncovered o place = is_behind_symbol o place && not (is_covered o place)

-- an object is linked from several: it has more than one symbol of type STT_FILE
unfoldable pub is_linked : Elf → Bool
is_linked o = nat_lt 1 (length (filter (λ s. s.kind == STT_FILE) o.symbols))
