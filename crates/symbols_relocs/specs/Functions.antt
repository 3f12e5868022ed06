-- The functions of an object (ELF-64 gABI, symbol table): the symbols of type STT_FUNC that are defined in a text section
-- and have a size. Those with one start are one function, which is told by the lowest of their numbers.
use Rattle.std.specs.Prelude.{ℕ, ◌+◌, ◌==◌, ◌&&◌, ◌||◌, not, nat_lt, nat_le, Bool, Option, is_some, option_and_then, length}
use Rattle.ot_base.specs.declared.place.Place.{Place}
use Rattle.ot_base.specs.Places.{same_place}
use Rattle.elf_objects.specs.declared.TheConstants.{STT_FUNC}
use Rattle.elf_objects.specs.Elf.{Elf}
use Rattle.elf_objects.specs.Contents.{section_at, symbol_at}
use Rattle.elf_objects.specs.Below.{least_below}
use Rattle.symbols_relocs.specs.Places.{earlier, home_section, is_text_home}

-- the symbol is of type STT_FUNC and defined in a text section
abbrev pub is_code : Elf → ℕ → Bool
is_code o k = ((symbol_at o k).kind == STT_FUNC) && is_text_home o (symbol_at o k).home

-- the place of a symbol
abbrev pub start_of : Elf → ℕ → Place
start_of o k = record { sec = home_section (symbol_at o k).home; off = (symbol_at o k).value }

-- it leaves its section: it starts at the section's size or behind, or ends behind
abbrev pub leaves_section : Elf → ℕ → Bool
leaves_section o k =
    let s = symbol_at o k in
    let size = (section_at o (home_section s.home)).size in
    is_code o k && (nat_le size s.value || nat_lt size (s.value + s.size))

-- the first symbol that leaves its section
abbrev pub first_bad : Elf → Option ℕ
first_bad o = least_below (leaves_section o) (length o.symbols)

-- the symbol is one of a function
abbrev pub is_function : Elf → ℕ → Bool
is_function o k = is_code o k && not ((symbol_at o k).size == 0)

-- it is one of the function that starts at a place
abbrev pub is_symbol_at : Elf → Place → ℕ → Bool
is_symbol_at o place k = is_function o k && same_place (start_of o k) place

-- the function that starts at a place
abbrev pub starts_at : Elf → Place → Option ℕ
starts_at o place = least_below (is_symbol_at o place) (length o.symbols)

-- a function that starts so many bytes before a place has more bytes than these: it holds the place
abbrev pub is_held_from : Elf → Place → ℕ → Bool
is_held_from o place bytes =
    is_some (least_below (λ k. is_symbol_at o (earlier place bytes) k && nat_lt bytes (symbol_at o k).size) (length o.symbols))

-- how many bytes before a place the last function starts that holds it
abbrev pub bytes_before : Elf → Place → Option ℕ
bytes_before o place = least_below (is_held_from o place) (place.off + 1)

-- the function of a place: of those that hold it, the one with the greatest start
abbrev pub function_at : Elf → Place → Option ℕ
function_at o place = option_and_then (λ bytes. starts_at o (earlier place bytes)) (bytes_before o place)
