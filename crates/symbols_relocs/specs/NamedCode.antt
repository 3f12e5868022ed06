-- Code that is told by the names of symbols: functions, and labels of assembly code (ELF-64 gABI, symbol table: STT_FUNC and
-- STT_NOTYPE).
use Rattle.std.specs.Prelude.{ℕ, ◌==◌, ◌&&◌, ◌||◌, Bool, List, [], ◌∷◌, length, bytes_eq, codes, Option}
use Rattle.std.specs.FinSet as set
use Rattle.std.specs.List.{list_any, range_with_len}
use Rattle.ot_base.specs.declared.place.Place.{Place}
use Rattle.ot_base.specs.NameLists.{NameSet}
use Rattle.ot_base.specs.Places.{is_within, same_place}
use Rattle.elf_objects.specs.declared.TheConstants.{STT_FUNC, STT_NOTYPE}
use Rattle.elf_objects.specs.Below.{least_below}
use Rattle.elf_objects.specs.Contents.{symbol_at}
use Rattle.elf_objects.specs.Elf.{Elf}
use Rattle.symbols_relocs.specs.Functions.{start_of}
use Rattle.symbols_relocs.specs.Places.{is_text_home}

-- the symbol is of type STT_FUNC or STT_NOTYPE and defined in a text section
abbrev pub names_code : Elf → ℕ → Bool
names_code o k = ((symbol_at o k).kind == STT_FUNC || (symbol_at o k).kind == STT_NOTYPE) && is_text_home o (symbol_at o k).home

-- a place is one of the bytes of a symbol
abbrev pub is_byte_of : Elf → ℕ → Place → Bool
is_byte_of o k place = is_within (start_of o k) (symbol_at o k).size place

-- a place lies in code whose name is one of these
abbrev pub is_named_byte : Elf → NameSet → Place → ℕ → Bool
is_named_byte o names place k = names_code o k && (set.contains names (symbol_at o k).name && is_byte_of o k place)

unfoldable pub is_in_named_code : Elf → NameSet → Place → Bool
is_in_named_code o names place = list_any (is_named_byte o names place) (range_with_len 0 (length o.symbols))

-- Names of code that returns for its caller: called, it takes its own return address off and returns to the caller's caller;
-- jumped to, it returns.
abbrev pub returning_names : List (List ℕ)
returning_names = codes "srso_safe_ret" ∷ codes "srso_alias_safe_ret" ∷ codes "retbleed_return_thunk" ∷ []

abbrev pub is_returning_name : List ℕ → Bool
is_returning_name name = list_any (bytes_eq name) returning_names

-- such code begins at a place: that of this symbol, of several the lowest
abbrev pub is_returning_symbol_at : Elf → Place → ℕ → Bool
is_returning_symbol_at o place k = names_code o k && (is_returning_name (symbol_at o k).name && same_place (start_of o k) place)

unfoldable pub returning_at : Elf → Place → Option ℕ
returning_at o place = least_below (is_returning_symbol_at o place) (length o.symbols)
