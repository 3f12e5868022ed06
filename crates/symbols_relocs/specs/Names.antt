-- The names of symbols, and the numbers that they are told by while parents are looked up.
use Rattle.std.specs.Prelude.{◌≡◌, ◌<◌, ◌+◌, ◌-◌, ◌*◌, ◌%◌, ℕ, Bool, List, [], Option, Some, None, IfSome, MatchOption, length, slice_get, slice_index, slice_index_or, slice_set, take, true, false}
use Rattle.std.specs.Option.{option_or}
use Rattle.elf_objects.specs.Elf.{Elf}
use Rattle.elf_objects.specs.Contents.{section_at, symbol_at}
use Rattle.symbols_relocs.specs.declared.function.Function.{Function}
use Rattle.symbols_relocs.specs.declared.part.Run.{Run}
use Rattle.symbols_relocs.specs.Lists.{function}
use Rattle.symbols_relocs.specs.Parts.{digits_at_end, first_named, part_name}

-- the string table of the symbols: the section that sh_link of the symbol table names
abbrev pub strings_by : Elf → Option ℕ → List ℕ
strings_by o None = []
strings_by o (Some table) = (section_at o (section_at o table).link).body

abbrev pub strings : Elf → List ℕ
strings o = strings_by o o.symbol_table

-- where in the file the symbols stand
abbrev pub symbols_offset_by : Elf → Option ℕ → ℕ
symbols_offset_by o None = 0
symbols_offset_by o (Some table) = (section_at o table).offset

abbrev pub symbols_offset : Elf → ℕ
symbols_offset o = symbols_offset_by o o.symbol_table

-- so many digits stand before a place of a table
abbrev pub AreRuns : List ℕ → List Run → Type 0
AreRuns table runs = (i : ℕ) (run : Run) → slice_get runs i ≡ Some run → run.digits ≡ digits_at_end (take run.end table)

-- the number of a text that may be missing
abbrev pub IsNumber : List (List ℕ) → Option ℕ → Option (List ℕ) → Type 0
IsNumber texts number text = MatchOption number (text ≡ None) (λ n. (t : List ℕ) × (text ≡ Some t) × (slice_get texts n ≡ Some t))

-- for each of the first functions the number of the P of its name, where that is the name of a part of P
pub record AreStems (o : Elf) (fs : List Function) (texts : List (List ℕ)) (count : ℕ) (stems : List (Option ℕ)) : Type 0 where
  pub len : length stems ≡ count
  pub each : (i : ℕ) → i < count → IsNumber texts (slice_index_or stems i None) (part_name (symbol_at o (function fs i).sym).name)

-- the slot of a name
abbrev pub name_slot : List ℕ → ℕ
name_slot name = (length name + 64 * slice_index name (length name - 1)) % 1024

-- it is marked
abbrev pub IsMarked : List Bool → List ℕ → Type 0
IsMarked marks name = slice_index_or marks (name_slot name) false ≡ true

-- what is marked is so from then on
abbrev pub KeepsMarks : List Bool → List Bool → Type 0
KeepsMarks old new = (i : ℕ) → slice_index_or old i false ≡ true → slice_index_or new i false ≡ true

-- a number is that of a text whose slot is marked
abbrev pub HasMark : List (List ℕ) → List Bool → Option ℕ → Type 0
HasMark texts marks number = IfSome number (λ n. (t : List ℕ) × (slice_get texts n ≡ Some t) × IsMarked marks t)

-- a number that has no symbol has this one
abbrev pub with_first : List (Option ℕ) → ℕ → ℕ → List (Option ℕ)
with_first first number symbol = slice_set first number (option_or (slice_index_or first number None) (Some symbol))

-- for each text with a number and a marked slot the first symbol of a function that has this name
abbrev pub AreFirst : Elf → List (List ℕ) → List Bool → List (Option ℕ) → Type 0
AreFirst o texts marks first = (n : ℕ) (text : List ℕ) → slice_get texts n ≡ Some text → IsMarked marks text → slice_index_or first n None ≡ first_named o text

-- so it is of the numbers that are there
abbrev pub KnowsParents : Elf → List (List ℕ) → List (Option ℕ) → List (Option ℕ) → Type 0
KnowsParents o texts stems first = (i n : ℕ) → slice_index_or stems i None ≡ Some n → (text : List ℕ) → slice_get texts n ≡ Some text → slice_index_or first n None ≡ first_named o text

-- by the number of a P, where there is one, the first symbol of a function with this name is found
abbrev pub IsFound : Elf → List (Option ℕ) → Option ℕ → Option (List ℕ) → Type 0
IsFound o first number text = MatchOption number (text ≡ None) (λ n. (t : List ℕ) × (text ≡ Some t) × (slice_index_or first n None ≡ first_named o t))

-- so it is for each of these functions, by the number of the P of its name
pub record AreFound (o : Elf) (fs : List Function) (stems first : List (Option ℕ)) : Type 0 where
  pub len : length stems ≡ length fs
  pub each : (i : ℕ) → i < length fs → IsFound o first (slice_index_or stems i None) (part_name (symbol_at o (function fs i).sym).name)
