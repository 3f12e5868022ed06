-- The text sections for which a section symbol has to be inserted, so that rows can name their places.
use Rattle.std.specs.Prelude.{ℕ, ◌==◌, ◌&&◌, Bool, false, List, filter, length, is_none, slice_index_or}
use Rattle.std.specs.List.{list_any, range_with_len}
use Rattle.ot_base.specs.declared.row.PlacedRow.{PlacedRow}
use Rattle.elf_objects.specs.Contents.{section_symbol_of}
use Rattle.elf_objects.specs.Elf.{Elf}

-- a section has a row
abbrev pub has_row : List PlacedRow → ℕ → Bool
has_row rows sec = list_any (λ placed. placed.place.sec == sec) rows

-- the sections that have rows and no section symbol, ascending
unfoldable pub needed_symbols : Elf → List PlacedRow → List ℕ
needed_symbols o rows = filter (λ sec. has_row rows sec && is_none (section_symbol_of o sec)) (range_with_len 0 (length o.sections))

-- the marked sections that have no section symbol, ascending
unfoldable pub unnamed : Elf → List Bool → List ℕ
unnamed o marks = filter (λ sec. slice_index_or marks sec false && is_none (section_symbol_of o sec)) (range_with_len 0 (length o.sections))
