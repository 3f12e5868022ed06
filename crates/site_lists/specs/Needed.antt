-- The text sections for which a section symbol has to be inserted, so that site lists can name their places.
use Rattle.std.specs.Prelude.{ℕ, ◌==◌, ◌&&◌, ◌||◌, Bool, List, filter, length, is_none}
use Rattle.std.specs.List.{list_any, range_with_len}
use Rattle.ot_base.specs.declared.place.Place.{Place}
use Rattle.elf_objects.specs.Contents.{section_symbol_of}
use Rattle.elf_objects.specs.Elf.{Elf}
use Rattle.site_lists.specs.Listed.{Listed}

-- a list has a place in a section
abbrev pub has_place : List Place → ℕ → Bool
has_place places sec = list_any (λ place. place.sec == sec) places

-- one of the lists has one
abbrev pub is_listed : Listed → ℕ → Bool
is_listed lists sec = has_place lists.retpoline sec || has_place lists.returns sec || has_place lists.calls sec

-- the sections that a list names and that have no section symbol, ascending
unfoldable pub needed_symbols : Elf → Listed → List ℕ
needed_symbols o lists = filter (λ sec. is_listed lists sec && is_none (section_symbol_of o sec)) (range_with_len 0 (length o.sections))
