-- How the warnings of an object are told.
use Rattle.std.specs.Prelude.{ℕ, List}
use Rattle.std.specs.List.{flat_map}
use Rattle.ot_base.specs.WarningText.{warning_line}
use Rattle.ot_base.specs.declared.warning.Warning.{Warning}
use Rattle.elf_objects.specs.Contents.{section_at, symbol_at}
use Rattle.elf_objects.specs.Elf.{Elf}

-- the line of a warning, with the names that the object gives its sections and symbols
abbrev pub line_of : Elf → Warning → List ℕ
line_of o = warning_line (λ sec. (section_at o sec).name) (λ sym. (symbol_at o sym).name)

-- the text of some warnings: a line for each, in their order
abbrev pub warnings_text : Elf → List Warning → List ℕ
warnings_text o warnings = flat_map (line_of o) warnings
