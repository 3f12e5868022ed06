-- The parts of a fault's text.
use Rattle.std.specs.Prelude.{ℕ, List, ◌++◌, Option, Some, None}
use Rattle.std.specs.Fmt.{decimal}
use Rattle.elf_objects.specs.declared.fault_text.Part.{Part}

-- words, and the number behind them where there is one
abbrev pub part_text : List ℕ → Option ℕ → List ℕ
part_text words None = words
part_text words (Some number) = words ++ decimal number

-- both parts
abbrev pub parts_text : Part × Part → List ℕ
parts_text parts = part_text parts.0.0.now parts.0.1 ++ part_text parts.1.0.now parts.1.1
