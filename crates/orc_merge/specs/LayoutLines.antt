-- What a line of a layout says.
use Rattle.std.specs.Prelude.{ℕ, ◌==◌, ◌&&◌, List, length, Option, Some, None, Result, Ok, Err, codes, if◌then◌else◌}
use Rattle.std.specs.Option.{ok_or}
use Rattle.std.specs.Str.{bytes_eq}
use Rattle.ot_base.specs.NamesFile.{says_nothing, is_name}
use Rattle.orc_walk.specs.Lines.{words, word}
use Rattle.orc_walk.specs.Numbers.{hexadecimal, decimal}
use Rattle.orc_walk.specs.Statements.{◌>>=◌}
use Rattle.orc_merge.specs.declared.faults.LayoutWhy.{LayoutWhy}
use Rattle.orc_merge.specs.declared.faults.LayoutWhy.TheVariants.{Word, Number}

-- what a line says: nothing, the name of a file, or where a section of the last file lies
pub data Said : Type 0 where
  nothing : Said
  file : List ℕ → Said
  place : ℕ → ℕ → Said

-- `file NAME`
abbrev pub file_said : List (List ℕ) → Option Said
file_said words = if length words == 2 && is_name (word 1 words) then Some (file (word 1 words)) else None

-- `place N BASE`
abbrev pub place_said : List (List ℕ) → Option Said
place_said words = if length words == 3 then (do
  section ← decimal (word 1 words)
  base ← hexadecimal (word 2 words)
  Some (place section base)) else None

-- what a line with these words says, by its first word
unfoldable pub words_said : List (List ℕ) → Result Said LayoutWhy
words_said words =
    if bytes_eq (word 0 words) (codes "file") then ok_or (file_said words) Number
    else (if bytes_eq (word 0 words) (codes "place") then ok_or (place_said words) Number
    else Err Word)

-- What a line says. An empty line and one that begins with `#` say nothing.
unfoldable pub said : List ℕ → Result Said LayoutWhy
said line = if says_nothing line then Ok nothing else words_said (words line)
