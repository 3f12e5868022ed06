-- What a line of an image says.
use Rattle.std.specs.Prelude.{ℕ, ◌==◌, List, length, Option, Some, None, Result, Ok, Err, codes, if◌then◌else◌}
use Rattle.std.specs.Option.{ok_or}
use Rattle.std.specs.Str.{bytes_eq}
use Rattle.ot_base.specs.NamesFile.{says_nothing}
use Rattle.table_defs.specs.declared.frame.Regs.{Regs}
use Rattle.orc_walk.specs.Memory.{Piece}
use Rattle.orc_walk.specs.declared.image_fault.ImageWhy.{ImageWhy}
use Rattle.orc_walk.specs.declared.image_fault.ImageWhy.TheVariants.{Word, Number}
use Rattle.orc_walk.specs.Lines.{words, word}
use Rattle.orc_walk.specs.Numbers.{hexadecimal, decimal, bytes}

-- what a line says: nothing, the registers, where a section lies, or bytes of memory
pub data Said : Type 0 where
  nothing : Said
  registers : Regs → Said
  place : ℕ → ℕ → Said
  memory : Piece → Said

infixl 10 ◌>>=◌
-- the next step, where the one before gave something
abbrev pub ◌>>=◌ : {A B : Type 0} → Option A → (A → Option B) → Option B
(Some x) >>= next = next x
None >>= next = None

-- `regs IP SP BP`
abbrev pub registers_said : List (List ℕ) → Option Said
registers_said words = if length words == 4 then (do
  ip ← hexadecimal (word 1 words)
  sp ← hexadecimal (word 2 words)
  bp ← hexadecimal (word 3 words)
  Some (registers (record { ip = ip; sp = sp; bp = bp }))) else None

-- `place N BASE`
abbrev pub place_said : List (List ℕ) → Option Said
place_said words = if length words == 3 then (do
  section ← decimal (word 1 words)
  base ← hexadecimal (word 2 words)
  Some (place section base)) else None

-- `mem ADDR BYTES`
abbrev pub memory_said : List (List ℕ) → Option Said
memory_said words = if length words == 3 then (do
  address ← hexadecimal (word 1 words)
  written ← bytes (word 2 words)
  Some (memory (record { base = address; bytes = written }))) else None

-- what a line with these words says, by its first word
unfoldable pub words_said : List (List ℕ) → Result Said ImageWhy
words_said words =
    if bytes_eq (word 0 words) (codes "regs") then ok_or (registers_said words) Number
    else (if bytes_eq (word 0 words) (codes "place") then ok_or (place_said words) Number
    else (if bytes_eq (word 0 words) (codes "mem") then ok_or (memory_said words) Number
    else Err Word))

-- What a line says. An empty line and one that begins with `#` say nothing.
unfoldable pub said : List ℕ → Result Said ImageWhy
said line = if says_nothing line then Ok nothing else words_said (words line)
