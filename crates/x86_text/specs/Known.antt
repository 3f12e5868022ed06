-- Spellings that were read before.
use Rattle.std.specs.Prelude.{◌≡◌, Bool, true, false, ℕ, ◌-◌, ◌<◌, ◌++◌, List, Some, take, drop, slice_get, All}
use Rattle.std.specs.Int.{w64, to_le_bytes}
use Rattle.operation_defs.specs.declared.insn.Insn.{Insn}
use Rattle.operation_defs.specs.declared.op.Op.{Op}
use Rattle.operation_defs.specs.declared.op.Op.TheVariants.{Ud2}
use Rattle.x86_map.specs.declared.map.Map.{Map}
use Rattle.x86_map.specs.declared.map.Map.TheVariants.{Base, Whole}
use Rattle.x86_decode.specs.Decoding.{StandsInFront}
use Rattle.x86_text.specs.Code.{may_use_table}
use Rattle.x86_text.specs.declared.known.Found.{Found}
use Rattle.x86_text.specs.declared.known.Known.{Known}
use Rattle.x86_text.specs.declared.known.LongSpelling.{LongSpelling}
use Rattle.x86_text.specs.declared.known.Spelling.{Spelling}

-- the bytes of which so many fill the upper end of this number: the first of them stands lowest
abbrev pub upper_bytes : ℕ → ℕ → List ℕ
upper_bytes number len = drop (8 - len) (to_le_bytes w64 number)

-- so many bytes, of which these numbers have the first eight and the last eight
abbrev pub long_bytes : ℕ → ℕ → ℕ → List ℕ
long_bytes front back len = take (len - 8) (to_le_bytes w64 front) ++ to_le_bytes w64 back

-- an instruction with this operation is told by its own bytes; a ud2 of the whole map is told by those behind it too, with which it
-- may begin an emulated instruction
abbrev pub is_told_alone : Map → Op → Bool
is_told_alone Base op = true
is_told_alone Whole Ud2 = false
is_told_alone Whole op = true

-- these bytes, so many, are the instruction with this number among these, whatever stands behind them
pub record SpellsKind (map : Map) (kinds : List Insn) (bytes : List ℕ) (len number : ℕ) : Type 0 where
  pub insn : Insn
  pub at : slice_get kinds number ≡ Some insn
  pub long : insn.len ≡ len
  pub stands : (behind : List ℕ) → StandsInFront map (bytes ++ behind) insn

-- the same, and whether it may jump by a table
pub record SpellsShort (map : Map) (kinds : List Insn) (bytes : List ℕ) (len number : ℕ) (may_jump : Bool) : Type 0 where
  pub spelled : SpellsKind map kinds bytes len number
  pub jumps : may_use_table spelled.insn.op ≡ may_jump

-- the instruction with this number among these stands in front of these bytes
pub record IsKindInFront (map : Map) (kinds : List Insn) (bytes : List ℕ) (number : ℕ) : Type 0 where
  pub insn : Insn
  pub at : slice_get kinds number ≡ Some insn
  pub stands : StandsInFront map bytes insn

-- this is found of an instruction among these, which stands in front of these bytes
pub record IsFoundInFront (map : Map) (kinds : List Insn) (bytes : List ℕ) (found : Found) : Type 0 where
  pub kind : IsKindInFront map kinds bytes found.number
  pub long : kind.insn.len ≡ found.len
  pub jumps : may_use_table kind.insn.op ≡ found.may_jump

-- its bytes are its instruction; without a length it is none yet
abbrev pub IsSpelling : Map → List Insn → Spelling → Type 0
IsSpelling map kinds s = 0 < s.len → SpellsShort map kinds (upper_bytes s.front s.len) s.len s.number s.may_jump

abbrev pub IsLongSpelling : Map → List Insn → LongSpelling → Type 0
IsLongSpelling map kinds s = 0 < s.len → SpellsKind map kinds (long_bytes s.front s.back s.len) s.len s.number

-- each of those that are known is one
pub record AreSpellings (kinds : List Insn) (known : Known) : Type 0 where
  pub short : All (IsSpelling known.map kinds) known.spellings.items
  pub long : All (IsLongSpelling known.map kinds) known.long.items
