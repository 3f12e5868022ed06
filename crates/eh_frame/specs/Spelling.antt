-- The spellings of the call frame instructions of the profile (DWARF 4, section 7.23). The code alignment factor is 1, the data
-- alignment factor is -1.
use Rattle.std.specs.Prelude.{ℕ, ◌+◌, ◌<◌, ◌^◌, Bool, true, false, List, [], ◌∷◌, ◌++◌, ℤ, pos, negsuc, neg_ℤ}
use Rattle.byteorder.specs.Endian.{little_bytes}
use Rattle.eh_frame.specs.Groups.{IsUleb, IsSleb}
use Rattle.eh_frame.specs.declared.rule.CfaReg.{CfaReg}
use Rattle.eh_frame.specs.declared.rule.CfaReg.TheVariants.{Rsp, Rbp}
use Rattle.eh_frame.specs.declared.instruction.Instruction.{Instruction}
use Rattle.eh_frame.specs.declared.instruction.Instruction.TheVariants.{Nop, AdvanceLoc, DefCfa, SavedReturn, UndefinedReturn, SavedRbp, SameRbp}

-- registers by number (System V psABI, table 3.36)
abbrev pub number_of : CfaReg → ℕ
number_of Rsp = 7
number_of Rbp = 6

-- so many bytes, above or below
abbrev pub offset : Bool → ℕ → ℤ
offset false bytes = pos bytes
offset true bytes = neg_ℤ (pos bytes)

-- An instruction and its bytes. Numbers are spelled the shortest way, and have 32 bits.
pub data Spells : Instruction → List ℕ → Type 0 where
  nop : Spells Nop (0x00 ∷ [])
  advance_loc : (delta : ℕ) → 0 < delta → delta < 64 → Spells (AdvanceLoc delta) ((64 + delta) ∷ [])
  advance_loc1 : (delta : ℕ) → delta < 2 ^ 8 → Spells (AdvanceLoc delta) (0x02 ∷ little_bytes 1 delta)
  advance_loc2 : (delta : ℕ) → delta < 2 ^ 16 → Spells (AdvanceLoc delta) (0x03 ∷ little_bytes 2 delta)
  advance_loc4 : (delta : ℕ) → delta < 2 ^ 32 → Spells (AdvanceLoc delta) (0x04 ∷ little_bytes 4 delta)
  def_cfa : (reg : CfaReg) (n : ℕ) (number : List ℕ) → n < 2 ^ 32 → IsUleb n number → Spells (DefCfa reg (offset false n)) (0x0C ∷ number_of reg ∷ number)
  def_cfa_sf : (reg : CfaReg) (n : ℕ) (number : List ℕ) → n < 2 ^ 31 → IsSleb (pos n) number → Spells (DefCfa reg (offset true n)) (0x12 ∷ number_of reg ∷ number)
  def_cfa_sf_above : (reg : CfaReg) (n : ℕ) (number : List ℕ) → n < 2 ^ 31 → IsSleb (negsuc n) number → Spells (DefCfa reg (offset false (n + 1))) (0x12 ∷ number_of reg ∷ number)
  offset_return : Spells SavedReturn (0x90 ∷ 8 ∷ [])
  undefined_return : Spells UndefinedReturn (0x07 ∷ 16 ∷ [])
  offset_rbp : (n : ℕ) (number : List ℕ) → n < 2 ^ 32 → IsUleb n number → Spells (SavedRbp (offset true n)) (0x86 ∷ number)
  same_value_rbp : Spells SameRbp (0x08 ∷ 6 ∷ [])

-- instructions one behind the other, and their bytes
pub data SpellsAll : List Instruction → List ℕ → Type 0 where
  none : SpellsAll [] []
  next : (i : Instruction) (is : List Instruction) (spelled bytes : List ℕ) → Spells i spelled → SpellsAll is bytes → SpellsAll (i ∷ is) (spelled ++ bytes)
