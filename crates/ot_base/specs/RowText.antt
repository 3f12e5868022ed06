-- The line of a row of an ORC table.
use Rattle.std.specs.Prelude.{ℕ, ℤ, List, [], ◌∷◌, ◌++◌, codes, if◌then◌else◌}
use Rattle.ot_base.specs.declared.row.Row.{Row}
use Rattle.ot_base.specs.declared.row.PlacedRow.{PlacedRow}
use Rattle.ot_base.specs.declared.codes.TheConstants.{KIND_UNDEFINED, KIND_END_OF_STACK, KIND_CALL, KIND_REGS, KIND_REGS_PARTIAL, REG_UNDEFINED, REG_PREV_SP, REG_DX, REG_DI, REG_BP, REG_SP, REG_R10, REG_R13, REG_BP_INDIRECT, REG_SP_INDIRECT}
use Rattle.ot_base.specs.PlaceText.{place_text, text_at, with_sign}

-- the kinds by number
unfoldable pub kind_name : ℕ → List ℕ
kind_name = text_at (
    (KIND_UNDEFINED, codes "undefined")
    ∷ (KIND_END_OF_STACK, codes "end")
    ∷ (KIND_CALL, codes "call")
    ∷ (KIND_REGS, codes "regs")
    ∷ (KIND_REGS_PARTIAL, codes "partial")
    ∷ [])

-- the registers by number
unfoldable pub register_name : ℕ → List ℕ
register_name = text_at (
    (REG_UNDEFINED, codes "undef")
    ∷ (REG_PREV_SP, codes "prev")
    ∷ (REG_DX, codes "dx")
    ∷ (REG_DI, codes "di")
    ∷ (REG_BP, codes "bp")
    ∷ (REG_SP, codes "sp")
    ∷ (REG_R10, codes "r10")
    ∷ (REG_R13, codes "r13")
    ∷ (REG_BP_INDIRECT, codes "(bp)")
    ∷ (REG_SP_INDIRECT, codes "(sp)")
    ∷ [])

-- a register and the offset from it
abbrev pub base_text : ℕ → ℤ → List ℕ
base_text register offset = register_name register ++ with_sign offset

-- what a row says
unfoldable pub row_words : Row → List ℕ
row_words row =
    kind_name row.kind
    ++ codes " cfa " ++ base_text row.sp_reg row.sp_offset
    ++ codes " bp " ++ base_text row.bp_reg row.bp_offset
    ++ (if row.signal then codes " signal" else [])

-- the line of a row in the section with this name
unfoldable pub row_line : List ℕ → PlacedRow → List ℕ
row_line section placed = place_text section placed.place.off ++ codes ": " ++ row_words placed.row ++ codes "\n"
