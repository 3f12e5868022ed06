-- The bytes of a row (Linux 6.6, `orc_types.h`, `struct orc_entry`).
use Rattle.std.specs.Prelude.{ℕ, ◌+◌, ◌*◌, ◌^◌, List, ◌++◌, if◌then◌else◌, FitsSigned}
use Rattle.std.specs.Int.{cast_unsigned, w16}
use Rattle.byteorder.specs.Endian.{little_bytes}
use Rattle.ot_base.specs.declared.row.Row.{Row}
use Rattle.table_defs.specs.Fields.{HasKnownFields}

-- the last two bytes: sp_reg in bits 0 to 3, bp_reg in 4 to 7, the kind in 8 to 10, the signal bit 11
abbrev pub packed_fields : Row → ℕ
packed_fields row = row.sp_reg + row.bp_reg * 2 ^ 4 + row.kind * 2 ^ 8 + (if row.signal then 2 ^ 11 else 0)

-- six bytes: two offsets in two's complement, and the packed fields, each low byte first
unfoldable pub bytes_of_row : Row → List ℕ
bytes_of_row row = little_bytes 2 (cast_unsigned w16 row.sp_offset) ++ (little_bytes 2 (cast_unsigned w16 row.bp_offset) ++ little_bytes 2 (packed_fields row))

-- what six bytes can hold: known registers and kinds, and offsets of 16 bits
pub record IsRow (row : Row) : Type 0 where
  pub fields : HasKnownFields row
  pub sp_offset : FitsSigned w16 row.sp_offset
  pub bp_offset : FitsSigned w16 row.bp_offset
