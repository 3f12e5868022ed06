-- Which rows the format knows (Linux 6.6, `orc_types.h`).
use Rattle.std.specs.Prelude.{◌≤◌}
use Rattle.ot_base.specs.declared.row.Row.{Row}
use Rattle.ot_base.specs.declared.codes.TheConstants.{REG_SP_INDIRECT, KIND_REGS_PARTIAL}

-- the row's registers and its kind are among those that the format numbers, each from 0 on
pub record HasKnownFields (row : Row) : Type 0 where
  pub sp_reg : row.sp_reg ≤ REG_SP_INDIRECT
  pub bp_reg : row.bp_reg ≤ REG_SP_INDIRECT
  pub kind : row.kind ≤ KIND_REGS_PARTIAL
