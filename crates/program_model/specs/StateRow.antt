-- The model's row of a state, as the definitions have it.
use Rattle.ot_base.specs.declared.row.Row.{Row}
use Rattle.program_model.specs.declared.state_row.StateRow.{StateRow}

abbrev pub row_as : StateRow → Row
row_as r = record { sp_offset = r.sp_offset; bp_offset = r.bp_offset; sp_reg = r.sp_reg; bp_reg = r.bp_reg; kind = r.kind; signal = r.signal }
