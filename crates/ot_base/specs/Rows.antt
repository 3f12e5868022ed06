-- Rows of an ORC table that several crates speak of.
use Rattle.std.specs.Prelude.{ℕ, pos, Bool, false, ◌==◌, ◌&&◌}
use Rattle.std.specs.Ordering.{int_eq}
use Rattle.std.specs.Bool.{beq}
use Rattle.ot_base.specs.declared.row.Row.{Row}
use Rattle.ot_base.specs.declared.codes.TheConstants.{REG_UNDEFINED, REG_SP, KIND_UNDEFINED, KIND_CALL}

-- the row that says that nothing is known of the stack
abbrev pub zero_row : Row
zero_row = record { sp_offset = pos 0; bp_offset = pos 0; sp_reg = REG_UNDEFINED; bp_reg = REG_UNDEFINED; kind = KIND_UNDEFINED; signal = false }

-- the row where the top of a call's frame lies this many bytes above rsp, and rbp is the caller's
abbrev pub call_row : ℕ → Row
call_row depth = record { sp_offset = pos depth; bp_offset = pos 0; sp_reg = REG_SP; bp_reg = REG_UNDEFINED; kind = KIND_CALL; signal = false }

-- whether two rows are equal
abbrev pub same_row : Row → Row → Bool
same_row a b =
    int_eq a.sp_offset b.sp_offset && (int_eq a.bp_offset b.bp_offset && ((a.sp_reg == b.sp_reg) && ((a.bp_reg == b.bp_reg) && ((a.kind == b.kind) && beq a.signal b.signal))))
