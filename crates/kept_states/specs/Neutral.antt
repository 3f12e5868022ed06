-- Operations that leave the stack as it is.
use Rattle.std.specs.Prelude.{Bool, true, false}
use Rattle.operation_defs.specs.declared.op.Op.{Op}
use Rattle.operation_defs.specs.declared.op.Op.TheVariants.{Plain, Nop, Endbr, Call, CallInd, Jmp, Jcc, JmpInd, Ud2, Int3, Stac, Clac}

-- whether the operation leaves each state as it is, and isn't a way out that a state has to allow
abbrev pub is_neutral : Op → Bool
is_neutral Plain = true
is_neutral Nop = true
is_neutral Endbr = true
is_neutral (Call rel) = true
is_neutral CallInd = true
is_neutral (Jmp rel wide) = true
is_neutral (Jcc rel wide) = true
is_neutral (JmpInd table) = true
is_neutral Ud2 = true
is_neutral Int3 = true
is_neutral Stac = true
is_neutral Clac = true
is_neutral _ = false
