-- What decoding gives, and what a program makes of it.
use Rattle.std.specs.Prelude.{Bool, true, false, ◌&&◌, if◌then◌else◌}
use Rattle.operation_defs.specs.declared.op.Op.{Op}
use Rattle.operation_defs.specs.declared.op.Op.TheVariants.{LeaBpSp, LeaBpRoom, SpOther, BpOther, Call, Hop, Jmp, Iret, IretNext, Switch}

-- Whether decoding may give an operation. Three come from a program alone.
abbrev pub is_decoded : Op → Bool
is_decoded Hop = false
is_decoded (LeaBpRoom by) = false
is_decoded IretNext = false
is_decoded _ = true

-- What an object says around an instruction. The owner of code is its function, of a part (`f.cold`) its parent; the points
-- after an instruction are those that follow it, whatever it does.
pub record Around : Type 0 where
  -- its place is listed as that of a call within a function (`.discard.intra_function_calls`)
  pub intra_call : Bool
  -- it has an owner, there are points after it, and all of them have that owner
  pub within : Bool
  -- at each point after it a hint tells a call frame, or restores what a SAVE marked (CALL, FUNC or RESTORE)
  pub hinted : Bool
  -- it has an owner, one of whose points, of any variant, is decoded as SubSp or SpReg
  pub makes_room : Bool
  -- its target is the place of a returning name, whose code returns for its caller
  pub returning : Bool
  -- it is in code that switches tasks, and loads rsp from memory: a wide MOV (8B with REX.W) without a legacy prefix
  pub loads_stack : Bool

-- What a program makes of a decoded operation.
abbrev pub made : Around → Op → Op
-- 1. a call of code that returns for its caller is a jump there; any other within a function is a push and a jump
made around (Call rel) = if around.returning then Jmp rel true else if around.intra_call then Hop else Call rel
-- 2. in a function that makes room rbp is set as the base over room
made around (LeaBpSp by) = if around.makes_room then LeaBpRoom by else LeaBpSp by
-- 3. an IRET with its function behind it goes on behind itself
made around Iret = if around.within then IretNext else Iret
-- 4. a way out by the system with its function behind it, where hints tell the stack again, comes back there
made around Switch = if around.within && around.hinted then SpOther else Switch
-- 5. where tasks are switched, rsp that is loaded is that of this task, as it left it; only rbp is another
made around SpOther = if around.loads_stack then BpOther else SpOther
-- 6. all else is what it is decoded as
made around op = op
