-- The words of operations, each without a blank; a number follows one behind a blank.
use Rattle.std.specs.Prelude.{ℕ, List, ◌++◌, codes}
use Rattle.std.specs.Fmt.{signed_decimal}
use Rattle.operation_defs.specs.declared.op.Op.{Op}
use Rattle.operation_defs.specs.declared.op.Op.TheVariants.{Plain, Nop, Endbr, Push, PushBp, Pop, PopBp, Popf, AddSp, AndSp, LeaSpBp, LeaBpSp, LeaBpRoom, SubSp, SpReg, StoreBp, LoadBp, Leave, SpOther, BpOther, Call, Hop, CallInd, Jmp, Jcc, JmpInd, Ret, RetImm, Iret, IretNext, Switch, Ud2, Int3, Stac, Clac}

-- an operation; where its control goes is told besides
unfoldable pub operation_words : Op → List ℕ
operation_words Plain = codes "plain"
operation_words Nop = codes "nop"
operation_words Endbr = codes "endbr"
operation_words Push = codes "push"
operation_words PushBp = codes "push-bp"
operation_words Pop = codes "pop"
operation_words PopBp = codes "pop-bp"
operation_words Popf = codes "popf"
operation_words (AddSp by) = codes "add-sp " ++ signed_decimal by
operation_words (AndSp mask) = codes "and-sp " ++ signed_decimal mask
operation_words (LeaSpBp by) = codes "lea-sp-bp " ++ signed_decimal by
operation_words (LeaBpSp by) = codes "lea-bp-sp " ++ signed_decimal by
operation_words (LeaBpRoom by) = codes "lea-bp-room " ++ signed_decimal by
operation_words SubSp = codes "sub-sp"
operation_words SpReg = codes "sp-reg"
operation_words (StoreBp at) = codes "store-bp " ++ signed_decimal at
operation_words (LoadBp at) = codes "load-bp " ++ signed_decimal at
operation_words Leave = codes "leave"
operation_words SpOther = codes "sp-other"
operation_words BpOther = codes "bp-other"
operation_words (Call rel) = codes "call"
operation_words Hop = codes "hop"
operation_words CallInd = codes "call-indirect"
operation_words (Jmp rel wide) = codes "jump"
operation_words (Jcc rel wide) = codes "jump-if"
operation_words (JmpInd table) = codes "jump-indirect"
operation_words Ret = codes "return"
operation_words RetImm = codes "return-and-drop"
operation_words Iret = codes "iret"
operation_words IretNext = codes "iret-next"
operation_words Switch = codes "switch"
operation_words Ud2 = codes "ud2"
operation_words Int3 = codes "int3"
operation_words Stac = codes "stac"
operation_words Clac = codes "clac"
