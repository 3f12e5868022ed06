use Rattle.std.proofs.Common.{sym, arith}
use Rattle.control_flow.proofs.SwitchedInsns.{too_short}
use Rattle.control_flow.proofs.switching.loads_rsp.Goals as goal

pub returns-then-bytes-lt3 : goal.returns-then-bytes-lt3
returns-then-bytes-lt3 c = sym (too_short c.args.bytes.now (omega (arith, c.if-bytes-lt3.true)))
