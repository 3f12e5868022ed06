-- The edges so far lead to safe functions.
use Rattle.std.proofs.Common.{take, []}
use Rattle.std.specs.Prelude.{All}
use Rattle.program_model.specs.Program.{program_of}
use Rattle.machine_model.specs.Allowed.{allowances_of}
use Rattle.machine_model.specs.Promise.{IsSafeSibling}
use Rattle.machine_model.proofs.promises.are_safe_siblings.Given as goal

abbrev pub invariant-loop-edge : goal.invariant-loop-edge
invariant-loop-edge l = All (IsSafeSibling (program_of l.p []) (allowances_of l.allowed)) (take l.edge-index l.edges)
