-- No point so far is of a function of this name.
use Rattle.std.proofs.Common.{◌≡◌, ℕ, ◌<◌, false}
use Rattle.std.specs.Prelude.{Some}
use Rattle.machine_defs.specs.Program.{Program}
use Rattle.program_graph.specs.Tells.{Tells}
use Rattle.code_listing.specs.Listing.{is_listed}
use Rattle.code_commands.proofs.show_code.has_function.Given as goal

abbrev pub invariant-loop-n : goal.invariant-loop-n
invariant-loop-n l = (p : Program) → Tells p l.graph.parts → (q : ℕ) → q < l.n → is_listed l.object (Some l.name) (p.function q) ≡ false
