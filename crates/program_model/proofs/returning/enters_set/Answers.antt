-- The point is one where control that comes to the entry may stand, and is in the set.
use Rattle.std.proofs.Common.{ℕ, false, sym, ◌∙◌}
use Rattle.std.specs.Prelude.{slice_index_or}
use Rattle.machine_defs.specs.Program.{entry_points}
use Rattle.program_model.specs.Program.{program_of}
use Rattle.program_model.proofs.Edges.{one_of}
use Rattle.program_model.proofs.returning.enters_set.Goals as goal

pub returns-then-enters : goal.returns-then-enters
returns-then-enters c h =
    let set = c.args.set.now in
    one_of (λ (q : ℕ). slice_index_or set q false) (entry_points (program_of c.args.p.now set) c.args.entry) c.loop-q.q
    (c.enters.ensures set c.if-enters.true) (sym c.is_in.ensures ∙ c.if-is_in.true)
