use Rattle.std.proofs.Common.{◌≡◌, ◌+◌, ℕ, Some, false}
use Rattle.std.specs.Prelude.{slice_get, vec_capacity, vec_len}
use Rattle.control_flow.specs.declared.transfers.TheConstants.{USUAL}
use Rattle.flow_defs.specs.Arrival.{is_dead_end}
use Rattle.flow_defs.specs.Code.{point_at}
use Rattle.return_search.specs.Flagged.{AreFlagged}
use Rattle.control_flow.specs.Listed.{count_of}
use Rattle.control_flow.specs.Named.{AreLookedUp}
use Rattle.control_flow.proofs.Going.{AreOutgoing}
use Rattle.control_flow.proofs.outgoing.list_outgoing.Given as goal

abbrev pub invariant-loop-n : goal.invariant-loop-n
invariant-loop-n l = AreOutgoing l.points l.lists l.starts.items l.gathered.edges.items l.gathered.jumps l.exits.items l.gathered.transfers.items l.numbers.items l.n × (slice_get l.gathered.transfers.items 0 ≡ Some USUAL) × AreLookedUp l.points.elf l.lists l.gathered.names.items × (vec_len l.starts ≡ l.n + 1) × (vec_capacity l.starts ≡ l.count + 1) × (vec_len l.exits ≡ l.n) × (vec_capacity l.exits ≡ l.count) × (vec_len l.numbers ≡ l.n) × (vec_capacity l.numbers ≡ l.count) × AreFlagged (λ (q : ℕ). is_dead_end l.points (point_at l.points q)) false l.gathered.dead_ends.items (count_of l.points) l.n
