use Rattle.std.proofs.Common.{◌≡◌, ℕ, ◌+◌, ◌<◌, ◌≤◌, true}
use Rattle.flow_defs.specs.Arrival.{is_short_nop_at}
use Rattle.point_arrivals.proofs.runs.run_from.Given as goal

abbrev pub invariant-loop-k : goal.invariant-loop-k
invariant-loop-k l = ((i : ℕ) → i < l.k → is_short_nop_at l.places l.place.sec (l.place.off + i) ≡ true) × (l.place.off + l.k ≤ 16777217)
