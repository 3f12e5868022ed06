use Rattle.std.proofs.Common.{◌≡◌}
use Rattle.std.specs.Prelude.{vec_capacity, vec_len}
use Rattle.point_arrivals.specs.Kinds.{AreKinds}
use Rattle.point_arrivals.specs.Seen.{IsSeen}
use Rattle.point_arrivals.proofs.kinds.list_before.Given as goal

abbrev pub invariant-loop-n : goal.invariant-loop-n
invariant-loop-n l = AreKinds l.lists l.kinds.items l.n × (vec_len l.kinds ≡ l.n) × (vec_capacity l.kinds ≡ vec_capacity l.fn.kinds) × IsSeen l.lists l.n l.point
