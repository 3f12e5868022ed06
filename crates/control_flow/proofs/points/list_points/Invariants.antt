use Rattle.std.proofs.Common.{◌≡◌, length}
use Rattle.std.specs.Prelude.{vec_capacity, vec_len}
use Rattle.control_flow.specs.Kinds.{AreUsual}
use Rattle.control_flow.specs.Points.{AreMadeAll}
use Rattle.control_flow.proofs.points.list_points.Given as goal

abbrev pub invariant-loop-n : goal.invariant-loop-n
invariant-loop-n l = AreMadeAll l.points l.lists l.owners.owners l.hints.restores l.returns l.transfers l.shared.kinds.kinds.items l.shared.rares l.made.items l.n × AreUsual l.insns.kinds.now l.shared.kinds.kinds.items l.shared.kinds.stay.items (length l.insns.kinds.now) × (vec_len l.made ≡ l.n) × (vec_capacity l.made ≡ l.count)
