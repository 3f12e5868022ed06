use Rattle.std.proofs.Common.{◌≡◌, [], take, drop}
use Rattle.orc_walk.specs.Faults.{first_faulty}
use Rattle.orc_walk.specs.Layout.{IsLaid}
use Rattle.orc_walk.proofs.layout.lay.Given as goal

abbrev pub invariant-loop-i : goal.invariant-loop-i
invariant-loop-i l = record {
  laid : IsLaid (take l.i l.ranges) l.laid;
  rest : first_faulty [] l.ranges ≡ first_faulty (take l.i l.ranges) (drop l.i l.ranges);
}
