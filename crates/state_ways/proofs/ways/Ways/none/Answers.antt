-- No point names a turn.
use Rattle.std.proofs.Common.{◌≡◌, [], replicate, arith}
use Rattle.state_ways.specs.Turns.{nowhere}
use Rattle.state_ways.proofs.Chains.{none_named, none_noted}
use Rattle.state_ways.proofs.ways.Ways.none.Goals as goal

pub invariant_of-result : goal.invariant_of-result
invariant_of-result c =
    let last : c.in_ok-none_named.field-0.items ≡ replicate c.args.points nowhere = c.in_ok-none_named.ensures in
    let turns : c.new.result.items ≡ [] = c.new.ensures.items in
    rw (last, turns) (none_named c.args.points (omega arith))

pub returns : goal.returns
returns c =
    let last : c.in_ok-none_named.field-0.items ≡ replicate c.args.points nowhere = c.in_ok-none_named.ensures in
    let turns : c.new.result.items ≡ [] = c.new.ensures.items in
    rw (last, turns) (none_noted c.args.points)
