use Rattle.std.proofs.Common.{◌≡◌, ℕ, ◌+◌, ◌-◌, ◌<◌, length, get_or, sym, ap, ◌∙◌, arith, subst}
use Rattle.command_base.proofs.NumberLemmas.{last_stays, not_behind, numbers_more}
use Rattle.command_base.proofs.backtrace_spots.list_spots.Goals as goal

pub push_place-requires-clause-behind : goal.push_place-requires-clause-behind
push_place-requires-clause-behind c d some =
    not_behind c.args.warnings.now c.loop-warning.spots.items c.loop-warning.warning-index _ d c.requires (c.loop-warning.invariant.some some) c.loop-warning-test.true (c.loop-warning.invariant.last _ d some)

pub loop-warning-preserved : goal.loop-warning-preserved
loop-warning-preserved c = record {
  apart = c.in_ok-number.ensures.apart;
  new = λ p states. c.in_ok-number.ensures.new p states (c.loop-warning.invariant.new p states);
  numbers = numbers_more c.args.warnings.now c.loop-warning.spots.items c.push_place.new.spots.items c.loop-warning.numbers.items c.push.new.self.items c.in_ok-number.number c.loop-warning.warning-index _
      c.loop-warning.invariant.numbers c.loop-warning.invariant.len c.loop-warning-test.true c.in_ok-number.ensures.more c.in_ok-number.ensures.stays c.in_ok-number.ensures.last c.in_ok-number.ensures.place c.in_ok-push.ensures.items;
  len = grind (arith, c.in_ok-push.ensures.len, c.loop-warning.invariant.len);
  some = λ h. omega arith;
  last = λ w d some. last_stays c.args.warnings.now c.push_place.new.spots.items c.in_ok-number.number c.loop-warning.warning-index _ w d c.loop-warning-test.true c.in_ok-number.ensures.last c.in_ok-number.ensures.place;
}
