use Rattle.std.proofs.Common.{arith}
use Rattle.symbols_relocs.proofs.Spans.{still_other}
use Rattle.symbols_relocs.proofs.span.find_span.Goals as goal

pub returns-in-None-clause-holder : goal.returns-in-None-clause-holder
returns-in-None-clause-holder c = λ off from to k inside.
    still_other c.args.functions.now c.count_near-count.result c.args.place off k c.requires.rising c.count_near-count.ensures.to (c.last_before-last.ensures.to off from to) from inside (c.in-None.ensures k inside)

pub returns-in-Some-clause-holder : goal.returns-in-Some-clause-holder
returns-in-Some-clause-holder c = λ off from to. record {
  inside = c.in-Some.ensures.0;
  holds = c.last_inside.ensures.to off from (omega (arith, c.min.ensures, to));
  last = λ k behind inside.
      still_other c.args.functions.now c.count_near-count.result c.args.place off k c.requires.rising c.count_near-count.ensures.to (c.last_before-last.ensures.to off from (omega (arith, c.min.ensures, to))) from inside (c.in-Some.ensures.2 k behind inside);
}
