use Rattle.std.proofs.Common.{◌∙◌, sym, ap, arith, rules}
use Rattle.std.proofs.lemmas.List.{take_rest}
use Rattle.x86_decode.specs.Reading.{reading, rex_at}
use Rattle.x86_decode.proofs.Front.{one_more, no_more, at_end}
use Rattle.x86_decode.proofs.reading.read.Goals as goal

pub loop-i-init : goal.loop-i-init
unfolding reading
loop-i-init c = search rules

pub returns-in-None : goal.returns-in-None
returns-in-None c = c.read_rex.ensures ∙ ap (rex_at c.loop-i.p c.loop-i.i) (take_rest c.args.bytes.now c.loop-i.i) ∙ sym (no_more c.loop-i.p c.loop-i.i c.loop-i.i c.args.bytes.now (omega arith) (sym c.in-None.ensures)) ∙ c.loop-i.invariant

pub loop-i-preserved : goal.loop-i-preserved
loop-i-preserved c = sym (one_more c.loop-i.p c.in-Some.more c.loop-i.i c.loop-i.i c.args.bytes.now (omega arith) (sym c.in-Some.ensures)) ∙ c.loop-i.invariant

pub returns : goal.returns
returns c = sym (at_end c.loop-i.p c.loop-i.i c.loop-i.i c.args.bytes.now (omega arith)) ∙ c.loop-i.invariant
