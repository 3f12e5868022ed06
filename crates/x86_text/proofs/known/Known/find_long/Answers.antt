use Rattle.std.proofs.Common.{arith}
use Rattle.x86_text.specs.declared.known.LongSpelling.{LongSpelling}
use Rattle.x86_text.proofs.KnownLemmas.{long_looked_up, stands_long}
use Rattle.x86_text.proofs.known.Known.find_long.Goals as goal

pub returns-then-spelling-len : goal.returns-then-spelling-len
returns-then-spelling-len c = λ kinds known.
    let s : LongSpelling = c.in_ok-spelling.field-0.now in
    stands_long c.args.self.now.map kinds c.args.bytes.now c.in_ok-first.first c.in_ok-back.back c.likely_len-len.result c.in_ok-back.ensures.0 c.in_ok-back.ensures.1 c.in_ok-first.ensures c.in_ok-back.ensures.2 s (omega (arith, c.if-spelling-first.true)) (omega (arith, c.if-spelling-back.true)) (omega (arith, c.if-spelling-len.true))
    (long_looked_up c.args.self.now.map kinds c.args.self.now.long.items c.deref.result.now c.long_place_of.result s c.deref.ensures.value known.long c.in_ok-spelling.ensures.lookup.3.0 c.in_ok-spelling.ensures.lookup.1)
