use Rattle.std.proofs.Common.{arith}
use Rattle.x86_text.specs.declared.known.Spelling.{Spelling}
use Rattle.x86_text.proofs.KnownLemmas.{looked_up, stands_known}
use Rattle.x86_text.proofs.known.Known.find.Goals as goal

pub returns-then-spelling-len : goal.returns-then-spelling-len
returns-then-spelling-len c = λ kinds known.
    let s : Spelling = c.in_ok-spelling.field-0.now in
    stands_known c.args.self.now.map kinds c.args.bytes.now c.in_ok-first.first c.in_ok-front.front c.likely_len-len.result c.in_ok-first.ensures c.in_ok-front.ensures.1 c.in_ok-front.ensures.2 s (omega (arith, c.if-spelling-front.true)) (omega (arith, c.if-spelling-len.true)) c.in_ok-front.ensures.0
    (looked_up c.args.self.now.map kinds c.args.self.now.spellings.items c.deref.result.now c.place_of.result s c.deref.ensures.value known.short c.in_ok-spelling.ensures.lookup.3.0 c.in_ok-spelling.ensures.lookup.1)
