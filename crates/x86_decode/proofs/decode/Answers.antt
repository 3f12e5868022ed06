-- Decoding answers r exactly where what r says is so.
use Rattle.std.proofs.Common.{Ok, Err, subst, sym, arith}
use Rattle.x86_decode.specs.declared.DecodeFault.TheVariants.{Cut, Outside, Long}
use Rattle.x86_decode.specs.Decoding.{Outcome}
use Rattle.x86_decode.proofs.Decided.{bytes_from_each, outcome, decides, lengths}
use Rattle.x86_decode.proofs.OnlyDecoded.{only_decoded}
use Rattle.x86_decode.proofs.decode.Goals as goal

pub returns-clause-ok : goal.returns-clause-ok
returns-clause-ok c = λ insn. decides c.args.map c.args.bytes.now (bytes_from_each c.args.bytes.now (λ k. omega (arith, c.type_inv.bytes k))) c.decode_front.result (Ok insn) c.decode_front.ensures

pub returns-clause-outside : goal.returns-clause-outside
returns-clause-outside c = λ seen. decides c.args.map c.args.bytes.now (bytes_from_each c.args.bytes.now (λ k. omega (arith, c.type_inv.bytes k))) c.decode_front.result (Err (Outside seen)) c.decode_front.ensures

pub returns-clause-cut : goal.returns-clause-cut
returns-clause-cut c = λ have. decides c.args.map c.args.bytes.now (bytes_from_each c.args.bytes.now (λ k. omega (arith, c.type_inv.bytes k))) c.decode_front.result (Err (Cut have)) c.decode_front.ensures

pub returns-clause-long : goal.returns-clause-long
returns-clause-long c = decides c.args.map c.args.bytes.now (bytes_from_each c.args.bytes.now (λ k. omega (arith, c.type_inv.bytes k))) c.decode_front.result (Err Long) c.decode_front.ensures

pub returns-clause-within : goal.returns-clause-within
returns-clause-within c = lengths c.args.map c.args.bytes.now c.decode_front.result
    (subst (Outcome c.args.map c.args.bytes.now) (sym c.decode_front.ensures) (outcome c.args.map c.args.bytes.now (bytes_from_each c.args.bytes.now (λ k. omega (arith, c.type_inv.bytes k)))))

pub returns-clause-only_decoded : goal.returns-clause-only_decoded
returns-clause-only_decoded c = only_decoded c.args.map c.args.bytes.now c.decode_front.result
    (subst (Outcome c.args.map c.args.bytes.now) (sym c.decode_front.ensures) (outcome c.args.map c.args.bytes.now (bytes_from_each c.args.bytes.now (λ k. omega (arith, c.type_inv.bytes k)))))
