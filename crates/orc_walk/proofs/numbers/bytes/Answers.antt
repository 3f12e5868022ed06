use Rattle.std.proofs.Common.{sym}
use Rattle.orc_walk.proofs.NumberLemmas.{written_bytes}
use Rattle.orc_walk.proofs.numbers.bytes.Goals as goal

pub returns-then-are_hexadecimal_digits-clause-not_empty : goal.returns-then-are_hexadecimal_digits-clause-not_empty
returns-then-are_hexadecimal_digits-clause-not_empty c = written_bytes c.args.word.now c.decoded.result (sym c.if-not-is_empty.ensures) c.decoded.ensures
