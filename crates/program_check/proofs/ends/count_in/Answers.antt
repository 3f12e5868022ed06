-- The first row that isn't in the section ends those in front.
use Rattle.std.proofs.Common.{pos, false, length, sym, arith}
use Rattle.ot_base.specs.declared.row.PlacedRow.{PlacedRow}
use Rattle.program_check.proofs.Ended.{front_length}
use Rattle.program_check.proofs.ends.count_in.Goals as goal

none : PlacedRow
none = record { place = record { sec = 0; off = 0 }; row = record { sp_offset = pos 0; bp_offset = pos 0; sp_reg = 0; bp_reg = 0; kind = 0; signal = false } }

pub returns-then-rows-i-clause-front : goal.returns-then-rows-i-clause-front
unfolding none
returns-then-rows-i-clause-front c = sym (front_length c.args.sec c.loop-i.i none c.args.rows.now (omega (arith, c.loop-i-test.true)) (λ k l. c.loop-i.invariant k none l) (λ l. c.if-rows-i.true))

pub returns-clause-front : goal.returns-clause-front
returns-clause-front c = sym (front_length c.args.sec (length c.args.rows.now) none c.args.rows.now (omega arith) (λ k l. c.loop-i.invariant k none (omega (arith, c.loop-i-test.false))) (λ l. absurd (omega (arith, l))))
