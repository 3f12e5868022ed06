use Rattle.std.proofs.Common.{length, ◌-◌}
use Rattle.x86_text.specs.Code.{read_by}
use Rattle.x86_text.proofs.ReadLemmas.{IsKeptTo}
use Rattle.x86_text.proofs.text.Text.read.Given as goal

abbrev pub invariant-loop-off : goal.invariant-loop-off
invariant-loop-off l = IsKeptTo (read_by l.map l.body) l.offsets.items l.table_jumps.items l.initial.insns l.insns l.off

abbrev pub decreases-loop-off : goal.decreases-loop-off
decreases-loop-off l = length l.body - l.off
