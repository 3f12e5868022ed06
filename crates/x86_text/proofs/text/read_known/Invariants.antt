use Rattle.std.proofs.Common.{◌-◌, ◌<◌, ◌≤◌, length}
use Rattle.x86_text.specs.Added.{AddsCode}
use Rattle.x86_text.specs.Code.{read_by, IsBoundary}
use Rattle.x86_text.proofs.text.read_known.Given as goal

abbrev pub invariant-loop-off : goal.invariant-loop-off
invariant-loop-off l =
    (l.from ≤ l.off)
    × ((l.off < length l.body → IsBoundary (read_by l.map l.body) l.off)
    × AddsCode (read_by l.map l.body) l.from l.off l.initial.offsets.items l.offsets.items l.initial.jumps.items l.jumps.items l.initial.insns l.insns)

abbrev pub decreases-loop-off : goal.decreases-loop-off
decreases-loop-off l = length l.body - l.off
