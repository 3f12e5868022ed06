use Rattle.std.proofs.Common.{◌≡◌, ◌++◌, [], map}
use Rattle.std.specs.List.{range_with_len, flat_map}
use Rattle.special_sections.specs.Reasons.{fault_at}
use Rattle.special_sections.proofs.read.read_entries.Given as goal

abbrev pub invariant-loop-entry : goal.invariant-loop-entry
invariant-loop-entry g l =
    let kind = g.F.Format.kind l.format in
    let o = l.section.object.now in
    (l.into.items ≡ l.initial.into.items ++ map (kind.entry o l.section.sec) (range_with_len 0 l.entry))
    × (flat_map (λ e. fault_at l.section.sec e (kind.why o l.section.sec e)) (range_with_len 0 l.entry) ≡ [])
