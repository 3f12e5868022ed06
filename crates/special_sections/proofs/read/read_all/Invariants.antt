use Rattle.std.proofs.Common.{◌≡◌, [], filter, bytes_eq}
use Rattle.std.specs.List.{range_with_len, flat_map}
use Rattle.elf_objects.specs.Contents.{section_at}
use Rattle.special_sections.specs.Kinds.{section_entries, section_faults}
use Rattle.special_sections.proofs.read.read_all.Given as goal

abbrev pub invariant-loop-sec : goal.invariant-loop-sec
invariant-loop-sec g l =
    let kind = g.F.Format.kind l.format in
    let o = l.object in
    let named = filter (λ sec. bytes_eq (section_at o sec).name kind.name) (range_with_len 0 l.sec) in
    (l.list.items ≡ flat_map (section_entries kind o) named) × (flat_map (section_faults kind o) named ≡ [])
