use Rattle.std.proofs.Common.{◌≡◌, ◌≤◌, take}
use Rattle.command_base.proofs.ObjectLemmas.{ReadSoFar}
use Rattle.command_base.proofs.merged_objects.parts_of.Given as goal

abbrev pub invariant-loop-number : goal.invariant-loop-number
invariant-loop-number g l = record {
  so_far : ReadSoFar (g.F.Files.content l.initial.files) (take l.number l.file-items) l.parts.items;
  kept : g.F.Files.content l.files ≡ g.F.Files.content l.initial.files;
  later : g.F.Files.faults l.initial.files ≤ g.F.Files.faults l.files;
}
