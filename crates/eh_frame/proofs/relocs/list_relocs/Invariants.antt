use Rattle.std.proofs.Common.{◌≡◌, take}
use Rattle.elf_objects.specs.Contents.{relocs_at}
use Rattle.eh_frame.proofs.relocs.list_relocs.Given as goal

abbrev pub invariant-loop-i : goal.invariant-loop-i
invariant-loop-i l = l.relocs.items ≡ take l.i (relocs_at l.object l.section)
