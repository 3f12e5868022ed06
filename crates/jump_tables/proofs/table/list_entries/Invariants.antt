use Rattle.std.proofs.Common.{length}
use Rattle.elf_objects.specs.Contents.{relocs_at}
use Rattle.jump_tables.proofs.Entering.{LeavesRest}
use Rattle.jump_tables.proofs.table.list_entries.Given as goal

abbrev pub invariant-loop-i : goal.invariant-loop-i
invariant-loop-i l = LeavesRest l.code.index.now.elf l.code.texts.now l.code.sites.now.entries l.table l.owner l.list.items l.i (length (relocs_at l.code.index.now.elf l.table.sec))
