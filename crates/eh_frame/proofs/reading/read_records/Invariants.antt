use Rattle.std.proofs.Common.{◌-◌, ◌≤◌, length}
use Rattle.elf_objects.specs.Contents.{relocs_at}
use Rattle.eh_frame.proofs.RecordsRead.{RecordsRead}
use Rattle.eh_frame.proofs.reading.read_records.Given as goal

abbrev pub invariant-records : goal.invariant-records
invariant-records l = record {
  read : RecordsRead l.object (relocs_at l.object l.section) l.relocs l.body l.at l.next l.least l.rules.items;
  few : l.next ≤ length l.relocs;
}

abbrev pub decreases-records : goal.decreases-records
decreases-records l = length l.body - l.at
