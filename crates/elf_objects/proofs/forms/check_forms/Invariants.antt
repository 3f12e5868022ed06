use Rattle.elf_objects.specs.Below.{AllBelow}
use Rattle.elf_objects.specs.Found.{AreTables}
use Rattle.elf_objects.specs.Sections.{HasForm}
use Rattle.elf_objects.proofs.forms.check_forms.Given as goal

abbrev pub invariant-loop-i : goal.invariant-loop-i
invariant-loop-i l = record {
  forms : AllBelow (HasForm l.headers.bytes.now) l.i;
  tables : AreTables l.headers.bytes.now l.i l.tables;
}
