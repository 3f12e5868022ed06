use Rattle.elf_objects.specs.Below.{AllBelow}
use Rattle.elf_objects.specs.Found.{AreRelas}
use Rattle.elf_objects.specs.Sections.{HasLinks}
use Rattle.elf_objects.proofs.links.check_links.Given as goal

abbrev pub invariant-loop-i : goal.invariant-loop-i
invariant-loop-i l = record {
  links : AllBelow (HasLinks l.symbols.headers.bytes.now) l.i;
  relas : AreRelas l.symbols.headers.bytes.now l.i l.relas.items;
}
