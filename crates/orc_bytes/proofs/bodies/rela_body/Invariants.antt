use Rattle.std.proofs.Common.{◌≡◌, ◌*◌, take}
use Rattle.elf_objects.specs.Contents.{section_symbol_of}
use Rattle.orc_bytes.specs.Sections.{rela_section}
use Rattle.orc_bytes.proofs.bodies.rela_body.Given as goal

abbrev pub invariant-loop-placed : goal.invariant-loop-placed
invariant-loop-placed l = record {
  body : l.body.items ≡ rela_section (section_symbol_of l.object) (take l.placed-index l.rows);
  offset : l.offset ≡ 4 * l.placed-index;
}
