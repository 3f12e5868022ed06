use Rattle.std.proofs.Common.{◌≡◌, take}
use Rattle.elf_objects.specs.Contents.{section_symbol_of}
use Rattle.site_lists.specs.Sections.{rela_section, slot_section}
use Rattle.site_lists.proofs.bodies.encode_list.Given as goal

abbrev pub invariant-loop-place : goal.invariant-loop-place
invariant-loop-place l = record {
  body : l.body.items ≡ slot_section (take l.place-index l.places);
  rela : l.rela.items ≡ rela_section (section_symbol_of l.object) (take l.place-index l.places);
}
