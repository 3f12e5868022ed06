-- What the code keeps of the section of a list.
use Rattle.elf_objects.specs.Elf.{Elf}
use Rattle.elf_objects.specs.Contents.{relocs_at}
use Rattle.site_lists.specs.declared.reading.Slots.{Slots}
use Rattle.site_lists.specs.Faults.{ListParts}

abbrev pub parts_of : Elf → Slots → ListParts
parts_of object s = record { slots = s.body.now; relocs = relocs_at object s.section }
