-- What the code keeps of an object's ORC sections.
use Rattle.elf_objects.specs.Elf.{Elf}
use Rattle.elf_objects.specs.Contents.{relocs_at}
use Rattle.orc_bytes.specs.declared.reading.Parts.{Parts}
use Rattle.orc_bytes.specs.Faults.{OrcParts}

abbrev pub parts_of : Elf → Parts → OrcParts
parts_of object p = record { table = p.table.now; ips = p.ips.now; relocs = relocs_at object p.ip_section }
