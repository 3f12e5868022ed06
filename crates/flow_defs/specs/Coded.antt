-- An object and the opcode map by which its code is read.
use Rattle.elf_objects.specs.Elf.{Elf}
use Rattle.x86_map.specs.declared.map.Map.{Map}

pub record Coded : Type 0 where
  pub map : Map
  pub elf : Elf

abbrev pub coded_by : Map → Elf → Coded
coded_by map o = record { map = map; elf = o }
