-- Why the functions of an object are not listed.
use Rattle.std.specs.Prelude.{◌≡◌, Some}
use Rattle.elf_objects.specs.Elf.{Elf}
use Rattle.symbols_relocs.specs.declared.fault.IndexFault.{IndexFault}
use Rattle.symbols_relocs.specs.declared.fault.IndexFault.TheVariants.{Func, NoMemory}
use Rattle.symbols_relocs.specs.Functions.{first_bad}

-- the first symbol that leaves its section is told, unless memory ran out
abbrev pub Tells : Elf → IndexFault → Type 0
Tells o (Func sym) = first_bad o ≡ Some sym
Tells o NoMemory = Unit {0}
