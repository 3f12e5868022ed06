-- The texts of faults.
use Rattle.std.specs.Prelude.{ℕ, List, [], ◌++◌, codes}
use Rattle.std.specs.Fmt.{decimal}
use Rattle.elf_objects.specs.declared.fault.Counted.{Counted}
use Rattle.elf_objects.specs.declared.fault.Counted.TheVariants as counted
use Rattle.elf_objects.specs.declared.fault.NameOf.{NameOf}
use Rattle.elf_objects.specs.declared.fault.NameOf.TheVariants as named
use Rattle.elf_objects.specs.declared.fault.ElfFault.{ElfFault}
use Rattle.elf_objects.specs.declared.fault.ElfFault.TheVariants as elf

abbrev pub name_of_text : NameOf → List ℕ
name_of_text named.Section = codes "section"
name_of_text named.Symbol = codes "symbol"

abbrev pub counted_text : Counted → List ℕ
counted_text counted.Sections = codes "sections"
counted_text counted.Symbols = codes "symbols"
counted_text counted.TextBytes = codes "text bytes"

-- a file is too short; a relocation is bad
abbrev pub short_text : ℕ → ℕ → List ℕ
short_text need have = codes "file needs " ++ decimal need ++ codes " bytes, has " ++ decimal have

abbrev pub reloc_text : ℕ → ℕ → List ℕ
reloc_text sec index = codes "section " ++ decimal sec ++ codes ": bad relocation " ++ decimal index

-- why a file is no object
abbrev pub fault_text : ElfFault → List ℕ
fault_text (elf.Short need have) = short_text need have
fault_text (elf.NotElfRel64 at) = codes "not an x86-64 relocatable file at byte " ++ decimal at
fault_text (elf.BadTable sec) = codes "section " ++ decimal sec ++ codes ": bad table"
fault_text (elf.BadRange sec) = codes "section " ++ decimal sec ++ codes ": outside the file"
fault_text (elf.BadName what index) = name_of_text what ++ codes " " ++ decimal index ++ codes ": bad name"
fault_text (elf.BadLink sec) = codes "section " ++ decimal sec ++ codes ": bad link"
fault_text (elf.BadSymbol sym) = codes "symbol " ++ decimal sym ++ codes ": bad symbol"
fault_text (elf.BadReloc sec index) = reloc_text sec index
fault_text (elf.TooMany what count) = codes "too many " ++ counted_text what ++ codes ": " ++ decimal count
fault_text elf.NoMemory = []
