-- The bytes of a worked object, and what they say.
use Rattle.std.specs.Prelude.{ℕ, List, [], ◌∷◌, ◌++◌, Some, codes}
use Rattle.elf_objects.specs.Contents.{no_section, no_symbol}
use Rattle.elf_objects.specs.Elf.{Elf}
use Rattle.flow_defs.specs.WorkedCalls.{before}
use Rattle.flow_defs.specs.WorkedObjects.{code_section, function_symbol, outside, zeros}

-- a number below 256 in as many bytes as ELF's fields have
abbrev pub half : ℕ → List ℕ
half n = n ∷ 0 ∷ []

abbrev pub word : ℕ → List ℕ
word n = n ∷ zeros 3

abbrev pub xword : ℕ → List ℕ
xword n = n ∷ zeros 7

-- a section header: the name's offset, the type, the flags, the body's offset and size, sh_link and sh_info, the alignment and the
-- size of an entry
abbrev pub header : ℕ → ℕ → ℕ → ℕ → ℕ → ℕ → ℕ → ℕ → ℕ → List ℕ
header name kind flags offset size link info align entsize =
    word name ++ word kind ++ xword flags ++ xword 0 ++ xword offset ++ xword size ++ word link ++ word info ++ xword align ++ xword entsize

-- a symbol: the name's offset, the binding and type, the section, and the size
abbrev pub symbol : ℕ → ℕ → ℕ → ℕ → List ℕ
symbol name info section size = word name ++ info ∷ 0 ∷ half section ++ xword 0 ++ xword size

-- f, 8 bytes of .text (section 1):   53               push rbx
--                                    E8 00 00 00 00   call g, by a relocation; g is outside
--                                    5B               pop rbx
--                                    C3               ret
abbrev pub code : List ℕ
code = 0x53 ∷ 0xE8 ∷ zeros 4 ++ 0x5B ∷ 0xC3 ∷ []

-- the relocation at 2 of type R_X86_64_PLT32, to the symbol 2 with the addend -4
abbrev pub relocations : List ℕ
relocations = xword 2 ++ word 4 ++ word 2 ++ 0xFC ∷ 0xFF ∷ 0xFF ∷ 0xFF ∷ 0xFF ∷ 0xFF ∷ 0xFF ∷ 0xFF ∷ []

-- the symbols, of which the first is none: f is a global function of 8 bytes in section 1, g is global and undefined
abbrev pub symbols : List ℕ
symbols = symbol 0 0 0 0 ++ symbol 34 0x12 1 8 ++ symbol 36 0x10 0 0

abbrev pub names : List ℕ
names = 0 ∷ codes ".text" ++ 0 ∷ codes ".rela.text" ++ 0 ∷ codes ".symtab" ++ 0 ∷ codes ".strtab" ++ 0 ∷ codes "f" ++ 0 ∷ codes "g" ++ 0 ∷ []

-- the file header: a relocatable file for x86-64 with five section headers from 208 on, of which the last has the names
abbrev pub file_header : List ℕ
file_header =
    0x7F ∷ 0x45 ∷ 0x4C ∷ 0x46 ∷ 2 ∷ 1 ∷ 1 ∷ zeros 9
    ++ half 1 ++ half 62 ++ word 1 ++ xword 0 ++ xword 0 ++ xword 208 ++ word 0 ++ half 64 ++ half 0 ++ half 0 ++ half 64 ++ half 5 ++ half 4

abbrev pub headers : List ℕ
headers =
    header 0 0 0 0 0 0 0 0 0
    ++ header 1 1 6 64 8 0 0 1 0
    ++ header 7 4 0x40 72 24 3 1 8 24
    ++ header 18 2 0 96 72 4 1 8 24
    ++ header 26 3 0 168 38 0 0 1 0

-- the whole file
abbrev pub file : List ℕ
file = file_header ++ code ++ relocations ++ symbols ++ names ++ 0 ∷ 0 ∷ headers

-- what it says
abbrev pub said : Elf
said = record {
  bytes = file;
  headers_at = 208;
  name_table = 4;
  sections =
      no_section
      ∷ record (code_section (codes ".text") 8 code) { offset = 64; align = 1 }
      ∷ record no_section { name = codes ".rela.text"; kind = 4; flags = 0x40; offset = 72; size = 24; link = 3; info = 1; align = 8; entsize = 24; body = relocations }
      ∷ record no_section { name = codes ".symtab"; kind = 2; offset = 96; size = 72; link = 4; info = 1; align = 8; entsize = 24; body = symbols }
      ∷ record no_section { name = codes ".strtab"; kind = 3; offset = 168; size = 38; align = 1; body = names }
      ∷ [];
  symbol_table = Some 3;
  symbols = no_symbol ∷ function_symbol (codes "f") 1 0 8 ∷ outside (codes "g") ∷ [];
  relocs = [] ∷ (before 2 2 ∷ []) ∷ [] ∷ [] ∷ [] ∷ [];
}
