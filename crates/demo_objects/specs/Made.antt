-- The sections of an object that is made, and its file.
use Rattle.std.specs.Prelude.{ℕ, ◌+◌, ◌-◌, ◌*◌, ◌^◌, ◌==◌, Bool, false, List, [], ◌∷◌, ◌++◌, codes, filter, get_or, length, map, nat_lt, not, replicate, if◌then◌else◌}
use Rattle.std.specs.Int.{w64, cast_unsigned}
use Rattle.std.specs.List.{flat_map, list_any, range_with_len}
use Rattle.elf_objects.specs.declared.TheConstants.{SHT_SYMTAB, SHT_STRTAB, SHT_RELA, SHT_SYMTAB_SHNDX, SHF_INFO_LINK, SHN_UNDEF, SHN_LORESERVE, SHN_ABS, SHN_COMMON, SHN_XINDEX, STB_LOCAL}
use Rattle.elf_objects.specs.declared.symbol.Home.{Home}
use Rattle.elf_objects.specs.declared.symbol.Home.TheVariants as home
use Rattle.elf_objects.specs.declared.symbol.Reloc.{Reloc}
use Rattle.elf_write.specs.Layout.{NewEntry, encoded}
use Rattle.demo_objects.specs.declared.spec.RelSpec.{RelSpec}
use Rattle.demo_objects.specs.Layout.{file_of, with_names}
use Rattle.demo_objects.specs.Spec.{NewSymbol, Spec}

-- Relocations.

-- the 24 bytes of a relocation, Elf64_Rela
abbrev pub reloc_bytes : Reloc → List ℕ
reloc_bytes r = encoded 8 r.offset ++ encoded 8 (r.sym * 2 ^ 32 + r.kind) ++ encoded 8 (cast_unsigned w64 r.addend)

-- the relocations of a section
abbrev pub relocs_for : List RelSpec → ℕ → List Reloc
relocs_for relocs sec = map (λ r. r.reloc) (filter (λ r. r.sec == sec) relocs)

-- the section has some
abbrev pub has_relocs : List RelSpec → ℕ → Bool
has_relocs relocs sec = list_any (λ r. r.sec == sec) relocs

-- the sections that have some, in ascending order
abbrev pub targets : Spec → List ℕ
targets s = filter (has_relocs s.relocs) (range_with_len 1 (length s.sections))

-- the number of the symbol table: behind the sections and those of relocations
abbrev pub symbols_number : Spec → ℕ
symbols_number s = length s.sections + length (targets s) + 1

-- a section, for where there is none
abbrev pub no_entry : NewEntry
no_entry = record { name = []; kind = 0; flags = 0; link = 0; info = 0; align = 1; entsize = 0; body = [] }

-- the section with the relocations of the section with a number
abbrev pub rela_entry : Spec → ℕ → NewEntry
rela_entry s sec = record {
  name = codes ".rela" ++ (get_or s.sections (sec - 1) no_entry).name;
  kind = SHT_RELA;
  flags = SHF_INFO_LINK;
  link = symbols_number s;
  info = sec;
  align = 8;
  entsize = 24;
  body = flat_map reloc_bytes (relocs_for s.relocs sec);
}

-- Symbols.

-- a name in the string table, with its zero byte; an empty name takes no room
abbrev pub name_text : List ℕ → List ℕ
name_text name = if length name == 0 then [] else name ++ 0 ∷ []

-- where a name begins for which there is room from `at` on; an empty name is that at 0
abbrev pub name_place : ℕ → List ℕ → ℕ
name_place at name = if length name == 0 then 0 else at

-- a home whose section number does not fit st_shndx
abbrev pub is_wide : Home → Bool
is_wide (home.Section i) = not (nat_lt i SHN_LORESERVE)
is_wide home.Undefined = false
is_wide home.Absolute = false
is_wide home.Common = false

-- st_shndx of a home, and its entry in the table of section numbers
abbrev pub shndx_of : Home → ℕ
shndx_of (home.Section i) = if nat_lt i SHN_LORESERVE then i else SHN_XINDEX
shndx_of home.Undefined = SHN_UNDEF
shndx_of home.Absolute = SHN_ABS
shndx_of home.Common = SHN_COMMON

abbrev pub index_of : Home → ℕ
index_of (home.Section i) = if nat_lt i SHN_LORESERVE then 0 else i
index_of home.Undefined = 0
index_of home.Absolute = 0
index_of home.Common = 0

-- the 24 bytes of a symbol whose name begins at `name` in the string table, Elf64_Sym
abbrev pub symbol_bytes : ℕ → NewSymbol → List ℕ
symbol_bytes name s =
    encoded 4 name ++ ((s.bind * 16 + s.kind) ∷ 0 ∷ []) ++ encoded 2 (shndx_of s.home) ++ encoded 8 s.value ++ encoded 8 s.size

-- the symbols, where their names begin at `at` in the string table
abbrev pub symbols_from : ℕ → List NewSymbol → List ℕ
symbols_from at [] = []
symbols_from at (s ∷ ss) = symbol_bytes (name_place at s.name) s ++ symbols_from (at + length (name_text s.name)) ss

-- the bodies of the symbol table, of its string table, and of the table of section numbers, each with that of symbol 0
abbrev pub symbols_body : List NewSymbol → List ℕ
symbols_body symbols = replicate 24 0 ++ symbols_from 1 symbols

abbrev pub strings_body : List NewSymbol → List ℕ
strings_body symbols = 0 ∷ flat_map (λ s. name_text s.name) symbols

abbrev pub indices_body : List NewSymbol → List ℕ
indices_body symbols = encoded 4 0 ++ flat_map (λ s. encoded 4 (index_of s.home)) symbols

-- some section number does not fit st_shndx
abbrev pub needs_indices : List NewSymbol → Bool
needs_indices symbols = list_any (λ s. is_wide s.home) symbols

-- the number of the symbols' string table
abbrev pub strings_number : Spec → ℕ
strings_number s = symbols_number s + (if needs_indices s.symbols then 2 else 1)

abbrev pub is_local : NewSymbol → Bool
is_local s = s.bind == STB_LOCAL

abbrev pub symbols_entry : Spec → NewEntry
symbols_entry s = record {
  name = codes ".symtab";
  kind = SHT_SYMTAB;
  flags = 0;
  link = strings_number s;
  info = length (filter is_local s.symbols) + 1;
  align = 8;
  entsize = 24;
  body = symbols_body s.symbols;
}

abbrev pub indices_entry : Spec → NewEntry
indices_entry s = record {
  name = codes ".symtab_shndx";
  kind = SHT_SYMTAB_SHNDX;
  flags = 0;
  link = symbols_number s;
  info = 0;
  align = 4;
  entsize = 4;
  body = indices_body s.symbols;
}

abbrev pub strings_entry : Spec → NewEntry
strings_entry s = record {
  name = codes ".strtab";
  kind = SHT_STRTAB;
  flags = 0;
  link = 0;
  info = 0;
  align = 1;
  entsize = 0;
  body = strings_body s.symbols;
}

-- The whole.

-- the symbol table, and the table of section numbers where it is needed
abbrev pub symbol_tables : Spec → List NewEntry
symbol_tables s = if needs_indices s.symbols then symbols_entry s ∷ indices_entry s ∷ [] else symbols_entry s ∷ []

-- all sections but section 0: those given, those of relocations, the symbols' tables, the names
abbrev pub all_sections : Spec → List NewEntry
all_sections s = with_names (s.sections ++ map (rela_entry s) (targets s) ++ symbol_tables s ++ strings_entry s ∷ [])

-- the file
abbrev pub made : Spec → List ℕ
made s = file_of (all_sections s)
