-- The layout of an object that is made: the file header; the bodies of its sections in their order,
-- each at the next multiple of its alignment; the section headers (ELF-64 gABI).
use Rattle.std.specs.Prelude.{ℕ, ◌+◌, ◌-◌, ◌%◌, ◌==◌, List, [], ◌∷◌, ◌++◌, codes, length, replicate, nat_lt, if◌then◌else◌}
use Rattle.elf_objects.specs.declared.TheConstants.{SHT_STRTAB, SHN_XINDEX}
use Rattle.elf_objects.specs.declared.header.SectionHeader.{SectionHeader}
use Rattle.elf_write.specs.Layout.{NewEntry, encoded, header_for, header_table, long_count, new_names, short_count}

-- the next multiple of an alignment
abbrev pub next_multiple : ℕ → ℕ → ℕ
next_multiple align n = if n % align == 0 then n else n + (align - n % align)

-- the bytes, and zeros to the next multiple
abbrev pub padded : ℕ → List ℕ → List ℕ
padded align bytes = bytes ++ replicate (next_multiple align (length bytes) - length bytes) 0

-- the bytes, and then each body at the next multiple of its alignment
abbrev pub with_bodies : List ℕ → List NewEntry → List ℕ
with_bodies bytes [] = bytes
with_bodies bytes (e ∷ es) = with_bodies (padded e.align bytes ++ e.body) es

-- where the last body ends, if they are laid out behind `at` bytes
abbrev pub bodies_end : ℕ → List NewEntry → ℕ
bodies_end at [] = at
bodies_end at (e ∷ es) = bodies_end (next_multiple e.align at + length e.body) es

-- the headers, where the names begin at `name` in the name table and what stands before the bodies ends at `at`
abbrev pub headers_from : ℕ → ℕ → List NewEntry → List SectionHeader
headers_from name at [] = []
headers_from name at (e ∷ es) =
    header_for name (next_multiple e.align at) e
    ∷ headers_from (name + length e.name + 1) (next_multiple e.align at + length e.body) es

-- From 0xFF00 on a number does not fit e_shstrndx, and is sh_link of header 0.
abbrev pub short_index : ℕ → ℕ
short_index i = if nat_lt i 0xFF00 then i else SHN_XINDEX

abbrev pub long_index : ℕ → ℕ
long_index i = if nat_lt i 0xFF00 then 0 else i

-- header 0, where there are so many sections and the last is the name table
abbrev pub first_header : ℕ → SectionHeader
first_header count = record {
  name = 0;
  kind = 0;
  flags = 0;
  addr = 0;
  offset = 0;
  size = long_count count;
  link = long_index (count - 1);
  info = 0;
  align = 0;
  entsize = 0;
}

-- e_ident: the magic number, ELFCLASS64, ELFDATA2LSB, EV_CURRENT, and zeros
abbrev pub identification : List ℕ
identification = 0x7F ∷ 0x45 ∷ 0x4C ∷ 0x46 ∷ 2 ∷ 1 ∷ 1 ∷ 0 ∷ 0 ∷ 0 ∷ 0 ∷ 0 ∷ 0 ∷ 0 ∷ 0 ∷ 0 ∷ []

-- The file header, Elf64_Ehdr: a little-endian 64-bit relocatable file for x86-64 with so many section headers at
-- `headers_at`, the last of which is that of the name table.
abbrev pub file_header : ℕ → ℕ → List ℕ
file_header headers_at count =
    identification
    ++ encoded 2 1 ++ encoded 2 62 ++ encoded 4 1
    ++ encoded 8 0 ++ encoded 8 0 ++ encoded 8 headers_at
    ++ encoded 4 0 ++ encoded 2 64 ++ encoded 2 0 ++ encoded 2 0
    ++ encoded 2 64 ++ encoded 2 (short_count count) ++ encoded 2 (short_index (count - 1))

-- the name table of sections: a zero byte, and each name, its own behind the others, with a zero byte
abbrev pub names_entry : List NewEntry → NewEntry
names_entry es = record {
  name = codes ".shstrtab";
  kind = SHT_STRTAB;
  flags = 0;
  link = 0;
  info = 0;
  align = 1;
  entsize = 0;
  body = 0 ∷ (new_names es ++ (codes ".shstrtab" ++ 0 ∷ []));
}

-- the sections, and behind them the table of their names
abbrev pub with_names : List NewEntry → List NewEntry
with_names es = es ++ names_entry es ∷ []

-- where the section headers stand
abbrev pub headers_place : List NewEntry → ℕ
headers_place es = next_multiple 8 (bodies_end 64 es)

-- the file of sections, section 0 not told, the last of which is the name table
unfoldable pub file_of : List NewEntry → List ℕ
file_of es =
    padded 8 (with_bodies (file_header (headers_place es) (length es + 1)) es)
    ++ header_table (first_header (length es + 1) ∷ headers_from 1 64 es)
