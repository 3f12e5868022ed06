-- The layout of an object to which sections are added: what was there stays where it is, and the
-- new pieces stand behind it, each at the next multiple of 8 (ELF-64 gABI: ELF header, section
-- header table, string table).
use Rattle.std.specs.Prelude.{ℕ, ◌+◌, ◌-◌, ◌*◌, ◌/◌, List, [], ◌∷◌, ◌++◌, length, take, drop, map, replicate, nat_lt, if◌then◌else◌}
use Rattle.std.specs.List.{flat_map}
use Rattle.byteorder.specs.Endian.{little_bytes}
use Rattle.elf_objects.specs.declared.header.SectionHeader.{SectionHeader}

-- a section to add: what its header says of it, its name without the zero byte that ends it, and
-- its body
pub record NewEntry : Type 0 where
  pub name : List ℕ
  pub kind : ℕ
  pub flags : ℕ
  pub link : ℕ
  pub info : ℕ
  pub align : ℕ
  pub entsize : ℕ
  pub body : List ℕ

-- what a writer has to know of the input: its bytes, its section headers as they stand there, which
-- of the sections is the name table, and that section's body
pub record Input : Type 0 where
  pub bytes : List ℕ
  pub headers : List ℕ
  pub name_table : ℕ
  pub names : List ℕ

-- the number x in so many bytes, the lowest first (ELF-64 gABI, ELFDATA2LSB)
unfoldable pub encoded : ℕ → ℕ → List ℕ
encoded width x = little_bytes width x

-- the 64 bytes of a section header (ELF-64 gABI, Elf64_Shdr)
unfoldable pub header_bytes : SectionHeader → List ℕ
header_bytes h =
    encoded 4 h.name ++ encoded 4 h.kind ++ encoded 8 h.flags ++ encoded 8 h.addr ++ encoded 8 h.offset
    ++ encoded 8 h.size ++ encoded 4 h.link ++ encoded 4 h.info ++ encoded 8 h.align ++ encoded 8 h.entsize

-- the bytes with the piece in place of those that stand from `at` on
abbrev pub written : ℕ → List ℕ → List ℕ → List ℕ
written at piece bytes = take at bytes ++ piece ++ drop (at + length piece) bytes

-- the next multiple of 8
abbrev pub aligned : ℕ → ℕ
aligned n = (n + 7) / 8 * 8

-- the bytes, and zeros to the next multiple of 8
abbrev pub padded : List ℕ → List ℕ
padded bytes = bytes ++ replicate (aligned (length bytes) - length bytes) 0

-- the bytes, and then each piece at the next multiple of 8
abbrev pub laid_out : List ℕ → List (List ℕ) → List ℕ
laid_out bytes [] = bytes
laid_out bytes (piece ∷ pieces) = laid_out (padded bytes ++ piece) pieces

-- where the last of the pieces ends, if they are laid out behind `at` bytes
abbrev pub end_of : ℕ → List (List ℕ) → ℕ
end_of at [] = at
end_of at (piece ∷ pieces) = end_of (aligned at + length piece) pieces

-- each new name with the zero byte that ends it
abbrev pub new_names : List NewEntry → List ℕ
new_names new = flat_map (λ e. e.name ++ 0 ∷ []) new

abbrev pub bodies : List NewEntry → List (List ℕ)
bodies new = map (λ e. e.body) new

-- the header of a new section whose name begins at `name` in the name table and whose body begins
-- at `place`
abbrev pub header_for : ℕ → ℕ → NewEntry → SectionHeader
header_for name place e = record {
  name = name;
  kind = e.kind;
  flags = e.flags;
  addr = 0;
  offset = place;
  size = length e.body;
  link = e.link;
  info = e.info;
  align = e.align;
  entsize = e.entsize;
}

-- the headers of the new sections, where their names begin at `name` in the name table and what
-- stands before them ends at `at`
abbrev pub new_headers : ℕ → ℕ → List NewEntry → List SectionHeader
new_headers name at [] = []
new_headers name at (e ∷ new) =
    header_for name (aligned at) e ∷ new_headers (name + length e.name + 1) (aligned at + length e.body) new

-- the bytes of some headers
abbrev pub header_table : List SectionHeader → List ℕ
header_table headers = flat_map header_bytes headers

-- the number of sections, with the new ones
abbrev pub count_of : Input → List NewEntry → ℕ
count_of i new = length i.headers / 64 + length new

-- From 0xFF00 sections on the file header says 0, and the size of header 0 is their number; below
-- it is the other way round (ELF-64 gABI, e_shnum).
abbrev pub short_count : ℕ → ℕ
short_count n = if nat_lt n 0xFF00 then n else 0

abbrev pub long_count : ℕ → ℕ
long_count n = if nat_lt n 0xFF00 then 0 else n

-- the name table's body with the new names
abbrev pub all_names : Input → List NewEntry → List ℕ
all_names i new = i.names ++ new_names new

-- the pieces that stand behind the input, before the headers
abbrev pub pieces : Input → List NewEntry → List (List ℕ)
pieces i new = all_names i new ∷ bodies new

-- where the name table goes, and where the headers go
abbrev pub names_place : Input → ℕ
names_place i = aligned (length i.bytes)

abbrev pub headers_place : Input → List NewEntry → ℕ
headers_place i new = aligned (end_of (length i.bytes) (pieces i new))

-- the input, with the headers' place and number in its file header: e_shoff is the 8 bytes at 40,
-- e_shnum the 2 at 60
abbrev pub changed_input : Input → List NewEntry → List ℕ
changed_input i new =
    written 40 (encoded 8 (headers_place i new)) (written 60 (encoded 2 (short_count (count_of i new))) i.bytes)

-- the old headers: sh_size, the 8 bytes at 32, of header 0, and sh_offset and sh_size, at 24, of
-- the name table's header
abbrev pub changed_headers : Input → List NewEntry → List ℕ
changed_headers i new =
    written 32 (encoded 8 (long_count (count_of i new)))
    (written (64 * i.name_table + 24) (encoded 8 (names_place i) ++ encoded 8 (length (all_names i new))) i.headers)

-- the headers of the new sections
abbrev pub added_headers : Input → List NewEntry → List SectionHeader
added_headers i new = new_headers (length i.names) (end_of (length i.bytes) (all_names i new ∷ [])) new

-- all headers, the new ones behind the old ones
abbrev pub all_headers : Input → List NewEntry → List ℕ
all_headers i new = changed_headers i new ++ header_table (added_headers i new)

-- the object with the new sections: the input, the name table, the new bodies, the headers
abbrev pub extended : Input → List NewEntry → List ℕ
extended i new = laid_out (changed_input i new) (pieces i new ++ all_headers i new ∷ [])

-- the same, and the input itself where no section is added
abbrev pub appended : Input → List NewEntry → List ℕ
appended i [] = i.bytes
appended i (e ∷ new) = extended i (e ∷ new)
