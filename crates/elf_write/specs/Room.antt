-- The changes fit into the file, and their numbers into their fields.
use Rattle.std.specs.Prelude.{ℕ, ◌≡◌, ◌<◌, ◌≤◌, ◌+◌, ◌*◌, ◌/◌, ◌^◌, List, Option, Some, None, length, slice_index}
use Rattle.elf_objects.specs.Contents.{section_at}
use Rattle.elf_objects.specs.Elf.{Elf, SectionEntry}
use Rattle.elf_objects.specs.declared.TheConstants.{SHT_SYMTAB, SHT_RELA, SHT_GROUP, SHT_SYMTAB_SHNDX}
use Rattle.elf_objects.specs.Table.{reloc_at}
use Rattle.elf_write.specs.Layout.{end_of}
use Rattle.elf_write.specs.SymbolLayout.{headers_place, index_table, joined, locals, longer_numbers, longer_symbols, plan_of, tables}
use Rattle.elf_write.specs.declared.plan.Plan.{Plan}

-- the new symbol numbers of a body of relocations fit 32 bits
abbrev pub HasRoom : Plan → List ℕ → Type 0
HasRoom p body = (k : ℕ) → k < length body / 24 → (reloc_at body (24 * k)).sym + p.count < 2 ^ 32

-- the changes for a section fit a file of n bytes, where its header has a number
pub record HasRoomFor (p : Plan) (n i : ℕ) (s : SectionEntry) : Type 0 where
  pub header : p.headers_at + 64 * i + 64 ≤ n
  pub short : n < 2 ^ 32
  pub body : s.kind ≡ SHT_RELA → s.offset + length s.body ≤ n
  pub relocs : s.kind ≡ SHT_RELA → HasRoom p s.body
  pub symbols : s.kind ≡ SHT_SYMTAB → s.info + p.count < 2 ^ 32
  pub size : s.kind ≡ SHT_SYMTAB → s.size + 24 * p.count < 2 ^ 32
  pub numbers : s.kind ≡ SHT_SYMTAB_SHNDX → s.size + 4 * p.count < 2 ^ 32
  pub group : s.kind ≡ SHT_GROUP → s.info + p.count < 2 ^ 32

abbrev pub HasRoomIn : Elf → Plan → ℕ → ℕ → Type 0
HasRoomIn o p n i = HasRoomFor p n i (section_at o i)

-- numbers of 8 bits
abbrev pub AreBytes : List ℕ → Type 0
AreBytes bytes = (k : ℕ) → slice_index bytes k < 256

-- the table of section numbers, where there is one, has an entry for each local symbol
pub record HasEntries (o : Elf) (secs : List ℕ) (i : ℕ) : Type 0 where
  pub below : i < length o.sections
  pub entries : 4 * locals o ≤ length (section_at o i).body
  pub longer : length (longer_numbers o secs (section_at o i).body) ≡ length (section_at o i).body + 4 * length secs

abbrev pub HasNumbers : Elf → List ℕ → Option ℕ → Type 0
HasNumbers o secs None = 0 ≤ 0
HasNumbers o secs (Some i) = HasEntries o secs i

-- what the writer takes of an object whose symbol table has a number
pub record Parts (o : Elf) (secs : List ℕ) (t : ℕ) : Type 0 where
  pub table : o.symbol_table ≡ Some t
  pub below : t < length o.sections
  pub entries : 24 * locals o ≤ length (section_at o t).body
  pub longer : length (longer_symbols o secs) ≡ length (section_at o t).body + 24 * length secs
  pub numbers : HasNumbers o secs (index_table o)
  pub file : 64 ≤ length o.bytes
  pub headers : o.headers_at + 64 * length o.sections ≤ length o.bytes
  pub end : length (joined o secs) ≡ headers_place o secs + 64 * length o.sections
  pub short : headers_place o secs + 64 * length o.sections < 2 ^ 32
  pub within : end_of (length o.bytes) (tables o secs) ≤ headers_place o secs
  pub room : (i : ℕ) → i < length o.sections → HasRoomIn o (plan_of o secs) (headers_place o secs + 64 * length o.sections) i
