-- Which sections may be added to an object, and the object with them.
use Rattle.std.specs.Prelude.{◌≡◌, ◌≢◌, ◌⊎◌, ◌<◌, ◌≤◌, ◌+◌, ◌*◌, ◌/◌, ◌%◌, ◌^◌, ◌==◌, ◌&&◌, ℕ, List, [], ◌∷◌, ◌++◌, length, map, bit_and, slice_index, All, AllPairs, Option, Some, None, if◌then◌else◌, IsTrue}
use Rattle.std.specs.List.{enumerate_from, find, range_with_len}
use Rattle.elf_objects.specs.declared.symbol.Reloc.{Reloc}
use Rattle.elf_objects.specs.Contents.{relocs_at}
use Rattle.elf_objects.specs.Elf.{Elf, SectionEntry}
use Rattle.elf_objects.specs.declared.TheConstants.{SHT_NULL, SHT_PROGBITS, SHT_SYMTAB, SHT_STRTAB, SHT_RELA, SHT_NOBITS, SHT_REL, SHT_GROUP, SHT_SYMTAB_SHNDX, SHF_EXECINSTR, SHF_COMPRESSED}
use Rattle.elf_objects.specs.Sections.{link_of}
use Rattle.elf_objects.specs.Symbols.{field_size, is_read}
use Rattle.elf_objects.specs.Table.{reloc_at}
use Rattle.elf_write.specs.Layout.{NewEntry, Input, aligned, all_names, end_of, extended, headers_place, long_count, names_place}
use Rattle.elf_write.specs.Object.{appended_to, input_of_object}

-- Which sections may be added.

-- the fields of the header have room for the numbers
pub record HasFields (e : NewEntry) : Type 0 where
  pub kind : e.kind < 2 ^ 32
  pub flags : e.flags < 2 ^ 64
  pub link : e.link < 2 ^ 32
  pub info : e.info < 2 ^ 32
  pub align : e.align < 2 ^ 64
  pub entsize : e.entsize < 2 ^ 64

-- a section that is no table and no text, and has a body only where its type has one
pub record IsPlain (e : NewEntry) : Type 0 where
  pub no_symbols : e.kind ≢ SHT_SYMTAB
  pub no_strings : e.kind ≢ SHT_STRTAB
  pub no_relas : e.kind ≢ SHT_RELA
  pub no_rels : e.kind ≢ SHT_REL
  pub no_group : e.kind ≢ SHT_GROUP
  pub no_indices : e.kind ≢ SHT_SYMTAB_SHNDX
  pub no_text : e.kind ≡ SHT_PROGBITS → bit_and e.flags SHF_EXECINSTR ≡ 0
  pub no_null : e.kind ≡ SHT_NULL → e.body ≡ []
  pub no_bits : e.kind ≡ SHT_NOBITS → e.body ≡ []

-- the sizes of the sections, the new ones behind those of the object
abbrev pub sizes : Elf → List NewEntry → List ℕ
sizes o new = map (λ s. s.size) o.sections ++ map (λ e. length e.body) new

-- the relocations in a body
abbrev pub relocs_in : List ℕ → List Reloc
relocs_in body = map (λ k. reloc_at body (24 * k)) (range_with_len 0 (length body / 24))

-- a relocation names one of so many symbols, and its field lies in a section of this size
pub record IsRelocOf (r : Reloc) (symbols target_size : ℕ) : Type 0 where
  pub symbol : r.sym < symbols
  pub field : IsTrue (is_read r.kind) → r.offset + field_size r.kind ≤ target_size

-- the relocations of a section that has none
pub record IsRelocs (o : Elf) (new : List NewEntry) (e : NewEntry) : Type 0 where
  pub kind : e.kind ≡ SHT_RELA
  pub entries : e.entsize ≡ 24
  pub whole : length e.body % 24 ≡ 0
  pub flags : bit_and e.flags SHF_COMPRESSED ≡ 0
  pub link : e.link ≡ link_of o.symbol_table
  pub info : 1 ≤ e.info
  pub target : e.info < length o.sections + length new
  pub free : All (λ s. s.kind ≡ SHT_RELA → s.info ≢ e.info) o.sections
  pub relocs : All (λ r. IsRelocOf r (length o.symbols) (slice_index (sizes o new) e.info)) (relocs_in e.body)

-- a section that may be added beside the others
pub record IsAddable (o : Elf) (new : List NewEntry) (e : NewEntry) : Type 0 where
  pub name : All (λ c. c ≢ 0) e.name
  pub fields : HasFields e
  pub form : IsPlain e ⊎ IsRelocs o new e

-- no two have the relocations of one section
abbrev pub AreApart : NewEntry → NewEntry → Type 0
AreApart e f = e.kind ≡ SHT_RELA → f.kind ≡ SHT_RELA → e.info ≢ f.info

pub record CanAdd (o : Elf) (new : List NewEntry) : Type 0 where
  pub few : length o.sections + length new ≤ 262144
  pub size : length (appended_to o new) < 2 ^ 32
  pub each : All (IsAddable o new) new
  pub apart : AllPairs AreApart new

-- The object with the new sections.

-- an old section with its index, where there are `count` sections with the new ones: the name table
-- is longer and stands elsewhere, and the size of section 0 tells how many sections there are where
-- they are many
abbrev pub old_section : Input → ℕ → List NewEntry → ℕ × SectionEntry → SectionEntry
old_section i count new (k, s) =
    if k == 0 then record s { size = long_count count }
    else if k == i.name_table then record s { offset = names_place i; size = length (all_names i new); body = all_names i new }
    else s

-- a new section whose body begins at `place`
abbrev pub new_section : ℕ → NewEntry → SectionEntry
new_section place e = record {
  name = e.name;
  kind = e.kind;
  flags = e.flags;
  addr = 0;
  offset = place;
  size = length e.body;
  link = e.link;
  info = e.info;
  align = e.align;
  entsize = e.entsize;
  body = e.body;
}

-- the new sections, where what stands before them ends at `at`
abbrev pub new_sections : ℕ → List NewEntry → List SectionEntry
new_sections at [] = []
new_sections at (e ∷ new) = new_section (aligned at) e ∷ new_sections (aligned at + length e.body) new

-- the relocations of the section with a number: those that a new section has for it, or those that
-- it had
abbrev pub relocs_with : Elf → List NewEntry → ℕ → List Reloc
relocs_with o new k = chosen (find (λ e. (e.kind == SHT_RELA) && (e.info == k)) new) where
  chosen : Option NewEntry → List Reloc
  chosen (Some e) = relocs_in e.body
  chosen None = relocs_at o k

abbrev pub extended_as : Input → Elf → List NewEntry → Elf
extended_as i o new = record {
  bytes = extended i new;
  headers_at = headers_place i new;
  name_table = o.name_table;
  sections =
      map (old_section i (length o.sections + length new) new) (enumerate_from 0 o.sections)
      ++ new_sections (end_of (length i.bytes) (all_names i new ∷ [])) new;
  symbol_table = o.symbol_table;
  symbols = o.symbols;
  relocs = map (relocs_with o new) (range_with_len 0 (length o.sections + length new));
}

abbrev pub extended_object : Elf → List NewEntry → Elf
extended_object o new = extended_as (input_of_object o) o new

-- the object with the new sections, which is the object itself where there are none
abbrev pub object_with : Elf → List NewEntry → Elf
object_with o [] = o
object_with o (e ∷ new) = extended_object o (e ∷ new)
