-- What the links of the sections tell of the symbol table.
use Rattle.std.proofs.Common.{◌≡◌, ◌<◌, ◌≤◌, ◌+◌, ◌/◌, ℕ, List, Option, Some, None, IsTrue, length, arith, refl}
use Rattle.std.proofs.lemmas.Bool.{eqb-true}
use Rattle.elf_objects.specs.Below.{AllBelow}
use Rattle.elf_objects.specs.File.{HasTable, section_count, section_header}
use Rattle.elf_objects.specs.Header.{has_body}
use Rattle.elf_objects.specs.declared.TheConstants.{SHT_SYMTAB, SHT_SYMTAB_SHNDX}
use Rattle.elf_objects.specs.Sections.{HasBody, HasLinks}
use Rattle.elf_objects.specs.Table.{header_of, index_table, is_kind, string_header, symbol_count, symbol_table}
use Rattle.elf_objects.proofs.LeastBelow.{least_below-some}

-- the index of the symbols' string table is that of a section
pub strings-exist : (b : List ℕ) (o : Option ℕ) → 0 < section_count b → AllBelow (HasLinks b) (section_count b) → symbol_table b ≡ o → (header_of b o).link < section_count b
unfolding header_of
strings-exist b None some links e = some
strings-exist b (Some t) some links e =
    let found = least_below-some (is_kind b SHT_SYMTAB) (section_count b) t e in
    ((links t found.below).symbols (eqb-true (section_header b t).kind SHT_SYMTAB found.passes)).strings.0

-- the table of section numbers has one for each symbol
pub indices-count : (b : List ℕ) (t : ℕ) → AllBelow (HasLinks b) (section_count b) → index_table b ≡ Some t → (header_of b (Some t)).size / 4 ≡ symbol_count b
unfolding header_of
indices-count b t links e =
    let found = least_below-some (is_kind b SHT_SYMTAB_SHNDX) (section_count b) t e in
    ((links t found.below).indices (eqb-true (section_header b t).kind SHT_SYMTAB_SHNDX found.passes)).entries

-- the body of the symbols' string table lies in the file
pub strings-inside : (b : List ℕ) → HasTable b → AllBelow (HasBody b) (section_count b) → AllBelow (HasLinks b) (section_count b) → IsTrue (has_body (string_header b)) → (string_header b).offset + (string_header b).size ≤ length b
strings-inside b table bodies links body =
    let names = table.counts.names in
    let known = strings-exist b (symbol_table b) (omega (arith, names)) links refl in
    (bodies _ known).placed.inside body
