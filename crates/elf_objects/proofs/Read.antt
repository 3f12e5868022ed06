-- What stands at an index of an object's lists.
use Rattle.std.proofs.Common.{◌≡◌, ◌≢◌, ◌<◌, ◌≤◌, ◌+◌, ◌-◌, ◌^◌, ◌/◌, ℕ, Bool, true, false, cond, Option, Some, None, List, [], map, length, length-take, length-drop, drop, slice_range, slice_get, refl, ap, sym, ◌∙◌, arith}
use Rattle.std.proofs.lemmas.List.FromFn.{get_or-map-range_with_len, length-map-range_with_len}
use Rattle.std.specs.List.{range_with_len}
use Rattle.std.proofs.lemmas.Option.{slice_get_read}
use Rattle.std.proofs.lemmas.Bool.{eqb-true}
use Rattle.std.proofs.lemmas.Bool.Decides.{nat_tests}
use Rattle.elf_objects.specs.Contents.{elf_of, no_section, no_symbol, relocs_at, relocs_of, section_at, section_entry, section_symbol_of, stands_for, symbol_at, symbol_entry}
use Rattle.elf_objects.specs.Below.{least_below}
use Rattle.elf_objects.specs.Found.{stands_for_section}
use Rattle.elf_objects.specs.Elf.{Elf, SectionEntry}
use Rattle.elf_objects.specs.File.{name_table, section_count, section_header}
use Rattle.elf_objects.specs.declared.header.SectionHeader.{SectionHeader}
use Rattle.elf_objects.specs.Header.{has_body}
use Rattle.elf_objects.specs.declared.TheConstants.{SHT_NULL, SHT_NOBITS, SHT_STRTAB, SHT_SYMTAB}
use Rattle.elf_objects.specs.Lent.{IsSlice}
use Rattle.elf_objects.specs.Object.{IsWellFormed}
use Rattle.elf_objects.specs.Sections.{IsPlaced, NamesStrings}
use Rattle.elf_objects.specs.Table.{body_of, header_of, is_kind, is_rela_of, name_header, rela_of, reloc_of, string_header, symbol_count, symbol_table}
use Rattle.elf_objects.proofs.LeastBelow.{least_below-cong, least_below-some}

pub length-sections : (b : List ℕ) (o : Elf) → elf_of b ≡ o → length o.sections ≡ section_count b
length-sections b o e = rw (← e) (length-map-range_with_len (section_entry b) 0 (section_count b))

pub length-symbols : (b : List ℕ) (o : Elf) → elf_of b ≡ o → length o.symbols ≡ symbol_count b
length-symbols b o e = rw (← e) (length-map-range_with_len (symbol_entry b) 0 (symbol_count b))

pub section_at-entry : (b : List ℕ) (o : Elf) (i : ℕ) → elf_of b ≡ o → i < section_count b → section_at o i ≡ section_entry b i
section_at-entry b o i e h = rw (← e) (get_or-map-range_with_len (section_entry b) 0 (section_count b) i i no_section h (omega arith))

pub symbol_at-entry : (b : List ℕ) (o : Elf) (k : ℕ) → elf_of b ≡ o → k < symbol_count b → symbol_at o k ≡ symbol_entry b k
symbol_at-entry b o k e h = rw (← e) (get_or-map-range_with_len (symbol_entry b) 0 (symbol_count b) k k no_symbol h (omega arith))

pub relocs_at-entry : (b : List ℕ) (o : Elf) (i : ℕ) → elf_of b ≡ o → i < section_count b → relocs_at o i ≡ relocs_of b i
relocs_at-entry b o i e h = rw (← e) (get_or-map-range_with_len (relocs_of b) 0 (section_count b) i i [] h (omega arith))

slice_range-length : (b : List ℕ) (from size : ℕ) → from + size ≤ length b → length (slice_range b from (from + size)) ≡ size
slice_range-length b from size h = simp (length-take, length-drop) (omega arith)

-- a section with a body has as many bytes of it as its size says
pub length-body_of : (b : List ℕ) (h : SectionHeader) → has_body h ≡ true → IsPlaced (length b) h → length (body_of b h) ≡ h.size
unfolding body_of
length-body_of b h body placed = let inside = placed.inside body in rw body (slice_range-length b h.offset h.size inside)

-- a string table has a body
strtab-has_body : (h : SectionHeader) → h.kind ≡ SHT_STRTAB → has_body h ≡ true
strtab-has_body h e = grind (arith, nat_tests)

pub length-names : (b : List ℕ) → IsWellFormed b → length (body_of b (name_header b)) ≡ (name_header b).size
length-names b well =
    let exists = well.table.counts.names in
    length-body_of b (name_header b) (strtab-has_body (name_header b) ((well.forms (name_table b) exists).names refl)) (well.bodies (name_table b) exists).placed

strings-are : (b : List ℕ) (o : Option ℕ) → IsWellFormed b → 0 < (header_of b o).size / 24 → symbol_table b ≡ o → NamesStrings b (header_of b o).link
unfolding header_of
strings-are b None well some e = absurd (omega arith)
strings-are b (Some t) well some e =
    let found = least_below-some (is_kind b SHT_SYMTAB) (section_count b) t e in
    ((well.links t found.below).symbols (eqb-true (section_header b t).kind SHT_SYMTAB found.passes)).strings

pub strings-placed : (b : List ℕ) (k : ℕ) → IsWellFormed b → k < symbol_count b → IsPlaced (length b) (string_header b)
unfolding symbol_count
strings-placed b k well known =
    let are = strings-are b (symbol_table b) well (omega arith) refl in
    (well.bodies _ are.0).placed

pub length-strings : (b : List ℕ) (k : ℕ) → IsWellFormed b → k < symbol_count b → length (body_of b (string_header b)) ≡ (string_header b).size
unfolding symbol_count
length-strings b k well known =
    let are = strings-are b (symbol_table b) well (omega arith) refl in
    length-body_of b (string_header b) (strtab-has_body (string_header b) are.1) (well.bodies _ are.0).placed

-- the body that is lent is the section's bytes
body-bytes : (b : List ℕ) (h : SectionHeader) → h.kind ≢ SHT_NULL → h.kind ≢ SHT_NOBITS → has_body h ≡ true
body-bytes b h null nobits = grind (arith, nat_tests)

pub IsSlice-body : (b : List ℕ) (h : SectionHeader) (s : SectionEntry) → s.kind ≡ h.kind → s.offset ≡ h.offset → s.size ≡ h.size → s.body ≡ body_of b h → IsPlaced (length b) h → IsSlice b s
unfolding body_of
IsSlice-body b h s kind offset size body placed = record {
  inside = λ null nobits. (let inside = placed.inside (body-bytes b h (λ e. null (kind ∙ e)) (λ e. nobits (kind ∙ e))) in rw (offset, size) inside);
  body = λ null nobits. (let has = body-bytes b h (λ e. null (kind ∙ e)) (λ e. nobits (kind ∙ e)) in rw (offset, size, body, has) refl);
  null = λ e. (let k : h.kind ≡ SHT_NULL = sym kind ∙ e in rw (body, k) refl);
  nobits = λ e. (let k : h.kind ≡ SHT_NOBITS = sym kind ∙ e in rw (body, k) refl);
}

-- and so is that of the section with an index
pub IsSlice-entry : (b : List ℕ) (o : Elf) (i : ℕ) → elf_of b ≡ o → i < section_count b → IsWellFormed b → IsSlice o.bytes (section_at o i)
unfolding section_entry
IsSlice-entry b o i e known well =
    rw (← e) (rw (section_at-entry b (elf_of b) i refl known) (IsSlice-body b (section_header b i) (section_entry b i) refl refl refl refl (well.bodies i known).placed))

-- a test that agrees with what stands in a list finds the same
pub section_symbol-found : (b : List ℕ) (o : Elf) (s : ℕ) → elf_of b ≡ o → least_below (stands_for_section b s) (symbol_count b) ≡ section_symbol_of o s
section_symbol-found b o s e =
    let size = length-symbols b o e in
    rw (size) (least_below-cong (stands_for_section b s) (λ k. stands_for s (symbol_at o k)) (symbol_count b) (λ k h. sym (ap (stands_for s) (symbol_at-entry b o k e h))))

-- a section of relocations has a body
rela-has_body : (b : List ℕ) (s i : ℕ) → is_rela_of b s i ≡ true → has_body (section_header b i) ≡ true
rela-has_body b s i e = grind (arith, nat_tests)

pub rela-is : (b : List ℕ) (s i n : ℕ) → least_below (is_rela_of b s) n ≡ Some i → (i < n) × (has_body (section_header b i) ≡ true)
rela-is b s i n e = let found = least_below-some (is_rela_of b s) n i e in (found.below, rela-has_body b s i found.passes)

-- the relocations of a section are those in the section that has them
pub length-relocs_of : (b : List ℕ) (s : ℕ) → length (relocs_of b s) ≡ (header_of b (rela_of b s)).size / 24
unfolding relocs_of
length-relocs_of b s = length-map-range_with_len (reloc_of b (header_of b (rela_of b s))) 0 ((header_of b (rela_of b s)).size / 24)

pub relocs_of-get : (b : List ℕ) (s i : ℕ) → i < (header_of b (rela_of b s)).size / 24 → slice_get (relocs_of b s) i ≡ Some (reloc_of b (header_of b (rela_of b s)) i)
unfolding relocs_of
relocs_of-get b s i h =
    let f = reloc_of b (header_of b (rela_of b s)) in
    let n = (header_of b (rela_of b s)).size / 24 in
    slice_get_read (map f (range_with_len 0 n)) n i (f i) (sym (length-map-range_with_len f 0 n)) h (sym (get_or-map-range_with_len f 0 n i i (f i) h (omega arith)))

-- a body is no longer than the file
pub body_short : (b : List ℕ) (h : SectionHeader) → length b < 2 ^ 32 → length (body_of b h) < 2 ^ 32
unfolding body_of
body_short b h few = go (has_body h)
  where
    go : (has : Bool) → length (cond has (slice_range b h.offset (h.offset + h.size)) []) < 2 ^ 32
    go true = let left = length-drop h.offset b in let cut = length-take (h.offset + h.size - h.offset) (drop h.offset b) in omega (arith, cut, left)
    go false = omega arith
