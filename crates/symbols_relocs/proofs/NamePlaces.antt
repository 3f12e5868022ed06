-- Where the names of symbols stand in an object's file.
use Rattle.std.proofs.Common.{◌≡◌, ℕ, ◌+◌, ◌*◌, ◌/◌, ◌<◌, ◌≤◌, true, not, ◌-◌, ◌==◌, List, Option, Some, None, take, drop, slice_range, length, arith, refl, sym, ap, subst, ◌∙◌}
use Rattle.std.specs.List.{prefix_len}
use Rattle.std.proofs.lemmas.Bool.{eqb-true}
use Rattle.std.proofs.lemmas.Bool.Decides.{nat_tests}
use Rattle.elf_objects.specs.declared.TheConstants.{SHT_SYMTAB}
use Rattle.elf_objects.specs.declared.header.SectionHeader.{SectionHeader}
use Rattle.elf_objects.specs.Contents.{section_at, section_entry, symbol_at, symbol_entry}
use Rattle.elf_objects.specs.Elf.{Elf, SectionEntry}
use Rattle.elf_objects.specs.File.{section_count, section_header}
use Rattle.elf_objects.specs.Header.{has_body}
use Rattle.elf_objects.specs.Object.{IsObject}
use Rattle.elf_objects.specs.Strings.{up_to_zero}
use Rattle.elf_objects.specs.Table.{body_of, header_of, is_kind, raw_symbol, raw_symbol_at, string_at, string_header, symbol_count, symbol_header, symbol_table}
use Rattle.elf_objects.specs.Number.{word}
use Rattle.elf_objects.proofs.LeastBelow.{least_below-some}
use Rattle.elf_objects.proofs.Read.{length-sections, length-strings, length-symbols, section_at-entry, symbol_at-entry}
use Rattle.text_numbers.specs.Ends.{end_from}
use Rattle.symbols_relocs.specs.Names.{strings, strings_by, symbols_offset, symbols_offset_by}

symtab-has_body : (h : SectionHeader) → h.kind ≡ SHT_SYMTAB → has_body h ≡ true
symtab-has_body h e = grind (arith, nat_tests)

-- the symbols stand in a section, whose string table is one
record HasSymbols (b : List ℕ) (o : Elf) : Type 0 where
  strings_are : strings o ≡ body_of b (string_header b)
  offset_is : symbols_offset o ≡ (symbol_header b).offset
  inside : (symbol_header b).offset + (symbol_header b).size ≤ length b

module _ (b : List ℕ) (o : Elf) (is : IsObject b o) (some : 0 < symbol_count b) where
  by_table : (table : Option ℕ) → symbol_table b ≡ table → 0 < (header_of b table).size / 24 → HasSymbols b o
  unfolding header_of section_entry
  by_table None e more = absurd (omega arith)
  by_table (Some t) e more =
      let well = is.well_formed in
      let says = sym is.says in
      let found = least_below-some (is_kind b SHT_SYMTAB) (section_count b) t e in
      let kind = eqb-true (section_header b t).kind SHT_SYMTAB found.passes in
      let link = ((well.links t found.below).symbols kind).strings in
      let table : section_at o t ≡ section_entry b t = section_at-entry b o t says found.below in
      let names : section_at o (section_header b t).link ≡ section_entry b (section_header b t).link = section_at-entry b o (section_header b t).link says link.0 in
      let placed = (well.bodies t found.below).placed in
      let inside = placed.inside (symtab-has_body (section_header b t) kind) in
      let it : o.symbol_table ≡ Some t = ap (λ (x : Elf). x.symbol_table) is.says ∙ e in
      record {
        strings_are = ap (strings_by o) it ∙ ap (λ (s : SectionEntry). (section_at o s.link).body) table ∙ ap (λ (s : SectionEntry). s.body) names ∙ sym (ap (λ tt. body_of b (section_header b (header_of b tt).link)) e);
        offset_is = ap (symbols_offset_by o) it ∙ ap (λ (s : SectionEntry). s.offset) table ∙ sym (ap (λ tt. (header_of b tt).offset) e);
        inside = subst (λ tt. (header_of b tt).offset + (header_of b tt).size ≤ length b) (sym e) inside;
      }

  has_symbols : HasSymbols b o
  unfolding symbol_count
  has_symbols = by_table (symbol_table b) refl some

module _ (b : List ℕ) (o : Elf) (is : IsObject b o) (k : ℕ) (low : k < length o.symbols) where
  known : k < symbol_count b
  known = let l = length-symbols b o (sym is.says) in omega (arith, l, low)

  pub field_inside : symbols_offset o + 24 * k + 4 ≤ length b
  unfolding symbol_count
  field_inside =
      let h = has_symbols b o is (let n = known in omega (arith, n)) in
      let n = known in
      let offset = h.offset_is in
      let inside = h.inside in
      omega (arith, n, offset, inside)

  start_is : (at : ℕ) → at ≡ symbols_offset o + 24 * k → word b at ≡ (raw_symbol b k).name
  unfolding raw_symbol raw_symbol_at
  start_is at e =
      let h = has_symbols b o is (let n = known in omega (arith, n)) in
      ap (word b) (e ∙ ap (λ n. n + 24 * k) h.offset_is)

  pub name_is : (at start : ℕ) → at ≡ symbols_offset o + 24 * k → start ≡ word b at → up_to_zero (drop start (strings o)) ≡ (symbol_at o k).name
  unfolding symbol_entry string_at
  name_is at start e f =
      let h = has_symbols b o is (let n = known in omega (arith, n)) in
      let entry = symbol_at-entry b o k (sym is.says) known in
      rw (entry, f, start_is at e, h.strings_are) refl

  pub name_inside : (at start : ℕ) → at ≡ symbols_offset o + 24 * k → start ≡ word b at → start ≤ length (strings o)
  name_inside at start e f =
      let h = has_symbols b o is (let n = known in omega (arith, n)) in
      let well = is.well_formed in
      let size = length-strings b k well known in
      let name = (well.symbols k known).name in
      let s = start_is at e in
      let l : length (strings o) ≡ length (body_of b (string_header b)) = ap (λ (t : List ℕ). length t) h.strings_are in
      omega (arith, size, name, s, l, f)

-- the symbol table is a section
pub table_known : (b : List ℕ) (o : Elf) → IsObject b o → (t : ℕ) → o.symbol_table ≡ Some t → t < length o.sections
table_known b o is t e =
    let f = least_below-some (is_kind b SHT_SYMTAB) (section_count b) t (ap (λ (x : Elf). x.symbol_table) (sym is.says) ∙ e) in
    let low = f.below in
    let l = length-sections b o (sym is.says) in
    omega (arith, l, low)

-- a name ends before the first zero byte
pub name_range : (table : List ℕ) (start end : ℕ) (name : List ℕ) → end ≡ end_from table start → up_to_zero (drop start table) ≡ name → slice_range table start end ≡ name
unfolding up_to_zero
name_range table start end name e f =
    let n : end - start ≡ prefix_len (λ c. not (c == 0)) (drop start table) = omega (arith, e) in
    ap (λ k. take k (drop start table)) n ∙ f
