-- The worked file is an object, and says what is told of it.
use Rattle.std.proofs.Common.{◌≡◌, ℕ, zero, suc, ◌<◌, ◌≤◌, ◌==◌, ◌≢◌, ◌⊎◌, true, false, refl, sym, ◌∙◌, inl, inr, arith, lit<, lit≤}
use Rattle.std.proofs.lemmas.Bool.{eq-eqb}
use Rattle.elf_objects.specs.Below.{least_below}
use Rattle.elf_objects.specs.Contents.{elf_of, relocs_of, section_entry, symbol_entry}
use Rattle.elf_objects.specs.File.{name_table, section_count, section_header, wrong_field}
use Rattle.elf_objects.specs.Header.{header_at}
use Rattle.elf_objects.specs.Number.{half, word, xword}
use Rattle.elf_objects.specs.Object.{IsObject}
use Rattle.elf_objects.specs.Sections.{HasBody, HasForm, HasLinks, HasName, IsAlone, SharesByte, file_text_bytes}
use Rattle.elf_objects.specs.Strings.{up_to_zero}
use Rattle.elf_objects.specs.Symbols.{HasRelocs, IsReloc, IsSymbol, plain}
use Rattle.elf_objects.specs.Table.{body_of, header_of, raw_symbol, raw_symbol_at, rela_of, reloc_at, reloc_of, string_at, symbol_count, symbol_home}
use Rattle.elf_objects.specs.declared.TheConstants.{SHT_RELA, SHT_SYMTAB}
use Rattle.object_law.specs.WorkedFile.{file, said}

differ : {P : Type 0} (a b : ℕ) → (a == b) ≡ false → a ≡ b → P
differ a b e f = absurd (let t : true ≡ false = sym (eq-eqb a b f) ∙ e in let k : ⊥ = cc in k)

five : (P : ℕ → Type 0) → P 0 → P 1 → P 2 → P 3 → P 4 → (k : ℕ) → k < 5 → P k
five P a b c d e zero h = a
five P a b c d e (suc zero) h = b
five P a b c d e (suc (suc zero)) h = c
five P a b c d e (suc (suc (suc zero))) h = d
five P a b c d e (suc (suc (suc (suc zero)))) h = e
five P a b c d e (suc (suc (suc (suc (suc k))))) h = absurd (omega (arith, h))

three : (P : ℕ → Type 0) → P 0 → P 1 → P 2 → (k : ℕ) → k < 3 → P k
three P a b c zero h = a
three P a b c (suc zero) h = b
three P a b c (suc (suc zero)) h = c
three P a b c (suc (suc (suc k))) h = absurd (omega (arith, h))

two : (P : ℕ → Type 0) → P 0 → P 1 → (k : ℕ) → k < 2 → P k
two P a b zero h = a
two P a b (suc zero) h = b
two P a b (suc (suc k)) h = absurd (omega (arith, h))

says : said ≡ elf_of file
unfolding least_below relocs_of section_entry symbol_entry name_table section_count section_header wrong_field header_at half word xword file_text_bytes up_to_zero body_of header_of raw_symbol raw_symbol_at rela_of reloc_at reloc_of string_at symbol_count symbol_home
says = refl

-- the relocations share no byte with another body
outside : (x : ℕ) (low high start end : ℕ) → low ≤ x → x < high → start ≤ x → x < end → (high ≤ start) ⊎ (end ≤ low) → ⊥
outside x low high start end a b c d (inl e) = absurd (omega (arith, a, b, c, d, e))
outside x low high start end a b c d (inr e) = absurd (omega (arith, a, b, c, d, e))

alone : IsAlone file 2
unfolding least_below relocs_of section_entry symbol_entry name_table section_count section_header wrong_field header_at half word xword file_text_bytes up_to_zero body_of header_of raw_symbol raw_symbol_at rela_of reloc_at reloc_of string_at symbol_count symbol_home
alone = record { apart = λ k below ne shares. five (λ k. k ≢ 2 → SharesByte (section_header file 2) (section_header file k) → ⊥) (λ n s. let t : false ≡ true = s.2.0 in let k : ⊥ = cc in k) (λ n s. outside s.0 72 96 64 72 s.1.1 s.1.2 s.2.1 s.2.2 (inr (lit≤ tt))) (λ n s. n refl) (λ n s. outside s.0 72 96 96 168 s.1.1 s.1.2 s.2.1 s.2.2 (inl (lit≤ tt))) (λ n s. outside s.0 72 96 168 206 s.1.1 s.1.2 s.2.1 s.2.2 (inl (lit≤ tt))) k below ne shares }

bodies : (k : ℕ) → k < 5 → HasBody file k
unfolding least_below relocs_of section_entry symbol_entry name_table section_count section_header wrong_field header_at half word xword file_text_bytes up_to_zero body_of header_of raw_symbol raw_symbol_at rela_of reloc_at reloc_of string_at symbol_count symbol_home
bodies = five (HasBody file)
    (record { null = λ e. refl; placed = record { inside = λ t. lit≤ tt; behind = λ t l. absurd (let u : false ≡ true = t in let k : ⊥ = cc in k) }; alone = λ e. differ 0 4 refl e })
    (record { null = λ e. differ 1 0 refl e; placed = record { inside = λ t. lit≤ tt; behind = λ t l. lit≤ tt }; alone = λ e. differ 1 4 refl e })
    (record { null = λ e. differ 2 0 refl e; placed = record { inside = λ t. lit≤ tt; behind = λ t l. lit≤ tt }; alone = λ e. alone })
    (record { null = λ e. differ 3 0 refl e; placed = record { inside = λ t. lit≤ tt; behind = λ t l. lit≤ tt }; alone = λ e. differ 2 4 refl e })
    (record { null = λ e. differ 4 0 refl e; placed = record { inside = λ t. lit≤ tt; behind = λ t l. lit≤ tt }; alone = λ e. differ 3 4 refl e })

forms : (k : ℕ) → k < 5 → HasForm file k
unfolding least_below relocs_of section_entry symbol_entry name_table section_count section_header wrong_field header_at half word xword file_text_bytes up_to_zero body_of header_of raw_symbol raw_symbol_at rela_of reloc_at reloc_of string_at symbol_count symbol_home
forms = five (HasForm file)
    (record { form = record { symbols = λ e. differ 0 2 refl e; indices = λ e. differ 0 18 refl e; relocs = λ e. differ 0 4 refl e; strings = λ e. differ 0 3 refl e; no_rel = λ e. differ 0 9 refl e; text = λ t. refl }; names = λ e. differ 0 4 refl e })
    (record { form = record { symbols = λ e. differ 1 2 refl e; indices = λ e. differ 1 18 refl e; relocs = λ e. differ 1 4 refl e; strings = λ e. differ 1 3 refl e; no_rel = λ e. differ 1 9 refl e; text = λ t. refl }; names = λ e. differ 1 4 refl e })
    (record { form = record { symbols = λ e. differ 4 2 refl e; indices = λ e. differ 4 18 refl e; relocs = λ e. record { entries = (refl, refl); plain = refl }; strings = λ e. differ 4 3 refl e; no_rel = λ e. differ 4 9 refl e; text = λ t. refl }; names = λ e. differ 2 4 refl e })
    (record { form = record { symbols = λ e. record { entries = (refl, refl); only = three (λ k. (section_header file k).kind ≢ SHT_SYMTAB) (λ e. differ 0 2 refl e) (λ e. differ 1 2 refl e) (λ e. differ 4 2 refl e); plain = refl }; indices = λ e. differ 2 18 refl e; relocs = λ e. differ 2 4 refl e; strings = λ e. differ 2 3 refl e; no_rel = λ e. differ 2 9 refl e; text = λ t. refl }; names = λ e. differ 3 4 refl e })
    (record { form = record { symbols = λ e. differ 3 2 refl e; indices = λ e. differ 3 18 refl e; relocs = λ e. differ 3 4 refl e; strings = λ e. record { some = λ e. differ 38 0 refl e; ends = refl; plain = refl }; no_rel = λ e. differ 3 9 refl e; text = λ t. refl }; names = λ e. refl })

links : (k : ℕ) → k < 5 → HasLinks file k
unfolding least_below relocs_of section_entry symbol_entry name_table section_count section_header wrong_field header_at half word xword file_text_bytes up_to_zero body_of header_of raw_symbol raw_symbol_at rela_of reloc_at reloc_of string_at symbol_count symbol_home
links = five (HasLinks file)
    (record { symbols = λ e. differ 0 2 refl e; indices = λ e. differ 0 18 refl e; relocs = λ e. differ 0 4 refl e; group = λ e. differ 0 17 refl e })
    (record { symbols = λ e. differ 1 2 refl e; indices = λ e. differ 1 18 refl e; relocs = λ e. differ 1 4 refl e; group = λ e. differ 1 17 refl e })
    (record { symbols = λ e. differ 4 2 refl e; indices = λ e. differ 4 18 refl e; relocs = λ e. record { table = refl; target = lit≤ tt; exists = lit< tt; only = two (λ k. (section_header file k).kind ≡ SHT_RELA → (section_header file k).info ≢ 1) (λ e. differ 0 4 refl e) (λ e. differ 1 4 refl e) }; group = λ e. differ 4 17 refl e })
    (record { symbols = λ e. record { strings = (lit< tt, refl); boundary = record { none = λ e. differ 3 0 refl e; above = λ n. lit≤ tt; within = lit≤ tt } }; indices = λ e. differ 2 18 refl e; relocs = λ e. differ 2 4 refl e; group = λ e. differ 2 17 refl e })
    (record { symbols = λ e. differ 3 2 refl e; indices = λ e. differ 3 18 refl e; relocs = λ e. differ 3 4 refl e; group = λ e. differ 3 17 refl e })

symbols : (k : ℕ) → k < 3 → IsSymbol file k
unfolding least_below relocs_of section_entry symbol_entry name_table section_count section_header wrong_field header_at half word xword file_text_bytes up_to_zero body_of header_of raw_symbol raw_symbol_at rela_of reloc_at reloc_of string_at symbol_count symbol_home
symbols = three (IsSymbol file)
    (record { name = lit< tt; home = plain (lit< tt) (lit< tt); side = (λ e. lit< tt, λ l. refl) })
    (record { name = lit< tt; home = plain (lit< tt) (lit< tt); side = (λ e. differ 1 0 refl e, λ l. let k : 1 < 1 = l in absurd (omega (arith, k))) })
    (record { name = lit< tt; home = plain (lit< tt) (lit< tt); side = (λ e. differ 1 0 refl e, λ l. let k : 2 < 1 = l in absurd (omega (arith, k))) })

relocs : (k : ℕ) → k < 5 → HasRelocs file k
unfolding least_below relocs_of section_entry symbol_entry name_table section_count section_header wrong_field header_at half word xword file_text_bytes up_to_zero body_of header_of raw_symbol raw_symbol_at rela_of reloc_at reloc_of string_at symbol_count symbol_home
relocs = five (HasRelocs file) (λ e. differ 0 4 refl e) (λ e. differ 1 4 refl e) (λ e k l. only k l) (λ e. differ 2 4 refl e) (λ e. differ 3 4 refl e)
  where
    only : (k : ℕ) → k < 1 → IsReloc file 2 k
    only zero l = record { symbol = lit< tt; field = λ p t. lit≤ tt }
    only (suc k) l = absurd (omega (arith, l))

pub is_object : IsObject file said
unfolding least_below relocs_of section_entry symbol_entry name_table section_count section_header wrong_field header_at half word xword file_text_bytes up_to_zero body_of header_of raw_symbol raw_symbol_at rela_of reloc_at reloc_of string_at symbol_count symbol_home
is_object = record {
  well_formed = record {
    table = record {
      file_header = lit≤ tt;
      target = refl;
      first_header = record { named = λ e. extended e; inside = λ e. extended e };
      counts = record { some = λ e. differ 5 0 refl e; plain = λ l. let k : 0xFF00 ≤ 4 = l in absurd (omega (arith, k)); names = lit< tt };
      few = lit≤ tt;
      headers = lit≤ tt;
    };
    bodies = bodies;
    forms = forms;
    links = links;
    names = five (HasName file) (lit< tt) (lit< tt) (lit< tt) (lit< tt) (lit< tt);
    few_symbols = lit≤ tt;
    symbols = symbols;
    relocs = relocs;
    little_text = lit≤ tt;
  };
  says = says;
}
  where
    extended : {P : Type 0} → ◌⊎◌ (◌≡◌ {A = ℕ} 5 0) (◌≡◌ {A = ℕ} 4 0xFFFF) → P
    extended (inl e) = differ 5 0 refl e
    extended (inr e) = differ 4 0xFFFF refl e
