-- Text sections and their section symbols, in an object with section symbols.
use Rattle.std.proofs.Common.{◌≡◌, ℕ, ◌+◌, ◌<◌, ◌≤◌, true, false, List, [], ◌∷◌, ◌++◌, length, get_or, map, take, drop, eqb, Option, Some, None, refl, sym, ap, subst, ◌∙◌, arith, length-append}
use Rattle.std.specs.Prelude.{Contains, IsSome, option_map, slice_get}
use Rattle.std.proofs.lemmas.Bool.{eq-eqb, false≢true, ne_eqb}
use Rattle.std.proofs.lemmas.Bool.Decides.{nat_tests}
use Rattle.std.proofs.lemmas.List.{get_or-append-add, get_or-map, get_or_append_left, length-map, take-append-drop}
use Rattle.std.proofs.lemmas.Option.{get_or_from_slice_get, slice_get-map, slice_get_within}
use Rattle.elf_objects.specs.Contents.{elf_of, entry_of_header, is_text, no_section, no_symbol, section_symbol_of, stands_for, symbol_at}
use Rattle.elf_objects.specs.Elf.{Elf, SectionEntry, SymbolEntry}
use Rattle.elf_objects.specs.File.{section_count, section_header}
use Rattle.elf_objects.specs.Object.{IsObject, IsWellFormed}
use Rattle.elf_objects.specs.declared.TheConstants.{SHT_GROUP, SHT_PROGBITS, SHT_RELA, SHT_SYMTAB, SHT_SYMTAB_SHNDX}
use Rattle.elf_objects.proofs.LeastBelow.{least_below-none, least_below-some}
use Rattle.elf_write.proofs.Links.{length-sections}
use Rattle.elf_write.specs.AddedSymbols.{NamesSame, new_number}
use Rattle.elf_write.specs.SymbolLayout.{locals}
use Rattle.elf_write.specs.SymbolObject.{object_with_symbols, section_with, symbol_for, symbols_with}
use Rattle.elf_write.proofs.Known.{Lies, lies, section_is}
use Rattle.elf_write.proofs.SymbolOutput.{renumbered_below}
use Rattle.orc_output.proofs.Insertable.{text_kind}

-- Sections.

text_as_it_was : (o : Elf) (secs : List ℕ) (s : SectionEntry) → s.kind ≡ SHT_PROGBITS → section_with o secs s ≡ s
text_as_it_was o secs s e =
    let a : eqb s.kind SHT_RELA ≡ false = ne_eqb s.kind SHT_RELA (λ z. omega arith) in
    let c : eqb s.kind SHT_SYMTAB ≡ false = ne_eqb s.kind SHT_SYMTAB (λ z. omega arith) in
    let d : eqb s.kind SHT_SYMTAB_SHNDX ≡ false = ne_eqb s.kind SHT_SYMTAB_SHNDX (λ z. omega arith) in
    let f : eqb s.kind SHT_GROUP ≡ false = ne_eqb s.kind SHT_GROUP (λ z. omega arith) in
    rw (a, c, d, f) refl

-- a text section is there as it was
pub text_stays : (o : Elf) (secs : List ℕ) (k : ℕ) (s : SectionEntry) → slice_get o.sections k ≡ Some s → is_text s ≡ true
    → slice_get (object_with_symbols o secs).sections k ≡ Some s
text_stays o [] k s at text = at
text_stays o (sec ∷ secs) k s at text =
    slice_get-map (section_with o (sec ∷ secs)) o.sections k
    ∙ ap (option_map (section_with o (sec ∷ secs))) at
    ∙ ap (λ (x : SectionEntry). Some x) (text_as_it_was o (sec ∷ secs) s (text_kind s text))

pub sections_stay : (o : Elf) (secs : List ℕ) → length (object_with_symbols o secs).sections ≡ length o.sections
sections_stay o [] = refl
sections_stay o (sec ∷ secs) = length-map o.sections (section_with o (sec ∷ secs))

pub name_stays : (o : Elf) (secs : List ℕ) (s : SectionEntry) → (section_with o secs s).name ≡ s.name
name_stays o secs s = grind (arith, nat_tests)

-- a text section is no longer than the file
text_within : (b : List ℕ) (k : ℕ) (s : SectionEntry) → IsWellFormed b → slice_get (elf_of b).sections k ≡ Some s → is_text s ≡ true → s.size ≤ length b
text_within b k s w at text =
    let inside : k < section_count b = subst (λ n. k < n) (length-sections b) (slice_get_within (elf_of b).sections k s at) in
    let is : entry_of_header b (section_header b k) ≡ s = sym (section_is b k inside) ∙ get_or_from_slice_get (elf_of b).sections k s no_section at in
    let kind : (section_header b k).kind ≡ SHT_PROGBITS = ap (λ (x : SectionEntry). x.kind) is ∙ text_kind s text in
    let size : (section_header b k).size ≡ s.size = ap (λ (x : SectionEntry). x.size) is in
    let l : Lies b (section_header b k) = lies b w k inside (λ z. omega arith) (λ z. omega arith) in
    omega (arith, l.inside)

pub size_within : (b : List ℕ) (o : Elf) (k : ℕ) (s : SectionEntry) → IsObject b o → slice_get o.sections k ≡ Some s → is_text s ≡ true → s.size ≤ length b
size_within b o k s ok = subst (λ (x : Elf). slice_get x.sections k ≡ Some s → is_text s ≡ true → s.size ≤ length b) (sym ok.says) (text_within b k s ok.well_formed)

-- Section symbols.

-- where one symbol stands for the section there is a first
one_stands : (o : Elf) (sec j : ℕ) → j < length o.symbols → stands_for sec (symbol_at o j) ≡ true → IsSome (section_symbol_of o sec)
one_stands o sec j inside passes = first (section_symbol_of o sec) refl
  where
    first : (f : Option ℕ) → section_symbol_of o sec ≡ f → IsSome f
    first (Some k) e = refl
    first None e = absurd (false≢true (sym (least_below-none (λ k. stands_for sec (symbol_at o k)) (length o.symbols) e j inside) ∙ passes))

length-symbols_with : (o : Elf) (secs : List ℕ) → length (symbols_with o secs) ≡ length o.symbols + length secs
length-symbols_with o secs =
    let front : List SymbolEntry = take (locals o) o.symbols in
    let mid : List SymbolEntry = map (symbol_for o) secs in
    let rest : List SymbolEntry = drop (locals o) o.symbols in
    let all : length (front ++ rest) ≡ length o.symbols = ap length (take-append-drop (locals o) o.symbols) in
    omega (arith, length-append front rest, length-append front mid, length-append (front ++ mid) rest, length-map secs (symbol_for o))

symbols_grow : (o : Elf) (secs : List ℕ) → length (object_with_symbols o secs).symbols ≡ length o.symbols + length secs
symbols_grow o [] = omega arith
symbols_grow o (sec ∷ secs) = length-symbols_with o (sec ∷ secs)

-- an old section symbol
old_symbol : (o : Elf) (secs : List ℕ) (sec k : ℕ) → NamesSame o secs (object_with_symbols o secs) → section_symbol_of o sec ≡ Some k
    → IsSome (section_symbol_of (object_with_symbols o secs) sec)
old_symbol o secs sec k same found =
    let first = least_below-some (λ j. stands_for sec (symbol_at o j)) (length o.symbols) k found in
    let below = renumbered_below (locals o) (length secs) k (length o.symbols) first.below in
    one_stands (object_with_symbols o secs) sec (new_number o secs k)
    (subst (λ n. new_number o secs k < n) (sym (symbols_grow o secs)) below)
    (ap (stands_for sec) (same.symbols k first.below) ∙ first.passes)

-- a new one stands for its section
stands_itself : (o : Elf) (sec : ℕ) → stands_for sec (symbol_for o sec) ≡ true
stands_itself o sec = eq-eqb sec sec refl

new_symbol : (o : Elf) (secs : List ℕ) (sec : ℕ) → Contains secs sec → IsSome (section_symbol_of (object_with_symbols o secs) sec)
new_symbol o [] sec at = absurd (omega (arith, at.1))
new_symbol o (x ∷ xs) sec at =
    let secs : List ℕ = x ∷ xs in
    let j : ℕ = at.0 in
    let front : List SymbolEntry = take (locals o) o.symbols in
    let mid : List SymbolEntry = map (symbol_for o) secs in
    let rest : List SymbolEntry = drop (locals o) o.symbols in
    let long : length mid ≡ length secs = length-map secs (symbol_for o) in
    let both = length-append front mid in
    let all = length-append (front ++ mid) rest in
    let inside : j < length secs = at.1 in
    let is : get_or (symbols_with o secs) (length front + j) no_symbol ≡ symbol_for o sec =
    get_or_append_left (front ++ mid) rest no_symbol (length front + j) (omega arith)
    ∙ get_or-append-add front mid j no_symbol
    ∙ get_or-map (symbol_for o) secs j sec no_symbol inside
    ∙ ap (symbol_for o) at.2 in
    one_stands (object_with_symbols o secs) sec (length front + j) (omega arith) (ap (stands_for sec) is ∙ stands_itself o sec)

-- a section has a section symbol that had one, or for which one was inserted
pub has_symbol : (o : Elf) (secs : List ℕ) (sec : ℕ) → NamesSame o secs (object_with_symbols o secs)
    → (section_symbol_of o sec ≡ None → Contains secs sec) → IsSome (section_symbol_of (object_with_symbols o secs) sec)
has_symbol o secs sec same else_new = by_old (section_symbol_of o sec) refl
  where
    by_old : (f : Option ℕ) → section_symbol_of o sec ≡ f → IsSome (section_symbol_of (object_with_symbols o secs) sec)
    by_old (Some k) e = old_symbol o secs sec k same e
    by_old None e = new_symbol o secs sec (else_new e)
