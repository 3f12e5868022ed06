-- The text sections of an object with section symbols are those that it had.
use Rattle.std.proofs.Common.{◌≡◌, ℕ, ◌+◌, Bool, true, false, cond, List, [], ◌∷◌, map, eqb, refl, sym, ap, ◌∙◌, arith}
use Rattle.std.specs.List.{enumerate_from}
use Rattle.std.proofs.lemmas.Bool.{ne_eqb}
use Rattle.std.proofs.lemmas.Bool.Decides.{nat_tests}
use Rattle.ot_base.specs.declared.row.PlacedRow.{PlacedRow}
use Rattle.elf_objects.specs.Contents.{is_text}
use Rattle.elf_objects.specs.Elf.{Elf, SectionEntry}
use Rattle.elf_objects.specs.declared.TheConstants.{SHT_GROUP, SHT_PROGBITS, SHT_RELA, SHT_SYMTAB, SHT_SYMTAB_SHNDX}
use Rattle.elf_write.specs.SymbolObject.{object_with_symbols, section_with}
use Rattle.orc_output.specs.Needed.{needed_symbols}
use Rattle.orc_output.specs.Tables.{with_symbols}
use Rattle.command_base.specs.TextSections.{texts_of}
use Rattle.objtool_cli.proofs.PlacementLemmas.{entry_first, listed, listed_text}

progbits : (s : SectionEntry) → is_text s ≡ true → s.kind ≡ SHT_PROGBITS
progbits s h = grind (arith, nat_tests)

-- a text section is there as it was
as_it_was : (o : Elf) (secs : List ℕ) (s : SectionEntry) → s.kind ≡ SHT_PROGBITS → section_with o secs s ≡ s
as_it_was o secs s e =
    let a : eqb s.kind SHT_RELA ≡ false = ne_eqb s.kind SHT_RELA (λ z. omega arith) in
    let c : eqb s.kind SHT_SYMTAB ≡ false = ne_eqb s.kind SHT_SYMTAB (λ z. omega arith) in
    let d : eqb s.kind SHT_SYMTAB_SHNDX ≡ false = ne_eqb s.kind SHT_SYMTAB_SHNDX (λ z. omega arith) in
    let f : eqb s.kind SHT_GROUP ≡ false = ne_eqb s.kind SHT_GROUP (λ z. omega arith) in
    rw (a, c, d, f) refl

-- and no other section has become one
kind_stays : (o : Elf) (secs : List ℕ) (s : SectionEntry) → (section_with o secs s).kind ≡ s.kind
kind_stays o secs s = grind (arith, nat_tests)

flags_stay : (o : Elf) (secs : List ℕ) (s : SectionEntry) → (section_with o secs s).flags ≡ s.flags
flags_stay o secs s = grind (arith, nat_tests)

text_stays : (o : Elf) (secs : List ℕ) (s : SectionEntry) → is_text (section_with o secs s) ≡ is_text s
text_stays o secs s = rw (kind_stays o secs s, flags_stay o secs s) refl

same_listed : (o : Elf) (secs : List ℕ) (n : ℕ) (s : SectionEntry) (b : Bool) → is_text s ≡ b → (rest : List (ℕ × SectionEntry)) → cond b (listed_text (n, section_with o secs s) ∷ listed rest) (listed rest) ≡ cond b (listed_text (n, s) ∷ listed rest) (listed rest)
same_listed o secs n s true h rest = ap (λ (x : SectionEntry). listed_text (n, x) ∷ listed rest) (as_it_was o secs s (progbits s h))
same_listed o secs n s false h rest = refl

texts_with : (o : Elf) (secs : List ℕ) (n : ℕ) (all : List SectionEntry) → listed (enumerate_from n (map (section_with o secs) all)) ≡ listed (enumerate_from n all)
texts_with o secs n [] = refl
texts_with o secs n (s ∷ all) =
    let later = texts_with o secs (n + 1) all in
    entry_first n (section_with o secs s) (enumerate_from (n + 1) (map (section_with o secs) all)) (is_text s) (text_stays o secs s)
    ∙ ap (λ ts. cond (is_text s) (listed_text (n, section_with o secs s) ∷ ts) ts) later
    ∙ same_listed o secs n s (is_text s) refl (enumerate_from (n + 1) all)
    ∙ sym (entry_first n s (enumerate_from (n + 1) all) (is_text s) refl)

texts_kept : (o : Elf) (secs : List ℕ) → texts_of (object_with_symbols o secs) ≡ texts_of o
texts_kept o [] = refl
texts_kept o (sec ∷ secs) = texts_with o (sec ∷ secs) 0 o.sections

pub texts_stay : (o : Elf) (rows : List PlacedRow) → texts_of (with_symbols o rows) ≡ texts_of o
texts_stay o rows = texts_kept o (needed_symbols o rows)
