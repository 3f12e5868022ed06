-- Relocations and groups name the same symbols as before.
use Rattle.std.proofs.Common.{◌≡◌, inl, inr, ℕ, ◌+◌, ◌-◌, ◌<◌, ◌≤◌, List, [], ◌∷◌, ◌++◌, length, take, drop, get_or, map, refl, sym, ap, subst, ◌∙◌, arith, length-append}
use Rattle.std.proofs.lemmas.Bool.{cases_lt}
use Rattle.std.proofs.lemmas.Bool.Decides.{nat_tests}
use Rattle.std.proofs.lemmas.List.{get_or-append_right, get_or-map, get_or_append_left, get_or_past, length-map, length-take-le, take-append-drop}
use Rattle.elf_objects.specs.Contents.{no_section, no_symbol, relocs_at, section_at, symbol_at}
use Rattle.elf_objects.specs.Elf.{Elf, SectionEntry, SymbolEntry}
use Rattle.elf_objects.specs.declared.symbol.Reloc.{Reloc}
use Rattle.elf_objects.specs.Object.{IsObject}
use Rattle.elf_write.specs.Added.{CanAdd}
use Rattle.elf_write.specs.Layout.{NewEntry}
use Rattle.elf_write.specs.Object.{appended_to}
use Rattle.elf_write.proofs.Result.{appended-is_object}
use Rattle.elf_write.specs.AddedSymbols.{IsAdded, NamesSame}
use Rattle.elf_write.specs.SymbolLayout.{locals, renumbered, symbols_inserted}
use Rattle.elf_write.specs.SymbolObject.{CanInsert, extended_object, object_with_symbols, renumbered_reloc, section_with, symbol_for}
use Rattle.elf_write.specs.Room.{AreBytes}
use Rattle.elf_write.proofs.SymbolFacts.{base, inserted-is_object, same_bytes}
use Rattle.elf_write.proofs.Known.{locals_are}
use Rattle.elf_write.proofs.SymbolWellFormed.{length-symbols}
use Rattle.elf_write.proofs.SymbolSays.{as_group}

-- one of some items, where others were inserted
moved-item : (front mid rest : List SymbolEntry) (f m k : ℕ) (d : SymbolEntry) → length front ≡ f → length mid ≡ m
    → get_or (front ++ mid ++ rest) (renumbered f m k) d ≡ get_or (front ++ rest) k d
moved-item front mid rest f m k d lf lm = elim (cases_lt k f) [
  | inl lower ↦
      let e : renumbered f m k ≡ k = grind (arith, nat_tests) in
      let l = length-append front mid in
      ap (λ (i : ℕ). get_or (front ++ mid ++ rest) i d) e
      ∙ get_or_append_left (front ++ mid) rest d k (omega arith)
      ∙ get_or_append_left front mid d k (omega arith)
      ∙ sym (get_or_append_left front rest d k (omega arith))
  | inr upper ↦
      let e : renumbered f m k ≡ k + m = grind (arith, nat_tests) in
      let l : length (front ++ mid) ≡ f + m = length-append front mid ∙ omega arith in
      let z : k + m - (f + m) ≡ k - f = omega arith in
      ap (λ (i : ℕ). get_or (front ++ mid ++ rest) i d) e
      ∙ get_or-append_right (front ++ mid) rest (f + m) (k + m) d l (omega arith)
      ∙ ap (λ (i : ℕ). get_or rest i d) z
      ∙ sym (get_or-append_right front rest f k d lf upper)
]

same-none : (f k : ℕ) → renumbered f 0 k ≡ k
same-none f k = elim (cases_lt k f) [
  | inl lower ↦ grind (arith, nat_tests)
  | inr upper ↦ grind (arith, nat_tests)
]

map-none : (f : ℕ) (rs : List Reloc) → rs ≡ map (λ (r : Reloc). record r { sym = renumbered f 0 r.sym }) rs
map-none f [] = refl
map-none f (r ∷ rs) =
    let e = same-none f r.sym in
    let ih = map-none f rs in
    ap (λ (n : ℕ). record r { sym = n } ∷ rs) (sym e) ∙ ap (λ (xs : List Reloc). record r { sym = renumbered f 0 r.sym } ∷ xs) ih

names-none : (o : Elf) → NamesSame o [] o
names-none o = record {
  symbols = λ k h. ap (λ (i : ℕ). symbol_at o i) (same-none (locals o) k);
  relocs = λ i. map-none (locals o) (relocs_at o i);
  groups = λ i h e. sym (same-none (locals o) (section_at o i).info);
}

names-some : (o : Elf) (secs : List ℕ) → locals o ≤ length o.symbols → NamesSame o secs (extended_object o secs)
names-some o secs h = record {
  symbols = λ k lt.
      moved-item (take (locals o) o.symbols) (map (symbol_for o) secs) (drop (locals o) o.symbols) (locals o) (length secs) k no_symbol
      (length-take-le (locals o) o.symbols h) (length-map secs (symbol_for o))
      ∙ ap (λ (xs : List SymbolEntry). get_or xs k no_symbol) (take-append-drop (locals o) o.symbols);
  relocs = λ i. elim (cases_lt i (length o.relocs)) [
    | inl inside ↦ get_or-map (map (renumbered_reloc o secs)) o.relocs i [] [] inside
    | inr past ↦
        get_or_past (map (map (renumbered_reloc o secs)) o.relocs) i [] (omega (arith, length-map o.relocs (map (renumbered_reloc o secs))))
        ∙ sym (ap (map (renumbered_reloc o secs)) (get_or_past o.relocs i [] past))
  ];
  groups = λ i lt e.
      ap (λ (s : SectionEntry). s.info) (get_or-map (section_with o secs) o.sections i no_section no_section lt ∙ as_group o secs (section_at o i) e);
}

-- the new symbols stand among those of the object
locals_few : (b : List ℕ) (secs : List ℕ) (o : Elf) → IsObject b o → AreBytes b → 0 < length secs → CanInsert o secs → locals o ≤ length o.symbols
locals_few b secs o ok bytes some can =
    subst (λ (y : Elf). CanInsert y secs → locals y ≤ length y.symbols) (sym ok.says)
    (λ c. (let x = base b secs ok.well_formed bytes some c in
    let s = x.1.symbols in
    let high = s.high in
    omega (arith, locals_are b x.0 s, length-symbols b)))
    can

inserted : (b : List ℕ) (o : Elf) (secs : List ℕ) → IsObject b o → AreBytes b → CanInsert o secs
    → IsObject (symbols_inserted o secs) (object_with_symbols o secs)
inserted b o [] ok bytes can = subst (λ (x : List ℕ). IsObject x o) (same_bytes b o ok) ok
inserted b o (s ∷ secs) ok bytes can = inserted-is_object b o (s ∷ secs) ok bytes (omega arith) can

names : (b : List ℕ) (o : Elf) (secs : List ℕ) → IsObject b o → AreBytes b → CanInsert o secs → NamesSame o secs (object_with_symbols o secs)
names b o [] ok bytes can = names-none o
names b o (s ∷ secs) ok bytes can = names-some o (s ∷ secs) (locals_few b (s ∷ secs) o ok bytes (omega arith) can)

pub added : (b : List ℕ) (o : Elf) (secs : List ℕ) (new : List NewEntry) → AreBytes b → IsObject b o → CanInsert o secs → CanAdd (object_with_symbols o secs) new
    → IsAdded o secs new (appended_to (object_with_symbols o secs) new)
added b o secs new bytes ok can add = record {
  layout = refl;
  object = appended-is_object (symbols_inserted o secs) (object_with_symbols o secs) new (inserted b o secs ok bytes can) add;
  same = names b o secs ok bytes can;
}

-- what is read of one file is one object
pub same_object : (b : List ℕ) (o p : Elf) → IsObject b o → IsObject b p → o ≡ p
same_object b o p ok also = ok.says ∙ sym also.says
