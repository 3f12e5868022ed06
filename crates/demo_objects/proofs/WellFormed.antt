-- What is made is a well-formed object.
use Rattle.std.proofs.Common.{◌≡◌, ◌≢◌, inl, inr, ℕ, zero, suc, ◌+◌, ◌^◌, ◌<◌, ◌≤◌, List, [], ◌∷◌, ◌++◌, length, refl, sym, ap, subst, ◌∙◌, arith, length-append}
use Rattle.std.specs.Prelude.{◌↔◌}
use Rattle.std.proofs.lemmas.Bool.{cases_lt}
use Rattle.std.proofs.lemmas.Bool.Decides.{nat_tests}
use Rattle.std.proofs.lemmas.List.{get_or_at}
use Rattle.std.proofs.lemmas.List.Concat.{flat_map-append}
use Rattle.elf_objects.specs.File.{HasTable, section_count, section_header}
use Rattle.elf_objects.specs.Object.{IsWellFormed}
use Rattle.elf_objects.specs.Sections.{HasBody, HasName, IsInside, IsPlaced}
use Rattle.elf_objects.specs.Table.{name_header}
use Rattle.elf_objects.specs.declared.header.SectionHeader.{SectionHeader}
use Rattle.elf_write.specs.Layout.{NewEntry, header_for, new_names}
use Rattle.elf_write.proofs.Strings.{name-inside}
use Rattle.demo_objects.specs.CanMake.{CanLayOut, CanMake}
use Rattle.demo_objects.specs.Layout.{names_entry, short_index, with_names}
use Rattle.demo_objects.specs.Made.{all_sections, made, no_entry, strings_entry}
use Rattle.demo_objects.specs.Spec.{Spec}
use Rattle.demo_objects.proofs.Can.{front_part, room}
use Rattle.demo_objects.proofs.Fields.{all-fields}
use Rattle.demo_objects.proofs.Placed.{entry_at, name_at, place_at}
use Rattle.demo_objects.proofs.ReadBack.{HasSpace, Reads, reads}

pub space : (s : Spec) → CanLayOut s → HasSpace (all_sections s)
space s can =
    let r = room s can in
    record { aligned = r.aligned; fields = all-fields s can; few = can.few; short = can.short; names = r.names }

-- The section header table can be read.

short-index-plain : (n : ℕ) → n < 2 ^ 32 → 0xFF00 ≤ short_index n → short_index n ≡ 0xFFFF
short-index-plain n h low = grind (arith, nat_tests)

has-table : (es : List NewEntry) (b : List ℕ) → Reads es b → 1 ≤ length es → length es < 262144 → HasTable b
has-table es b o some few =
    let low = o.behind 0 some in
    let in_file = o.inside 0 some in
    let end = o.end in
    let at = o.headers in
    let count = o.count in
    let table = o.table in
    record {
      file_header = omega arith;
      target = o.target;
      first_header = record { named = λ _. omega arith; inside = λ _. omega arith };
      counts = record {
        some = omega arith;
        plain = λ high. o.index ∙ short-index-plain (length es) (omega arith) (subst (λ (n : ℕ). 0xFF00 ≤ n) o.index high);
        names = omega arith;
      };
      few = omega arith;
      headers = omega arith;
    }

-- Bodies lie in the file, and no two share a byte.

abbrev header_k : List NewEntry → ℕ → SectionHeader
header_k es k = header_for (name_at es k) (place_at es k) (entry_at es k)

apart-bodies : (es : List NewEntry) (b : List ℕ) → Reads es b → (i j x : ℕ) → i < length es + 1 → j < length es + 1 → j ≢ i
    → IsInside x (section_header b i) → IsInside x (section_header b j) → ⊥
apart-bodies es b o zero j x h g ne p q =
    let p' = subst (IsInside x) o.first p in
    absurd (let t = p'.0 in cc)
apart-bodies es b o (suc i) zero x h g ne p q =
    let q' = subst (IsInside x) o.first q in
    absurd (let t = q'.0 in cc)
apart-bodies es b o (suc i) (suc j) x h g ne p q =
    let p' = subst (IsInside x) (o.others i (omega arith)) p in
    let q' = subst (IsInside x) (o.others j (omega arith)) q in
    let a = p'.1 in
    let c = p'.2 in
    let d = q'.1 in
    let f = q'.2 in
    elim (cases_lt i j) [
      | inl lower ↦ let l = o.apart i j lower (omega arith) in omega arith
      | inr upper ↦
          let other : i ≢ j = λ same. ne (omega arith) in
          let l = o.apart j i (omega arith) (omega arith) in
          omega arith
    ]

placed : (es : List NewEntry) (b : List ℕ) → Reads es b → (i : ℕ) → i < length es + 1 → IsPlaced (length b) (section_header b i)
placed es b o zero h = subst (IsPlaced (length b)) (sym o.first) (record { inside = λ t. absurd cc; behind = λ t. absurd cc })
placed es b o (suc k) h =
    let low = o.behind k (omega arith) in
    let high = o.inside k (omega arith) in
    let end = o.end in
    subst (IsPlaced (length b)) (sym (o.others k (omega arith))) (record { inside = λ _. omega arith; behind = λ _ _. omega arith })

has-body : (es : List NewEntry) (b : List ℕ) → Reads es b → (i : ℕ) → i < section_count b → HasBody b i
has-body es b o i h =
    let count = o.count in
    record {
      null = λ e. ap (λ (n : ℕ). (section_header b n).kind) e ∙ ap (λ (g : SectionHeader). g.kind) o.first;
      placed = placed es b o i (omega arith);
      alone = λ _. record { apart = λ k g ne shared. apart-bodies es b o i k shared.0 (omega arith) (omega arith) ne shared.1 shared.2 };
    }

-- The names of sections are in their table, which is the last section.

pub names-body : (init : List NewEntry) → (0 ∷ []) ++ new_names (with_names init) ≡ (names_entry init).body
names-body init = ap (λ (r : List ℕ). 0 ∷ r) (flat_map-append (λ (e : NewEntry). e.name ++ 0 ∷ []) init (names_entry init ∷ []))

pub last-entry : (init : List NewEntry) → entry_at (with_names init) (length init) ≡ names_entry init
last-entry init = get_or_at init (names_entry init) [] no_entry (length init) refl

pub name-header : (init : List NewEntry) (b : List ℕ) → Reads (with_names init) b
    → name_header b ≡ header_for (name_at (with_names init) (length init)) (place_at (with_names init) (length init)) (names_entry init)
name-header init b o =
    let l : length (with_names init) ≡ suc (length init) = omega (arith, length-append init (names_entry init ∷ [])) in
    ap (section_header b) (o.table ∙ l)
    ∙ o.others (length init) (omega arith)
    ∙ ap (λ (e : NewEntry). header_for (name_at (with_names init) (length init)) (place_at (with_names init) (length init)) e) (last-entry init)

has-name : (init : List NewEntry) (b : List ℕ) → Reads (with_names init) b → (i : ℕ) → i < length (with_names init) + 1 → HasName b i
has-name init b o zero h =
    let z : (section_header b 0).name ≡ 0 = ap (λ (g : SectionHeader). g.name) o.first in
    let n : (name_header b).size ≡ length (names_entry init).body = ap (λ (g : SectionHeader). g.size) (name-header init b o) in
    omega arith
has-name init b o (suc k) h =
    let es : List NewEntry = with_names init in
    let z : (section_header b (suc k)).name ≡ name_at es k = ap (λ (g : SectionHeader). g.name) (o.others k (omega arith)) in
    let n : (name_header b).size ≡ length (names_entry init).body = ap (λ (g : SectionHeader). g.size) (name-header init b o) in
    let m = ap length (names-body init) in
    let i = name-inside (0 ∷ []) es k no_entry (omega arith) in
    omega arith

pub well-formed : (s : Spec) → CanMake s → IsWellFormed (made s)
well-formed s can =
    let init : List NewEntry = front_part s ++ strings_entry s ∷ [] in
    let es : List NewEntry = all_sections s in
    let o = reads es (space s can.laid_out) in
    let l = length-append init (names_entry init ∷ []) in
    let few = can.laid_out.few in
    let count = o.count in
    record {
      table = has-table es (made s) o (omega arith) few;
      bodies = λ i h. has-body es (made s) o i h;
      forms = can.forms;
      links = can.links;
      names = λ i h. has-name init (made s) o i (omega arith);
      few_symbols = can.few_symbols;
      symbols = can.all_symbols;
      relocs = can.all_relocs;
      little_text = can.little_text;
    }

-- so an object can be made exactly where the parts can be laid out and what comes of it is well-formed
pub can-make : (s : Spec) → (CanLayOut s × IsWellFormed (made s)) ↔ CanMake s
can-make s = (
  λ both. record {
    laid_out = both.0;
    forms = both.1.forms;
    links = both.1.links;
    few_symbols = both.1.few_symbols;
    all_symbols = both.1.symbols;
    all_relocs = both.1.relocs;
    little_text = both.1.little_text;
  },
  λ can. (can.laid_out, well-formed s can),
)
