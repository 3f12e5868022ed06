-- What can be made has room in memory and in the numbers of the format.
use Rattle.std.proofs.Common.{◌≡◌, ℕ, zero, suc, ◌+◌, ◌-◌, ◌*◌, ◌^◌, ◌<◌, ◌≤◌, Bool, true, false, List, [], ◌∷◌, ◌++◌, length, map, replicate, refl, ap, subst, ◌∙◌, arith, length-append}
use Rattle.std.specs.Prelude.{All, codes, not, if◌then◌else◌}
use Rattle.std.specs.List.{range_with_len}
use Rattle.std.proofs.lemmas.Grind.{flat_map-append}
use Rattle.std.proofs.lemmas.List.{append_assoc, length-map}
use Rattle.std.proofs.lemmas.List.Filters.{length-filter_both}
use Rattle.std.proofs.lemmas.List.FromFn.{length-range_with_len}
use Rattle.std.proofs.lemmas.List.Elements.{All-append, All-tail}
use Rattle.elf_write.specs.Layout.{NewEntry, new_names}
use Rattle.elf_write.proofs.Lists.{length-encoded}
use Rattle.demo_objects.specs.CanMake.{CanLayOut, HasNumbers, IsSection}
use Rattle.demo_objects.specs.Checked.{PartsFit, SectionsFit}
use Rattle.demo_objects.specs.Layout.{bodies_end, names_entry, next_multiple}
use Rattle.demo_objects.specs.Made.{all_sections, has_relocs, indices_entry, name_place, name_text, needs_indices, rela_entry, strings_body, strings_entry, symbol_bytes, symbol_tables, symbols_body, symbols_entry, symbols_from, targets}
use Rattle.demo_objects.specs.Spec.{NewSymbol, Spec}
use Rattle.demo_objects.proofs.Sizes.{AreAligned, Fits, fits, le-bodies_end}

-- the parts of the sections
abbrev pub given_part : Spec → List NewEntry
given_part s = s.sections ++ map (rela_entry s) (targets s)

abbrev pub front_part : Spec → List NewEntry
front_part s = given_part s ++ symbol_tables s

all-two : (P : NewEntry → Type 0) (x y : NewEntry) → P x → P y → All P (x ∷ y ∷ [])
all-two P x y p q zero d h = p
all-two P x y p q (suc zero) d h = q
all-two P x y p q (suc (suc k)) d h = absurd (omega arith)

all-one : (P : NewEntry → Type 0) (x : NewEntry) → P x → All P (x ∷ [])
all-one P x p zero d h = p
all-one P x p (suc k) d h = absurd (omega arith)

all-map : {X : Type 0} (P : NewEntry → Type 0) (f : X → NewEntry) (xs : List X) → ((x : X) → P (f x)) → All P (map f xs)
all-map P f [] each k d h = absurd (omega arith)
all-map P f (x ∷ xs) each zero d h = each x
all-map P f (x ∷ xs) each (suc k) d h = all-map P f xs each k d (omega arith)

all-given : (xs : List NewEntry) → All IsSection xs → AreAligned xs
all-given xs ok k d h = (ok k d h).align

tables-aligned : (s : Spec) → AreAligned (symbol_tables s)
tables-aligned s = by (needs_indices s.symbols)
  where
    by : (b : Bool) → AreAligned (if b then symbols_entry s ∷ indices_entry s ∷ [] else symbols_entry s ∷ [])
    by true = all-two (λ e. 1 ≤ e.align) (symbols_entry s) (indices_entry s) (omega arith) (omega arith)
    by false = all-one (λ e. 1 ≤ e.align) (symbols_entry s) (omega arith)

pub all-aligned : (s : Spec) → All IsSection s.sections → AreAligned (all_sections s)
all-aligned s ok =
    let P : NewEntry → Type 0 = λ e. 1 ≤ e.align in
    All-append P (front_part s ++ strings_entry s ∷ []) (names_entry (front_part s ++ strings_entry s ∷ []) ∷ [])
    (All-append P (front_part s) (strings_entry s ∷ [])
    (All-append P (given_part s) (symbol_tables s)
    (All-append P s.sections (map (rela_entry s) (targets s)) (all-given s.sections ok) (all-map P (rela_entry s) (targets s) (λ x. omega arith)))
    (tables-aligned s))
    (all-one P (strings_entry s) (omega arith)))
    (all-one P (names_entry (front_part s ++ strings_entry s ∷ [])) (omega arith))

-- a body lies within what all take
body-in : (at : ℕ) (pre : List NewEntry) (e : NewEntry) (post : List NewEntry) → AreAligned (pre ++ e ∷ post) → length e.body ≤ bodies_end at (pre ++ e ∷ post)
body-in at [] e post ok =
    let l = le-bodies_end (next_multiple e.align at + length e.body) post (All-tail (λ (x : NewEntry). 1 ≤ x.align) e post ok) in
    omega arith
body-in at (x ∷ pre) e post ok = body-in (next_multiple x.align at + length x.body) pre e post (All-tail (λ (y : NewEntry). 1 ≤ y.align) x (pre ++ e ∷ post) ok)

-- the symbol table stands first among its tables
pub tables-first : (s : Spec) → (rest : List NewEntry) × (symbol_tables s ≡ symbols_entry s ∷ rest)
tables-first s = by (needs_indices s.symbols)
  where
    by : (b : Bool) → (rest : List NewEntry) × ((if b then symbols_entry s ∷ indices_entry s ∷ [] else symbols_entry s ∷ []) ≡ symbols_entry s ∷ rest)
    by true = (indices_entry s ∷ [], refl)
    by false = ([], refl)

pub length-symbol_bytes : (name : ℕ) (x : NewSymbol) → length (symbol_bytes name x) ≡ 24
length-symbol_bytes name x = simp (length-append, length-encoded) refl

length-symbols_from : (at : ℕ) (xs : List NewSymbol) → length (symbols_from at xs) ≡ 24 * length xs
length-symbols_from at [] = refl
length-symbols_from at (x ∷ xs) =
    let one = length-symbol_bytes (name_place at x.name) x in
    let ih = length-symbols_from (at + length (name_text x.name)) xs in
    omega (arith, length-append (symbol_bytes (name_place at x.name) x) (symbols_from (at + length (name_text x.name)) xs))

pub length-symbols_body : (xs : List NewSymbol) → length (symbols_body xs) ≡ 24 * (length xs + 1)
length-symbols_body xs = let l = length-symbols_from 1 xs in omega (arith, length-append (replicate 24 0) (symbols_from 1 xs))

-- what the code has to know
pub record Room (s : Spec) : Type 0 where
  pub aligned : AreAligned (all_sections s)
  pub symbols : length s.symbols < 2 ^ 32 - 1
  pub strings : length (strings_body s.symbols) < 2 ^ 32
  pub names : 1 + length (new_names (all_sections s)) < 2 ^ 32

pub room : (s : Spec) → CanLayOut s → Room s
room s can =
    let aligned = all-aligned s can.parts.sections in
    let es : List NewEntry = front_part s ++ strings_entry s ∷ [] in
    let f : Fits (all_sections s) = fits (all_sections s) aligned can.short in
    let first = tables-first s in
    let shape : all_sections s ≡ given_part s ++ symbols_entry s ∷ (first.0 ++ strings_entry s ∷ names_entry es ∷ []) =
    ap (λ (xs : List NewEntry). ((given_part s ++ xs) ++ strings_entry s ∷ []) ++ names_entry es ∷ []) first.1 ∙ simp append_assoc refl in
    let table = body-in 64 (given_part s) (symbols_entry s) (first.0 ++ strings_entry s ∷ names_entry es ∷ []) (subst AreAligned shape aligned) in
    let in_all : bodies_end 64 (all_sections s) ≡ bodies_end 64 (given_part s ++ symbols_entry s ∷ (first.0 ++ strings_entry s ∷ names_entry es ∷ [])) = ap (bodies_end 64) shape in
    let strings_shape : all_sections s ≡ front_part s ++ strings_entry s ∷ names_entry es ∷ [] = append_assoc (front_part s) (strings_entry s ∷ []) (names_entry es ∷ []) in
    let strings = body-in 64 (front_part s) (strings_entry s) (names_entry es ∷ []) (subst AreAligned strings_shape aligned) in
    let strings_all : bodies_end 64 (all_sections s) ≡ bodies_end 64 (front_part s ++ strings_entry s ∷ names_entry es ∷ []) = ap (bodies_end 64) strings_shape in
    let names = body-in 64 es (names_entry es) [] aligned in
    let l = length-symbols_body s.symbols in
    let n : length (new_names (all_sections s)) ≡ length (new_names es ++ (codes ".shstrtab" ++ 0 ∷ [])) =
    ap length (flat_map-append (λ (e : NewEntry). e.name ++ 0 ∷ []) es (names_entry es ∷ [])) in
    let bodies = f.bodies in
    record {
      aligned = aligned;
      symbols = omega arith;
      strings = omega arith;
      names = omega arith;
    }

-- the sections are few where those given are
pub few-sections : (s : Spec) → length s.sections < 262144 → length (all_sections s) < 2 ^ 32 - 1
few-sections s h =
    let given : length (given_part s) ≡ length s.sections + length (targets s) = length-append s.sections (map (rela_entry s) (targets s)) ∙ ap (λ (n : ℕ). length s.sections + n) (length-map (targets s) (rela_entry s)) in
    let most : length (targets s) ≤ length s.sections = few-targets s in
    let tables : length (symbol_tables s) ≤ 2 = few-tables (needs_indices s.symbols) in
    omega (arith, length-append (given_part s) (symbol_tables s), length-append (front_part s) (strings_entry s ∷ []), length-append (front_part s ++ strings_entry s ∷ []) (names_entry (front_part s ++ strings_entry s ∷ []) ∷ []))
  where
    few-targets : (s : Spec) → length (targets s) ≤ length s.sections
    few-targets s =
        let b = length-filter_both (has_relocs s.relocs) (λ x. not (has_relocs s.relocs x)) (λ x. refl) (range_with_len 1 (length s.sections)) in
        let l = length-range_with_len 1 (length s.sections) in
        omega arith

    few-tables : (b : Bool) → length (if b then symbols_entry s ∷ indices_entry s ∷ [] else symbols_entry s ∷ []) ≤ 2
    few-tables true = omega arith
    few-tables false = omega arith

-- the sections given stand among all
pub given-fewer : (s : Spec) → length s.sections ≤ length (all_sections s)
given-fewer s =
    omega (arith, length-append s.sections (map (rela_entry s) (targets s)), length-append (given_part s) (symbol_tables s), length-append (front_part s) (strings_entry s ∷ []), length-append (front_part s ++ strings_entry s ∷ []) (names_entry (front_part s ++ strings_entry s ∷ []) ∷ []))

-- what can be laid out passes the tests of its parts and of its sections, and what passes can be
pub parts-fit : (s : Spec) → CanLayOut s → PartsFit s
parts-fit s can =
    let r = room s can in
    let g = given-fewer s in
    let few = can.few in
    record { few_sections = omega arith; few_symbols = r.symbols; parts = can.parts; strings = r.strings }

pub sections-fit : (s : Spec) → CanLayOut s → SectionsFit (all_sections s) s.symbols
sections-fit s can = record { few = can.few; homes = can.homes; short = can.short }

pub can-lay-out : (s : Spec) → PartsFit s → HasNumbers s → SectionsFit (all_sections s) s.symbols → CanLayOut s
can-lay-out s p n f = record { parts = p.parts; numbers = n; few = f.few; homes = f.homes; short = f.short }
