-- The header fields of all sections have room for their numbers.
use Rattle.std.proofs.Common.{◌≡◌, ℕ, ◌+◌, ◌-◌, ◌^◌, ◌<◌, ◌≤◌, Bool, true, false, not, List, [], ◌∷◌, ◌++◌, length, map, refl, ap, ◌∙◌, arith, length-append}
use Rattle.std.specs.Prelude.{All, filter, if◌then◌else◌}
use Rattle.std.proofs.lemmas.List.{length-map}
use Rattle.std.proofs.lemmas.List.Elements.{All-append, All-map}
use Rattle.std.proofs.lemmas.List.Filters.{length-filter_both}
use Rattle.elf_write.specs.Added.{HasFields}
use Rattle.elf_write.specs.Layout.{NewEntry}
use Rattle.demo_objects.specs.CanMake.{CanLayOut}
use Rattle.demo_objects.specs.Layout.{names_entry}
use Rattle.demo_objects.specs.Made.{all_sections, has_relocs, indices_entry, is_local, needs_indices, rela_entry, strings_entry, strings_number, symbol_tables, symbols_entry, symbols_number, targets}
use Rattle.demo_objects.specs.Spec.{NewSymbol, Spec}
use Rattle.demo_objects.proofs.Can.{front_part, given_part, room}
use Rattle.demo_objects.proofs.Items.{all-only}
use Rattle.demo_objects.proofs.Targets.{targets-known}

-- the numbers of the tables are those of sections
pub numbers : (s : Spec) → (symbols_number s + 1 < length (all_sections s)) × (strings_number s < length (all_sections s))
numbers s =
    let t = by (needs_indices s.symbols) in
    let g : length (given_part s) ≡ length s.sections + length (targets s) = length-append s.sections (map (rela_entry s) (targets s)) ∙ ap (λ (n : ℕ). length s.sections + n) (length-map (targets s) (rela_entry s)) in
    let a = length-append (given_part s) (symbol_tables s) in
    let b = length-append (front_part s) (strings_entry s ∷ []) in
    let c = length-append (front_part s ++ strings_entry s ∷ []) (names_entry (front_part s ++ strings_entry s ∷ []) ∷ []) in
    (omega arith, omega arith)
  where
    by : (b : Bool) → ((if b then 2 else 1) ≡ length (if b then symbols_entry s ∷ indices_entry s ∷ [] else symbols_entry s ∷ [])) × (1 ≤ (if b then 2 else 1))
    by true = (refl, omega arith)
    by false = (refl, omega arith)

few-local : (xs : List NewSymbol) → length (filter is_local xs) ≤ length xs
few-local xs = let b = length-filter_both is_local (λ x. not (is_local x)) (λ x. refl) xs in omega arith

rela-fields : (s : Spec) → symbols_number s < 2 ^ 32 → length s.sections < 2 ^ 32 → (sec : ℕ) → (1 ≤ sec) × (sec ≤ length s.sections) → HasFields (rela_entry s sec)
rela-fields s l n sec known = record { kind = omega arith; flags = omega arith; link = l; info = omega (arith, known.1); align = omega arith; entsize = omega arith }

symbols-fields : (s : Spec) → strings_number s < 2 ^ 32 → length s.symbols < 2 ^ 32 - 1 → HasFields (symbols_entry s)
symbols-fields s l n =
    let f = few-local s.symbols in
    record { kind = omega arith; flags = omega arith; link = l; info = omega arith; align = omega arith; entsize = omega arith }

indices-fields : (s : Spec) → symbols_number s < 2 ^ 32 → HasFields (indices_entry s)
indices-fields s l = record { kind = omega arith; flags = omega arith; link = l; info = omega arith; align = omega arith; entsize = omega arith }

strings-fields : (s : Spec) → HasFields (strings_entry s)
strings-fields s = record { kind = omega arith; flags = omega arith; link = omega arith; info = omega arith; align = omega arith; entsize = omega arith }

names-fields : (es : List NewEntry) → HasFields (names_entry es)
names-fields es = record { kind = omega arith; flags = omega arith; link = omega arith; info = omega arith; align = omega arith; entsize = omega arith }

tables-fields : (s : Spec) → HasFields (symbols_entry s) → HasFields (indices_entry s) → All HasFields (symbol_tables s)
tables-fields s p q = by (needs_indices s.symbols)
  where
    by : (b : Bool) → All HasFields (if b then symbols_entry s ∷ indices_entry s ∷ [] else symbols_entry s ∷ [])
    by true = All-append HasFields (symbols_entry s ∷ []) (indices_entry s ∷ []) (all-only HasFields (symbols_entry s) p) (all-only HasFields (indices_entry s) q)
    by false = all-only HasFields (symbols_entry s) p

all-mapped : {X : Type 0} (P : X → Type 0) (Q : NewEntry → Type 0) (f : X → NewEntry) (xs : List X) → All P xs → ((x : X) → P x → Q (f x)) → All Q (map f xs)
all-mapped P Q f xs ok each = All-map Q f xs (λ k d h. each _ (ok k d h))

pub all-fields : (s : Spec) → CanLayOut s → All HasFields (all_sections s)
all-fields s can =
    let n = numbers s in
    let few = can.few in
    let r = room s can in
    let g = r.symbols in
    let known = targets-known (has_relocs s.relocs) (length s.sections) in
    let given : length s.sections ≤ symbols_number s = omega arith in
    let l = n.0 in
    let m = n.1 in
    All-append HasFields (front_part s ++ strings_entry s ∷ []) (names_entry (front_part s ++ strings_entry s ∷ []) ∷ [])
    (All-append HasFields (front_part s) (strings_entry s ∷ [])
    (All-append HasFields (given_part s) (symbol_tables s)
    (All-append HasFields s.sections (map (rela_entry s) (targets s))
    can.numbers.sections
    (all-mapped (λ (sec : ℕ). (1 ≤ sec) × (sec ≤ length s.sections)) HasFields (rela_entry s) (targets s) known (λ sec. rela-fields s (omega arith) (omega arith) sec)))
    (tables-fields s (symbols-fields s (omega arith) g) (indices-fields s (omega arith))))
    (all-only HasFields (strings_entry s) (strings-fields s)))
    (all-only HasFields (names_entry (front_part s ++ strings_entry s ∷ [])) (names-fields (front_part s ++ strings_entry s ∷ [])))
