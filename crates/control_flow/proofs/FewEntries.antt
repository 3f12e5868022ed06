-- Each entry of the special sections of an object without a fault in them has a relocation of its own.
use Rattle.std.proofs.Common.{◌≡◌, ℕ, suc, ◌+◌, ◌*◌, ◌^◌, ◌<◌, ◌≤◌, ◌||◌, Bool, true, false, cond, List, [], ◌∷◌, length, filter, Option, Some, None, refl, arith}
use Rattle.std.specs.Option.{option_or}
use Rattle.std.proofs.lemmas.List.FromFn.{length-map-range_with_len}
use Rattle.ot_base.specs.declared.place.Place.{Place}
use Rattle.ot_base.specs.NameLists.{NameLists}
use Rattle.symbols_relocs.specs.NamedCode.{is_in_named_code}
use Rattle.elf_objects.specs.Contents.{relocs_at}
use Rattle.elf_objects.specs.Elf.{Elf}
use Rattle.elf_objects.specs.Object.{IsObject}
use Rattle.symbols_relocs.specs.Relocs.{at_offset, is_pointer_kind}
use Rattle.special_sections.specs.declared.fields.Bound.TheVariants.{BelowEnd}
use Rattle.special_sections.specs.Fields.{field_at, is_text_place, lacks_reloc}
use Rattle.special_sections.specs.Hints as hint
use Rattle.special_sections.specs.Kinds.{EntryKind, entries, faults, section_entries, section_faults}
use Rattle.special_sections.specs.PlaceLists as lists
use Rattle.special_sections.specs.Special.{special_faults, special_of}
use Rattle.special_sections.specs.Tables as tables
use Rattle.special_sections.proofs.Unfaulted.{few_entries, first_false, left_none, not_refused, right_none, some_found}
use Rattle.control_flow.specs.Few.{AreFew}
use Rattle.control_flow.proofs.Counted.{one_each}

left_false : (x y : Bool) → x || y ≡ false → x ≡ false
left_false true y none = cc
left_false false y none = refl

-- a kind whose sections without a fault have no more entries than relocations
abbrev HasOneEach : {A : Type 0} → EntryKind A → Elf → Type 0
HasOneEach kind o = (sec : ℕ) → section_faults kind o sec ≡ [] → length (section_entries kind o sec) ≤ length (relocs_at o sec)

-- where each entry that isn't refused has a relocation at an offset
by_offset : {A : Type 0} (kind : EntryKind A) (o : Elf) (at : ℕ → ℕ) → ((n : ℕ) → at n < at (suc n)) → ((sec e : ℕ) → kind.why o sec e ≡ None → lacks_reloc o (field_at sec (at e)) ≡ false) → HasOneEach kind o
by_offset kind o at rises has sec none =
    let there : (e : ℕ) → e < kind.count o sec → lacks_reloc o (field_at sec (at e)) ≡ false = λ e inside. has sec e (not_refused kind o sec e none inside) in
    let few : kind.count o sec ≤ length (relocs_at o sec) = one_each (relocs_at o sec) at rises (kind.count o sec) (λ e inside. some_found (λ r. is_pointer_kind r.kind) (at_offset (at e) (relocs_at o sec)) (there e inside)) in
    omega (arith, few, length-map-range_with_len (kind.entry o sec) 0 (kind.count o sec))

branches_each : (o : Elf) → HasOneEach tables.branches o
branches_each o = by_offset tables.branches o (λ e. 16 * e) (λ n. omega arith) (λ sec e none. left_false (lacks_reloc o (field_at sec (16 * e))) (lacks_reloc o (field_at sec (16 * e + 4))) (first_false _ _ _ none))

fixes_each : (o : Elf) → HasOneEach tables.fixes o
fixes_each o = by_offset tables.fixes o (λ e. 12 * e) (λ n. omega arith) (λ sec e none. left_false (lacks_reloc o (field_at sec (12 * e))) (lacks_reloc o (field_at sec (12 * e + 4))) (first_false _ _ _ none))

no_reason : {X : Type 0} (one other : Option X) → option_or one other ≡ None → one ≡ None
no_reason None other none = refl
no_reason (Some x) other none = let bad : ⊥ = cc in absurd bad

hints_each : (o : Elf) (loose : Place → Bool) → HasOneEach (hint.hints loose) o
hints_each o loose = by_offset (hint.hints loose) o (λ e. 12 * e) (λ n. omega arith) (λ sec e none. first_false _ _ _ (no_reason _ _ none))

-- a list of places has one for each relocation
list_each : (kind : EntryKind Place) (o : Elf) → ((sec : ℕ) → kind.count o sec ≡ length (relocs_at o sec)) → HasOneEach kind o
list_each kind o count sec none = omega (arith, count sec, length-map-range_with_len (kind.entry o sec) 0 (kind.count o sec))

few_each : {A : Type 0} (kind : EntryKind A) (o : Elf) → IsObject o.bytes o → HasOneEach kind o → faults kind o ≡ [] → 24 * length (entries kind o) ≤ length o.bytes
few_each kind o is each none =
    few_entries (λ n. 24 * n) (record { none = refl; adds = λ m n. omega arith }) kind o.bytes o is (λ sec right. omega (arith, each sec right)) none

all_kept : {A : Type 0} (p : A → Bool) (xs : List A) → length (filter p xs) ≤ length xs
all_kept p [] = omega arith
all_kept p (x ∷ xs) =
    let rest : length (filter p xs) ≤ length xs = all_kept p xs in
    elim (p x) as (λ b. length (cond b (x ∷ filter p xs) (filter p xs)) ≤ suc (length xs)) [ true ↦ omega arith | false ↦ omega arith ]

-- so their numbers have 32 bits
pub numbers_fit : (o : Elf) (names : NameLists) → IsObject o.bytes o → special_faults o names ≡ [] → length o.bytes < 2 ^ 32 → AreFew (special_of o)
numbers_fit o names is none short =
    let loose : Place → Bool = is_in_named_code o names.loose in
    let of_branches = right_none (faults tables.alternatives o) _ none in
    let of_fixes = right_none (faults tables.branches o) _ of_branches in
    let of_hints = right_none (faults tables.fixes o) _ of_fixes in
    let of_reachable = right_none (faults (hint.hints loose) o) _ of_hints in
    let of_unreachable = right_none (faults lists.after_reachable o) _ of_reachable in
    let of_unchecked = right_none (faults lists.after_unreachable o) _ of_unreachable in
    let of_safe = right_none (faults lists.unchecked o) _ of_unchecked in
    let of_intra = right_none (faults lists.safe_branches o) (faults lists.intra_calls o) of_safe in
    let listed : (kind : EntryKind Place) → ((sec : ℕ) → kind.count o sec ≡ length (relocs_at o sec)) → faults kind o ≡ [] → length (entries kind o) < 2 ^ 32 = λ kind count right. omega (arith, short, few_each kind o is (list_each kind o count) right) in
    record {
      branches = omega (arith, short, few_each tables.branches o is (branches_each o) (left_none (faults tables.branches o) _ of_branches));
      fixes = omega (arith, short, few_each tables.fixes o is (fixes_each o) (left_none (faults tables.fixes o) _ of_fixes));
      hints = omega (arith, short, few_each (hint.hints loose) o is (hints_each o loose) (left_none (faults (hint.hints loose) o) _ of_hints));
      after_reachable = listed lists.after_reachable (λ sec. refl) (left_none (faults lists.after_reachable o) _ of_reachable);
      after_unreachable = listed lists.after_unreachable (λ sec. refl) (left_none (faults lists.after_unreachable o) _ of_unreachable);
      unchecked = omega (arith, all_kept (is_text_place o BelowEnd) (entries lists.unchecked o), listed lists.unchecked (λ sec. refl) (left_none (faults lists.unchecked o) _ of_unchecked));
      safe_branches = listed lists.safe_branches (λ sec. refl) (left_none (faults lists.safe_branches o) _ of_safe);
      intra_calls = listed lists.intra_calls (λ sec. refl) of_intra;
    }

-- of static branches there are no more than bytes
pub branches_fit : (o : Elf) (names : NameLists) → IsObject o.bytes o → special_faults o names ≡ [] → length (special_of o).branches ≤ length o.bytes
branches_fit o names is none =
    omega (arith, few_each tables.branches o is (branches_each o) (left_none (faults tables.branches o) _ (right_none (faults tables.alternatives o) _ none)))
