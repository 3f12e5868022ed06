-- Of the alternatives of an object without a fault each has two relocations of its own.
use Rattle.std.proofs.Common.{◌≡◌, ℕ, ◌+◌, ◌*◌, ◌<◌, ◌≤◌, ◌||◌, Bool, true, false, List, [], length, None, refl, arith}
use Rattle.std.proofs.lemmas.List.{length-map}
use Rattle.std.proofs.lemmas.List.FromFn.{length-map-range_with_len}
use Rattle.elf_objects.specs.Contents.{relocs_at}
use Rattle.elf_objects.specs.Elf.{Elf}
use Rattle.elf_objects.specs.Object.{IsObject}
use Rattle.symbols_relocs.specs.Relocs.{at_offset, is_pointer_kind}
use Rattle.special_sections.specs.Fields.{field_at, lacks_reloc}
use Rattle.special_sections.specs.Kinds.{entries, faults, section_entries}
use Rattle.special_sections.specs.Nested.{nested, with_longest}
use Rattle.special_sections.specs.Special.{special_of}
use Rattle.special_sections.specs.Tables.{alternatives, alternative_why_from, table_count}
use Rattle.special_sections.proofs.Counted.{two_each}
use Rattle.special_sections.proofs.Unfaulted.{HasRoom, few_entries, first_false, not_refused, some_found}

both_false : (x y : Bool) → x || y ≡ false → (x ≡ false) × (y ≡ false)
both_false true y none = cc
both_false false y none = (refl, none)

-- the relocations of both places of each entry are there
has_relocs : (o : Elf) (sec e : ℕ) → alternative_why_from o sec (14 * e) ≡ None → (lacks_reloc o (field_at sec (14 * e)) ≡ false) × (lacks_reloc o (field_at sec (14 * e + 4)) ≡ false)
has_relocs o sec e none = both_false (lacks_reloc o (field_at sec (14 * e))) (lacks_reloc o (field_at sec (14 * e + 4))) (first_false _ _ _ none)

two_places : (o : Elf) → HasRoom (λ n. 48 * n) alternatives o
two_places o sec none =
    let there = λ (e : ℕ) (inside : e < table_count 14 o sec). has_relocs o sec e (not_refused alternatives o sec e none inside) in
    let two : 2 * table_count 14 o sec ≤ length (relocs_at o sec) =
    two_each (relocs_at o sec) (table_count 14 o sec)
    (λ e inside. some_found (λ r. is_pointer_kind r.kind) (at_offset (14 * e) (relocs_at o sec)) (there e inside).0)
    (λ e inside. some_found (λ r. is_pointer_kind r.kind) (at_offset (14 * e + 4) (relocs_at o sec)) (there e inside).1) in
    let many : length (section_entries alternatives o sec) ≡ table_count 14 o sec = length-map-range_with_len (alternatives.entry o sec) 0 (table_count 14 o sec) in
    omega arith

pub alternatives_few : (b : List ℕ) (o : Elf) → IsObject b o → faults alternatives o ≡ [] → 48 * length (special_of o).alternatives ≤ length b
unfolding nested
alternatives_few b o object none =
    let few : 48 * length (entries alternatives o) ≤ length b = few_entries (λ n. 48 * n) (record { none = refl; adds = λ m n. omega arith }) alternatives b o object (two_places o) none in
    omega (arith, few, length-map (entries alternatives o) (with_longest (entries alternatives o)))
