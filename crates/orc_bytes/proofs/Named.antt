-- The first section with a name.
use Rattle.std.proofs.Common.{◌≡◌, ◌≢◌, ℕ, ◌<◌, ◌≤◌, Bool, true, false, cond, List, [], length, map, get_or, Option, Some, None, sym, ◌∙◌, ap, subst, inl, inr, arith}
use Rattle.std.proofs.lemmas.Bool.{cases_Bool, ltb-true, lt-ltb}
use Rattle.std.proofs.lemmas.List.Sums.{position_or_len_is}
use Rattle.std.proofs.lemmas.Slice.Eq.{bytes_eq-Decides}
use Rattle.std.specs.Prelude.{bytes_eq, nat_lt, option_and_then, option_map, slice_get, codes}
use Rattle.std.specs.List.{position_or_len, range_with_len}
use Rattle.std.proofs.lemmas.Option.{slice_get-get_or}
use Rattle.std.proofs.lemmas.List.{length-map}
use Rattle.elf_objects.specs.File.{section_count}
use Rattle.elf_objects.specs.Object.{IsObject}
use Rattle.elf_objects.specs.Elf.{Elf, SectionEntry}
use Rattle.elf_objects.specs.Contents.{section_at, no_section, relocs_at, relocs_of, section_entry}
use Rattle.orc_bytes.specs.Sections.{section_named, body_named, relocs_named}
use Rattle.orc_bytes.specs.Faults.{HasParts}

differs : (xs ys : List ℕ) → xs ≢ ys → bytes_eq xs ys ≡ false
differs xs ys apart = elim (cases_Bool (bytes_eq xs ys)) [
  | inl same ↦ absurd (apart ((bytes_eq-Decides xs ys).0 same))
  | inr other ↦ other
]

has_name : List ℕ → SectionEntry → Bool
has_name name section = bytes_eq section.name name

-- a section has the name, and none before it
pub named_at : (o : Elf) (name : List ℕ) (i : ℕ) → i < length o.sections → (section_at o i).name ≡ name → ((k : ℕ) → k < i → (section_at o k).name ≢ name) → section_named o name ≡ Some i
unfolding has_name
named_at o name i inside is before =
    let at : position_or_len (has_name name) o.sections ≡ i = position_or_len_is (has_name name) o.sections i no_section (omega arith) (λ k h. differs _ name (before k h)) (λ _. (bytes_eq-Decides _ name).1 is) in
    ap (λ (n : ℕ). cond (nat_lt n (length o.sections)) (Some n) None) at
    ∙ ap (λ (b : Bool). cond b (Some i) None) (lt-ltb i (length o.sections) inside)

-- none has it
pub named_nowhere : (o : Elf) (name : List ℕ) → ((k : ℕ) → k < length o.sections → (section_at o k).name ≢ name) → section_named o name ≡ None
unfolding has_name
named_nowhere o name none =
    let at : position_or_len (has_name name) o.sections ≡ length o.sections = position_or_len_is (has_name name) o.sections (length o.sections) no_section (omega arith) (λ k h. differs _ name (none k h)) (λ h. absurd (omega arith)) in
    ap (λ (n : ℕ). cond (nat_lt n (length o.sections)) (Some n) None) at
    ∙ ap (λ (b : Bool). cond b (Some (length o.sections)) None) (past (length o.sections))
  where
    past : (n : ℕ) → nat_lt n n ≡ false
    past n = elim (cases_Bool (nat_lt n n)) [
      | inl less ↦ absurd (let h = ltb-true n n less in omega arith)
      | inr not_less ↦ not_less
    ]

-- its body
pub body_at : (o : Elf) (name : List ℕ) (i : ℕ) → section_named o name ≡ Some i → i < length o.sections → body_named o name ≡ Some (section_at o i).body
body_at o name i named inside =
    ap (option_and_then (λ k. option_map (λ section. section.body) (slice_get o.sections k))) named
    ∙ ap (option_map (λ (section : SectionEntry). section.body)) (slice_get-get_or o.sections i no_section inside)

-- its relocations
pub relocs_at_named : (o : Elf) (name : List ℕ) (i : ℕ) → section_named o name ≡ Some i → i < length o.relocs → relocs_named o name ≡ Some (relocs_at o i)
relocs_at_named o name i named inside =
    ap (option_and_then (λ k. slice_get o.relocs k)) named
    ∙ slice_get-get_or o.relocs i [] inside

-- each section has a list of relocations
pub relocs_for_each : (b : List ℕ) (o : Elf) → IsObject b o → length o.relocs ≡ length o.sections
relocs_for_each b o is =
    ap (λ (x : Elf). length x.relocs) is.says
    ∙ length-map (range_with_len 0 (section_count b)) (relocs_of b)
    ∙ sym (length-map (range_with_len 0 (section_count b)) (section_entry b))
    ∙ sym (ap (λ (x : Elf). length x.sections) is.says)

-- what the two sections say, where they are there
pub has_parts : (o : Elf) (t i : ℕ) (table ips : List ℕ)
    → Some t ≡ section_named o (codes ".orc_unwind") → t < length o.sections
    → Some i ≡ section_named o (codes ".orc_unwind_ip") → i < length o.sections → i < length o.relocs
    → table ≡ (section_at o t).body → ips ≡ (section_at o i).body
    → HasParts o (record { table = table; ips = ips; relocs = relocs_at o i })
has_parts o t i table ips t_is t_in i_is i_in i_related table_is ips_are = record {
  table = body_at o (codes ".orc_unwind") t (sym t_is) t_in ∙ ap (λ xs. Some xs) (sym table_is);
  ips = body_at o (codes ".orc_unwind_ip") i (sym i_is) i_in ∙ ap (λ xs. Some xs) (sym ips_are);
  relocs = relocs_at_named o (codes ".orc_unwind_ip") i (sym i_is) i_related;
}
