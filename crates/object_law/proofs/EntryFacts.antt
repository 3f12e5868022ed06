-- What is known of the alternatives of an object in order.
use Rattle.std.proofs.Common.{◌≡◌, ℕ, zero, suc, ◌+◌, ◌*◌, ◌<◌, ◌≤◌, Bool, true, false, not, ◌&&◌, ◌||◌, cond, List, [], ◌∷◌, Some, None, length, Contains, refl, sym, ap, ◌∙◌, arith, inl, inr}
use Rattle.std.specs.Prelude.{nat_lt, ◌==◌}
use Rattle.std.specs.List.{range_with_len}
use Rattle.std.proofs.lemmas.Bool.{cases_lt, false≢true, ltb-false, ne_eqb, not_from_false, or_parts}
use Rattle.std.proofs.lemmas.List.{get_or_past}
use Rattle.std.proofs.lemmas.List.Elements.{Contains-get_or}
use Rattle.elf_objects.specs.Elf.{Elf}
use Rattle.ot_base.specs.NameLists.{NameLists}
use Rattle.flow_defs.specs.Coded.{Coded}
use Rattle.special_sections.specs.declared.entries.AltEntry.{AltEntry}
use Rattle.special_sections.specs.declared.fault.Why.TheVariants.{Length, NoReloc, NotText}
use Rattle.special_sections.specs.declared.fields.Bound.TheVariants.{BelowEnd}
use Rattle.special_sections.specs.Fields.{field_at, holds_text_place, lacks_reloc, leaves_section, table_why}
use Rattle.special_sections.specs.Kinds.{entries, entry_faults, faults, section_entries, section_faults, sections_named}
use Rattle.special_sections.specs.Reasons.{fault_at, first_reason}
use Rattle.special_sections.specs.Special.{special_faults}
use Rattle.special_sections.specs.Tables as tables
use Rattle.special_sections.proofs.Written.{nested_from}
use Rattle.alternatives.specs.declared.fault.SiteWhy.TheVariants.{NotBoundary, Overlap, Replacement}
use Rattle.alternatives.specs.Faults.{why_of}
use Rattle.alternatives.specs.Originals.{counts, entry_at, no_entry, overlaps_earlier}
use Rattle.alternatives.specs.Texts.{behind, is_cut, is_whole}
use Rattle.unwinding_law.proofs.Lists.{from_flat_map}
use Rattle.flow_defs.specs.Code.{alternatives_of, texts_of}
use Rattle.object_law.specs.Flows.{ObjectIsInOrder}
use Rattle.object_law.proofs.Bodies.{IsCutIn, cut_in}
use Rattle.object_law.proofs.HintStates.{each_none, entries_none, fault_none, parts_none, reason_none}
use Rattle.object_law.proofs.Levels.{and_false, and_true}
use Rattle.object_law.proofs.Owners.{from_map}

-- an entry that counts is one of the object
pub counted_inside : (entries : List AltEntry) (k : ℕ) → counts (entry_at entries k) ≡ true → k < length entries
counted_inside entries k counting = elim (cases_lt k (length entries)) [
  | inl inside ↦ inside
  | inr beyond ↦ absurd (false≢true (ap counts (sym (get_or_past entries k no_entry (omega (arith, beyond)))) ∙ counting))
]

-- no alternative has a fault as it is written
record IsRight (o : Elf) (a : AltEntry) : Type 0 where
  sec : ℕ
  entry : ℕ
  is : tables.alternative_from o sec (14 * entry) ≡ a
  right : tables.alternative_why_from o sec (14 * entry) ≡ None

right_entry : (o : Coded) (lists : NameLists) (a : AltEntry) → special_faults o.elf lists ≡ [] → Contains (entries tables.alternatives o.elf) a → IsRight o.elf a
right_entry o lists a none c =
    let of_alternatives : faults tables.alternatives o.elf ≡ [] = (parts_none (faults tables.alternatives o.elf) _ none).0 in
    let sec = from_flat_map (section_entries tables.alternatives o.elf) (sections_named o.elf tables.alternatives.name) a c in
    let of_section = each_none (section_faults tables.alternatives o.elf) (sections_named o.elf tables.alternatives.name) sec.0 of_alternatives sec.1 in
    let of_entries = entries_none sec.0 (table_why 14 o.elf sec.0) (entry_faults tables.alternatives o.elf sec.0) of_section in
    let one = from_map (λ e. tables.alternative_from o.elf sec.0 (14 * e)) (range_with_len 0 (tables.table_count 14 o.elf sec.0)) a sec.2 in
    let why = each_none (λ e. fault_at sec.0 e (tables.alternative_why_from o.elf sec.0 (14 * e))) (range_with_len 0 (tables.table_count 14 o.elf sec.0)) one.0 of_entries one.1 in
    record { sec = sec.0; entry = one.0; is = one.2; right = fault_none sec.0 one.0 _ why }

third : (a b c : Bool) → first_reason ((a, NoReloc) ∷ (b, NotText) ∷ (c, Length) ∷ []) ≡ None → c ≡ false
third false false c h = (reason_none c Length [] h).0
third true b c h = absurd (let k : ⊥ = cc in k)
third false true c h = absurd (let k : ⊥ = cc in k)

-- so no replacement is longer than an original that has a byte
length_right : (o : Elf) (a : AltEntry) → IsRight o a → tables.is_too_long o a ≡ false
length_right o a entry =
    let original = field_at entry.sec (14 * entry.entry) in
    let replacement = field_at entry.sec (14 * entry.entry + 4) in
    let own = tables.alternative_from o entry.sec (14 * entry.entry) in
    ap (tables.is_too_long o) (sym entry.is)
    ∙ third (lacks_reloc o original || lacks_reloc o replacement) (not (holds_text_place o BelowEnd original && holds_text_place o (tables.replacement_bound own) replacement)) (tables.is_too_long o own) entry.right

short_enough : (o : Elf) (a : AltEntry) → counts a ≡ true → tables.is_too_long o a ≡ false → a.replacement_len ≤ a.original_len
short_enough o a counting right =
    let first = or_parts ((not (a.original_len == 0) && nat_lt a.original_len a.replacement_len) || leaves_section o a.original a.original_len) (leaves_section o a.replacement a.replacement_len) right in
    let own = or_parts (not (a.original_len == 0) && nat_lt a.original_len a.replacement_len) (leaves_section o a.original a.original_len) first.0 in
    let less = and_false (not (a.original_len == 0)) (nat_lt a.original_len a.replacement_len) counting own.0 in
    ltb-false a.original_len a.replacement_len less

-- one counts where its original as it is written has a byte
own_counts : (own len : ℕ) → (own ≡ 0 → len ≡ 0) → not (len == 0) ≡ true → not (own == 0) ≡ true
own_counts zero len none counting = absurd (false≢true (ap (λ n. not (n == 0)) (sym (none refl)) ∙ counting))
own_counts (suc own) len none counting = not_from_false (suc own == 0) (ne_eqb (suc own) 0 (λ e. omega (arith, e)))

-- and it is no longer by the longest original at its place
nested_short : (o : Coded) (lists : NameLists) (a : AltEntry) → special_faults o.elf lists ≡ [] → Contains (alternatives_of o) a → counts a ≡ true → a.replacement_len ≤ a.original_len
nested_short o lists a none c counting =
    let from = nested_from (entries tables.alternatives o.elf) a c in
    let own = from.own in
    let short = short_enough o.elf own (own_counts own.original_len a.original_len from.none counting) (length_right o.elf own (right_entry o lists own none from.written)) in
    let same : a.replacement_len ≡ own.replacement_len = ap (λ (e : AltEntry). e.replacement_len) from.same in
    omega (arith, same, short, from.no_less)

-- an alternative that counts: its original and its replacement begin and end at cuts
pub record IsEntryOf (o : Coded) (a : AltEntry) : Type 0 where
  pub original : IsCutIn o a.original
  pub original_end : IsCutIn o (behind a.original a.original_len)
  pub replacement : IsCutIn o a.replacement
  pub replacement_end : IsCutIn o (behind a.replacement a.replacement_len)
  pub short : a.replacement_len ≤ a.original_len

-- what an entry that isn't refused has
pub record IsUnrefused (o : Coded) (entries : List AltEntry) (k : ℕ) : Type 0 where
  pub original : is_whole (texts_of o) (entry_at entries k).original (entry_at entries k).original_len ≡ true
  pub apart : overlaps_earlier entries k ≡ false
  pub replacement : is_whole (texts_of o) (entry_at entries k).replacement (entry_at entries k).replacement_len ≡ true

pub unrefused : (o : Coded) (entries : List AltEntry) (k : ℕ) → counts (entry_at entries k) ≡ true → why_of (texts_of o) entries k ≡ None → IsUnrefused o entries k
unrefused o entries k counting why = by_count (counts (entry_at entries k)) counting why
  where
    by_replacement : (b : Bool) → is_whole (texts_of o) (entry_at entries k).original (entry_at entries k).original_len ≡ true → overlaps_earlier entries k ≡ false
        → is_whole (texts_of o) (entry_at entries k).replacement (entry_at entries k).replacement_len ≡ b
        → cond (not b) (Some Replacement) None ≡ None → IsUnrefused o entries k
    by_replacement true whole apart e h = record { original = whole; apart = apart; replacement = e }
    by_replacement false whole apart e h = absurd (let z : ⊥ = cc in z)

    by_overlap : (b : Bool) → is_whole (texts_of o) (entry_at entries k).original (entry_at entries k).original_len ≡ true → overlaps_earlier entries k ≡ b
        → cond b (Some Overlap) (cond (not (is_whole (texts_of o) (entry_at entries k).replacement (entry_at entries k).replacement_len)) (Some Replacement) None) ≡ None → IsUnrefused o entries k
    by_overlap true whole e h = absurd (let z : ⊥ = cc in z)
    by_overlap false whole e h = by_replacement (is_whole (texts_of o) (entry_at entries k).replacement (entry_at entries k).replacement_len) whole e refl h

    by_original : (b : Bool) → is_whole (texts_of o) (entry_at entries k).original (entry_at entries k).original_len ≡ b
        → cond (not b) (Some NotBoundary) (cond (overlaps_earlier entries k) (Some Overlap) (cond (not (is_whole (texts_of o) (entry_at entries k).replacement (entry_at entries k).replacement_len)) (Some Replacement) None)) ≡ None → IsUnrefused o entries k
    by_original true e h = by_overlap (overlaps_earlier entries k) e refl h
    by_original false e h = absurd (let z : ⊥ = cc in z)

    by_count : (b : Bool) → b ≡ true
        → cond (not b) None (cond (not (is_whole (texts_of o) (entry_at entries k).original (entry_at entries k).original_len)) (Some NotBoundary) (cond (overlaps_earlier entries k) (Some Overlap) (cond (not (is_whole (texts_of o) (entry_at entries k).replacement (entry_at entries k).replacement_len)) (Some Replacement) None))) ≡ None → IsUnrefused o entries k
    by_count true e h = by_original (is_whole (texts_of o) (entry_at entries k).original (entry_at entries k).original_len) refl h
    by_count false e h = absurd (false≢true e)

pub entry_is : (o : Coded) (k : ℕ) → ObjectIsInOrder o → counts (entry_at (alternatives_of o) k) ≡ true → IsEntryOf o (entry_at (alternatives_of o) k)
entry_is o k order counting =
    let a = entry_at (alternatives_of o) k in
    let inside = counted_inside (alternatives_of o) k counting in
    let fine = unrefused o (alternatives_of o) k counting (order.sites k inside) in
    let original = and_true (is_cut (texts_of o) a.original) (is_cut (texts_of o) (behind a.original a.original_len)) fine.original in
    let replacement = and_true (is_cut (texts_of o) a.replacement) (is_cut (texts_of o) (behind a.replacement a.replacement_len)) fine.replacement in
    record {
      original = cut_in o a.original order.bytes original.0;
      original_end = cut_in o (behind a.original a.original_len) order.bytes original.1;
      replacement = cut_in o a.replacement order.bytes replacement.0;
      replacement_end = cut_in o (behind a.replacement a.replacement_len) order.bytes replacement.1;
      short = nested_short o order.under a order.special (Contains-get_or (alternatives_of o) k no_entry inside) counting;
    }
