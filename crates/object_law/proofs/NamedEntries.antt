-- Symbols are defined in the sections of the places that the entries of special sections hold.
use Rattle.std.proofs.Common.{◌≡◌, ℕ, ◌+◌, ◌*◌, Bool, true, not, ◌&&◌, ◌||◌, List, [], ◌∷◌, None, Contains, sym, ap, ◌∙◌, subst}
use Rattle.std.specs.Prelude.{nat_lt}
use Rattle.std.specs.List.{range_with_len}
use Rattle.std.proofs.lemmas.Bool.{not-false}
use Rattle.ot_base.specs.declared.place.Place.{Place}
use Rattle.ot_base.specs.NameLists.{NameLists}
use Rattle.elf_objects.specs.Elf.{Elf}
use Rattle.flow_defs.specs.Coded.{Coded}
use Rattle.special_sections.specs.declared.entries.AltEntry.{AltEntry}
use Rattle.special_sections.specs.declared.entries.BranchEntry.{BranchEntry}
use Rattle.special_sections.specs.declared.entries.FixEntry.{FixEntry}
use Rattle.special_sections.specs.declared.entries.HintEntry.{HintEntry}
use Rattle.special_sections.specs.declared.fault.Why.TheVariants.{HintType, Length, NoReloc, NotText}
use Rattle.special_sections.specs.declared.fields.Bound.TheVariants.{BelowEnd}
use Rattle.special_sections.specs.Fields.{field_at, holds_text_place, lacks_reloc}
use Rattle.special_sections.specs.Hints as hint
use Rattle.special_sections.specs.Kinds.{EntryKind, entries, entry_faults, faults, section_entries, section_faults, sections_named}
use Rattle.special_sections.specs.Reasons.{Reason, fault_at, first_reason}
use Rattle.special_sections.specs.Special.{special_faults, special_of}
use Rattle.special_sections.specs.Tables as tables
use Rattle.special_sections.proofs.Written.{nested_from}
use Rattle.unwinding_law.proofs.Lists.{from_flat_map}
use Rattle.object_law.proofs.HintStates.{each_none, entries_none, fault_none, parts_none, reason_none, right_entry_of, same_hint_place}
use Rattle.object_law.proofs.Levels.{and_true}
use Rattle.object_law.proofs.Owners.{from_map}
use Rattle.object_law.specs.Named.{IsNamed}
use Rattle.object_law.proofs.Homes.{held_is_named}

-- what an entry says that isn't refused
record IsEntry (A : Type 0) (kind : EntryKind A) (o : Elf) (x : A) : Type 0 where
  sec : ℕ
  entry : ℕ
  is : kind.entry o sec entry ≡ x
  right : kind.why o sec entry ≡ None

-- where no entry of a kind is refused
entry_of : {A : Type 0} (kind : EntryKind A) (o : Elf) (x : A) → faults kind o ≡ [] → Contains (entries kind o) x → IsEntry A kind o x
entry_of kind o x none c =
    let sec = from_flat_map (section_entries kind o) (sections_named o kind.name) x c in
    let of_section = each_none (section_faults kind o) (sections_named o kind.name) sec.0 none sec.1 in
    let of_entries = entries_none sec.0 (kind.section_why o sec.0) (entry_faults kind o sec.0) of_section in
    let one = from_map (kind.entry o sec.0) (range_with_len 0 (kind.count o sec.0)) x sec.2 in
    let why = each_none (λ e. fault_at sec.0 e (kind.why o sec.0 e)) (range_with_len 0 (kind.count o sec.0)) one.0 of_entries one.1 in
    record { sec = sec.0; entry = one.0; is = one.2; right = fault_none sec.0 one.0 _ why }

-- it holds places in text sections
holds : (lacking holding : Bool) (rest : List Reason) → first_reason ((lacking, NoReloc) ∷ (not holding, NotText) ∷ rest) ≡ None → holding ≡ true
holds lacking holding rest h = not-false holding (reason_none (not holding) NotText rest (reason_none lacking NoReloc ((not holding, NotText) ∷ rest) h).1).0

module _ (o : Coded) (names : NameLists) (none : special_faults o.elf names ≡ []) where
  of_alternatives : faults tables.alternatives o.elf ≡ []
  of_alternatives = (parts_none (faults tables.alternatives o.elf) _ none).0

  of_branches : faults tables.branches o.elf ≡ []
  of_branches = let behind = (parts_none (faults tables.alternatives o.elf) _ none).1 in (parts_none (faults tables.branches o.elf) _ behind).0

  of_fixes : faults tables.fixes o.elf ≡ []
  of_fixes =
      let behind_alternatives = (parts_none (faults tables.alternatives o.elf) _ none).1 in
      let behind_branches = (parts_none (faults tables.branches o.elf) _ behind_alternatives).1 in
      (parts_none (faults tables.fixes o.elf) _ behind_branches).0

  -- the original of an alternative
  pub original_is_named : (a : AltEntry) → Contains (special_of o.elf).alternatives a → IsNamed o a.original.sec
  original_is_named a c =
      let from = nested_from (entries tables.alternatives o.elf) a c in
      let entry = entry_of tables.alternatives o.elf from.own of_alternatives from.written in
      let original = field_at entry.sec (14 * entry.entry) in
      let replacement = field_at entry.sec (14 * entry.entry + 4) in
      let own = tables.alternative_from o.elf entry.sec (14 * entry.entry) in
      let both = holds (lacks_reloc o.elf original || lacks_reloc o.elf replacement) (holds_text_place o.elf BelowEnd original && holds_text_place o.elf (tables.replacement_bound own) replacement) ((tables.is_too_long o.elf own, Length) ∷ []) entry.right in
      subst (λ (x : AltEntry). IsNamed o x.original.sec) (sym from.same)
      (subst (λ (x : AltEntry). IsNamed o x.original.sec) entry.is (held_is_named o BelowEnd original (and_true (holds_text_place o.elf BelowEnd original) _ both).0))

  -- both places of an entry of two
  abbrev HoldsBoth : ℕ → ℕ → Type 0
  HoldsBoth sec at = (holds_text_place o.elf BelowEnd (field_at sec at) ≡ true) × (holds_text_place o.elf BelowEnd (field_at sec (at + 4)) ≡ true)

  pair_holds : (sec at : ℕ) → tables.pair_why_from o.elf sec at ≡ None → HoldsBoth sec at
  pair_holds sec at right =
      let first = field_at sec at in
      let second = field_at sec (at + 4) in
      and_true (holds_text_place o.elf BelowEnd first) (holds_text_place o.elf BelowEnd second) (holds (lacks_reloc o.elf first || lacks_reloc o.elf second) (holds_text_place o.elf BelowEnd first && holds_text_place o.elf BelowEnd second) [] right)

  -- where a static branch leads
  pub target_is_named : (b : BranchEntry) → Contains (special_of o.elf).branches b → IsNamed o b.target.sec
  target_is_named b c =
      let entry = entry_of tables.branches o.elf b of_branches c in
      subst (λ (x : BranchEntry). IsNamed o x.target.sec) entry.is (held_is_named o BelowEnd (field_at entry.sec (16 * entry.entry + 4)) (pair_holds entry.sec (16 * entry.entry) entry.right).1)

  -- where an exception entry leads
  pub fixup_is_named : (f : FixEntry) → Contains (special_of o.elf).fixes f → IsNamed o f.fixup.sec
  fixup_is_named f c =
      let entry = entry_of tables.fixes o.elf f of_fixes c in
      subst (λ (x : FixEntry). IsNamed o x.fixup.sec) entry.is (held_is_named o BelowEnd (field_at entry.sec (12 * entry.entry + 4)) (pair_holds entry.sec (12 * entry.entry) entry.right).1)

  -- the place of a hint
  pub hint_is_named : (h : HintEntry) → Contains (special_of o.elf).hints h → IsNamed o h.place.sec
  hint_is_named h c =
      let entry = right_entry_of o.elf names h none c in
      let field = field_at entry.sec (12 * entry.entry) in
      let own = hint.hint_written o.elf entry.sec (12 * entry.entry) in
      let place : own.place ≡ h.place = sym (same_hint_place (hint.is_misfit own (hint.signal_byte o.elf entry.sec (12 * entry.entry))) own) ∙ ap (λ (x : HintEntry). x.place) entry.is in
      subst (λ (p : Place). IsNamed o p.sec) place
      (held_is_named o BelowEnd field (holds (lacks_reloc o.elf field) (holds_text_place o.elf BelowEnd field) ((nat_lt 7 own.kind, HintType) ∷ []) entry.right))
