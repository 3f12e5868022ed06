-- The first fault of a part is that of the whole, where there is none before it.
use Rattle.std.proofs.Common.{◌≡◌, ℕ, ◌+◌, ◌-◌, ◌<◌, Bool, true, List, [], ◌++◌, Some, filter, slice_get, inl, inr, ap, sym, subst, ◌∙◌}
use Rattle.std.specs.List.{range_with_len, flat_map}
use Rattle.special_sections.specs.declared.fault.SpecialFault.{SpecialFault}
use Rattle.ot_base.specs.NameLists.{NameLists}
use Rattle.elf_objects.specs.Elf.{Elf}
use Rattle.special_sections.specs.Reasons.{TellsFirst}
use Rattle.special_sections.specs.RightTables.{HasRightTables}
use Rattle.special_sections.specs.Special.{list_faults, special_faults}
use Rattle.special_sections.proofs.Gathered.{range_split, passing_split, first_gathered, first_in_front}

pub tells_within : (part whole : List SpecialFault) (told : SpecialFault) → ((x : SpecialFault) → slice_get part 0 ≡ Some x → slice_get whole 0 ≡ Some x) → TellsFirst part told → TellsFirst whole told
tells_within part whole told leads (inl memory) = inl memory
tells_within part whole told leads (inr first) = inr (leads told first)

module _ (f : ℕ → List SpecialFault) (n i : ℕ) (inside : i < n) where
  pub tells_in_range : (told : SpecialFault) → flat_map f (range_with_len 0 i) ≡ [] → TellsFirst (f i) told → TellsFirst (flat_map f (range_with_len 0 n)) told
  tells_in_range told none = tells_within (f i) (flat_map f (range_with_len 0 n)) told (λ x first.
      ap (λ xs. slice_get (flat_map f xs) 0) (range_split n i inside)
      ∙ first_gathered f (range_with_len 0 i) (range_with_len (i + 1) (n - (i + 1))) i x none first)

  pub tells_among_passing : (p : ℕ → Bool) (told : SpecialFault) → p i ≡ true → flat_map f (filter p (range_with_len 0 i)) ≡ [] → TellsFirst (f i) told → TellsFirst (flat_map f (filter p (range_with_len 0 n))) told
  tells_among_passing p told passes none = tells_within (f i) (flat_map f (filter p (range_with_len 0 n))) told (λ x first.
      ap (λ xs. slice_get (flat_map f xs) 0) (passing_split p n i inside passes)
      ∙ first_gathered f (filter p (range_with_len 0 i)) (filter p (range_with_len (i + 1) (n - (i + 1)))) i x none first)

-- faults in parts, one behind the other
pub tells_front : (front rest : List SpecialFault) (told : SpecialFault) → TellsFirst front told → TellsFirst (front ++ rest) told
tells_front front rest told = tells_within front (front ++ rest) told (λ x first. first_in_front front rest x first)

pub tells_behind : (front rest : List SpecialFault) (told : SpecialFault) → front ≡ [] → TellsFirst rest told → TellsFirst (front ++ rest) told
tells_behind front rest told none tells = subst (λ (fs : List SpecialFault). TellsFirst (fs ++ rest) told) (sym none) tells

pub none_in_both : (front rest : List SpecialFault) → front ≡ [] → rest ≡ [] → front ++ rest ≡ []
none_in_both front rest none others = ap (λ fs. fs ++ rest) none ∙ others

-- the first fault of the lists is the first of all, where the tables have none
pub tells_behind_tables : (o : Elf) (names : NameLists) (told : SpecialFault) → HasRightTables o names → TellsFirst (list_faults o) told → TellsFirst (special_faults o names) told
tells_behind_tables o names told right tells = tells_behind _ _ told right.alternatives (tells_behind _ _ told right.branches (tells_behind _ _ told right.fixes (tells_behind _ _ told right.hints tells)))

pub none_behind_tables : (o : Elf) (names : NameLists) → HasRightTables o names → list_faults o ≡ [] → special_faults o names ≡ []
none_behind_tables o names right none = none_in_both _ _ right.alternatives (none_in_both _ _ right.branches (none_in_both _ _ right.fixes (none_in_both _ _ right.hints none)))
