-- Sections that hold site lists have no fault.
use Rattle.std.proofs.Common.{◌≡◌, ℕ, zero, suc, ◌+◌, ◌*◌, ◌/◌, ◌%◌, ◌<◌, ◌≤◌, List, [], ◌∷◌, ◌++◌, map, length, drop, get_or, replicate, Option, Some, None, pos, refl, sym, inl, inr, ◌∙◌, ap, subst, arith}
use Rattle.std.proofs.lemmas.Option.{none-some}
use Rattle.std.proofs.lemmas.Bool.{false≢true, cases_lt}
use Rattle.std.proofs.lemmas.List.{get_or-drop, get_or_past, get_or-replicate, length-replicate}
use Rattle.std.proofs.lemmas.List.Elements.{All-head, All-tail}
use Rattle.std.specs.Prelude.{All, IsSome, slice_get, unwrap_or, option_and_then, option_map}
use Rattle.std.specs.List.{enumerate_from}
use Rattle.ot_base.specs.declared.place.Place.{Place}
use Rattle.elf_objects.specs.declared.symbol.Reloc.{Reloc}
use Rattle.elf_objects.specs.Elf.{Elf, SectionEntry}
use Rattle.elf_objects.specs.Contents.{section_symbol_of}
use Rattle.elf_objects.specs.Number.{word}
use Rattle.orc_bytes.specs.declared.fault.SlotWhy.{SlotWhy}
use Rattle.orc_bytes.specs.Faults.{StandsForText}
use Rattle.orc_bytes.specs.Sections.{section_named}
use Rattle.site_lists.specs.declared.fault.SitesFault.{SitesFault}
use Rattle.site_lists.specs.Faults.{FirstFault, HasList, ListFault, ListParts, SlotFault, slot_count, no_lists, in_list, bad_length, bad_slot, without_slots, no_reloc, more, kind, offset, symbol, range, not_zero}
use Rattle.site_lists.specs.Listed.{Listed}
use Rattle.site_lists.specs.Sections.{HasLists, HoldsList, HoldsSites, IsListOf, IsSite, held, missing, list_name, slot_reloc, slot_relocs, slot_section}
use Rattle.site_lists.proofs.OneChoice.{one_section}

some_alike : {A : Type 0} {x y : A} {o : Option A} → o ≡ Some x → o ≡ Some y → x ≡ y
some_alike h k = cc

relocs_from : (ℕ → Option ℕ) → ℕ → List Place → List Reloc
relocs_from symbols n places = map (λ entry. slot_reloc symbols (4 * entry.0) entry.1) (enumerate_from n places)

relocs_long : (symbols : ℕ → Option ℕ) (n : ℕ) (places : List Place) → length (relocs_from symbols n places) ≡ length places
unfolding relocs_from
relocs_long symbols n [] = refl
relocs_long symbols n (place ∷ places) = ap suc (relocs_long symbols (n + 1) places)

-- place number i, where the list has it
record HasPlaceAt (object : Elf) (n i : ℕ) (places : List Place) : Type 0 where
  place : Place
  is : IsSite object place
  slot_is : slice_get (relocs_from (section_symbol_of object) n places) i ≡ Some (slot_reloc (section_symbol_of object) (4 * (n + i)) place)

place_at : (object : Elf) (n i : ℕ) (places : List Place) → All (IsSite object) places → i < length places → HasPlaceAt object n i places
unfolding relocs_from
place_at object n i [] all h = absurd (omega arith)
place_at object n zero (place ∷ places) all h = record {
  place = place;
  is = All-head (IsSite object) place places all;
  slot_is = ap (λ (k : ℕ). Some (slot_reloc (section_symbol_of object) (4 * k) place)) (omega arith);
}
place_at object n (suc i) (place ∷ places) all h =
    let rest = place_at object (n + 1) i places (All-tail (IsSite object) place places all) (omega arith) in
    record {
      place = rest.place;
      is = rest.is;
      slot_is = rest.slot_is ∙ ap (λ (k : ℕ). Some (slot_reloc (section_symbol_of object) (4 * k) rest.place)) (omega arith);
    }

zero_read : (n j : ℕ) → ◌≡◌ {A = ℕ} (get_or (replicate n 0) j 0) 0
zero_read n j = elim (cases_lt j n) [
  | inr past ↦ get_or_past (replicate n 0) j 0 (let long = length-replicate {A = ℕ} n 0 in omega (arith, long))
  | inl inside ↦ get_or-replicate n j 0 0 inside
]

zero_at : (n at k : ℕ) → ◌≡◌ {A = ℕ} (get_or (drop at (replicate n 0)) k 0) 0
zero_at n at k = get_or-drop at (replicate n 0) k 0 ∙ zero_read n (at + k)

zero_word : (n at : ℕ) → word (replicate n 0) at ≡ 0
unfolding word
zero_word n at =
    let a = zero_at n at 0 in
    let b = zero_at n at 1 in
    let c = zero_at n at 2 in
    let d = zero_at n at 3 in
    omega (arith, a, b, c, d)

-- the section symbol of a place's section stands for it
stands : (object : Elf) (place : Place) (is : IsSite object place) → StandsForText object (unwrap_or (section_symbol_of object place.sec) 0) place.sec is.section
stands object place is = record {
  at = is.at;
  text = is.text;
  symbol = go (section_symbol_of object place.sec) is.symbol;
}
  where
    go : (o : Option ℕ) → IsSome o → o ≡ Some (unwrap_or o 0)
    go (Some k) some = refl
    go None some = absurd (false≢true some)

no_slot_fault : (object : Elf) (parts : ListParts) (places : List Place) (i : ℕ) (why : SlotWhy)
    → All (IsSite object) places → parts.slots ≡ slot_section places → parts.relocs ≡ slot_relocs (section_symbol_of object) places → slot_count parts ≡ length places → i < length places
    → SlotFault object parts i why → ⊥
unfolding relocs_from
no_slot_fault object parts places i why all slots relocs count h fault = go why fault
  where
    here : HasPlaceAt object 0 i places
    here = place_at object 0 i places all h

    there : slice_get parts.relocs i ≡ Some (slot_reloc (section_symbol_of object) (4 * i) here.place)
    there = ap (λ (rs : List Reloc). slice_get rs i) relocs ∙ here.slot_is ∙ ap (λ (k : ℕ). Some (slot_reloc (section_symbol_of object) (4 * k) here.place)) (omega arith)

    long : length parts.relocs ≡ length places
    long = ap (λ (rs : List Reloc). length rs) relocs ∙ relocs_long (section_symbol_of object) 0 places

    is_slot : (reloc : Reloc) → slice_get parts.relocs i ≡ Some reloc → reloc ≡ slot_reloc (section_symbol_of object) (4 * i) here.place
    is_slot reloc e = some_alike e there

    stood : (reloc : Reloc) → slice_get parts.relocs i ≡ Some reloc → StandsForText object reloc.sym here.place.sec here.is.section
    stood reloc e = subst (λ (k : ℕ). StandsForText object k here.place.sec here.is.section) (sym (ap (λ (r : Reloc). r.sym) (is_slot reloc e))) (stands object here.place here.is)

    go : (why : SlotWhy) → SlotFault object parts i why → ⊥
    go _ (no_reloc none) = none-some _ (sym none ∙ there)
    go _ (more last left) = omega (arith, long)
    go _ (kind reloc has other) = other (ap (λ (r : Reloc). r.kind) (is_slot reloc has.there))
    go _ (offset reloc has is other) = other (ap (λ (r : Reloc). r.offset) (is_slot reloc has.there))
    go _ (symbol reloc at none) = none here.place.sec here.is.section (stood reloc at.own.there)
    go _ (range reloc sec section at text beyond) =
        let own = stood reloc at.own.there in
        let same : sec ≡ here.place.sec = one_section object sec here.place.sec reloc.sym text.symbol own.symbol in
        let one : section ≡ here.is.section = some_alike text.at (ap (slice_get object.sections) same ∙ own.at) in
        let above = beyond here.place.off (ap (λ (r : Reloc). r.addend) (is_slot reloc at.own.there)) in
        let size : section.size ≡ here.is.section.size = ap (λ (s : SectionEntry). s.size) one in
        let inside = here.is.inside in
        omega arith
    go _ (not_zero reloc place at told other) = other (ap (λ (xs : List ℕ). word xs (4 * i)) slots ∙ zero_word (4 * length places) (4 * i))

-- a list with these places has no fault
pub list_excludes : (object : Elf) (which : ℕ) (places : List Place) (fault : SitesFault) → ListFault object which fault → HoldsList object (list_name which) places → ⊥
list_excludes object which places fault first holds = go fault first
  where
    slots_are : (parts : ListParts) → HasList object (list_name which) parts → parts.slots ≡ slot_section places
    slots_are parts has = some_alike has.slots holds.slots

    relocs_are : (parts : ListParts) → HasList object (list_name which) parts → parts.relocs ≡ slot_relocs (section_symbol_of object) places
    relocs_are parts has = some_alike has.relocs holds.relocs

    slots_long : (parts : ListParts) → HasList object (list_name which) parts → length parts.slots ≡ 4 * length places
    slots_long parts has = ap (λ (xs : List ℕ). length xs) (slots_are parts has) ∙ length-replicate (4 * length places) 0

    no_relocs : (places : List Place) → length places ≡ 0 → slot_relocs (section_symbol_of object) places ≡ []
    no_relocs [] e = refl
    no_relocs (place ∷ places) e = absurd (omega arith)

    go : (fault : SitesFault) → ListFault object which fault → ⊥
    go _ (bad_length parts has other) = let long = slots_long parts has in other (omega arith)
    go _ (bad_slot parts i why has whole h lower at) =
        let long = slots_long parts has in
        no_slot_fault object parts places i why holds.each (slots_are parts has) (relocs_are parts has) (omega arith) (omega arith) at
    go _ (without_slots parts has none whole left) =
        let long = slots_long parts has in
        left (relocs_are parts has ∙ no_relocs places (omega arith))

-- a section that has a body is there
unnamed : (object : Elf) (name : List ℕ) (parts : ListParts) → section_named object name ≡ None → HasList object name parts → ⊥
unnamed object name parts none has = none-some _ (sym (ap (option_and_then (λ i. option_map (λ section. section.body) (slice_get object.sections i))) none) ∙ has.slots)

-- nor has one that isn't there
pub no_fault_of : (object : Elf) (which : ℕ) (places : List Place) (fault : SitesFault) → ListFault object which fault → IsListOf object (list_name which) places → ⊥
no_fault_of object which places fault first (held holds) = list_excludes object which places fault first holds
no_fault_of object which places _ (bad_length parts has other) (missing none empty) = unnamed object (list_name which) parts none has
no_fault_of object which places _ (bad_slot parts i why has whole h lower at) (missing none empty) = unnamed object (list_name which) parts none has
no_fault_of object which places _ (without_slots parts has none whole left) (missing missed empty) = unnamed object (list_name which) parts missed has

pub fault_excludes : (object : Elf) (lists : Listed) (fault : SitesFault) → FirstFault object fault → HoldsSites object lists → ⊥
fault_excludes object lists _ (no_lists none) holds = is_there (section_named object (list_name holds.some.which)) (none holds.some.which holds.some.inside) holds.some.there
  where
    is_there : (o : Option ℕ) → o ≡ None → IsSome o → ⊥
    is_there (Some i) e there = none-some i (sym e)
    is_there None e there = false≢true there
fault_excludes object lists fault (in_list which inside before here) holds = by_number which inside here
  where
    by_number : (which : ℕ) → which < 3 → ListFault object which fault → ⊥
    by_number zero inside here = no_fault_of object 0 lists.retpoline fault here holds.retpoline
    by_number (suc zero) inside here = no_fault_of object 1 lists.returns fault here holds.returns
    by_number (suc (suc zero)) inside here = no_fault_of object 2 lists.calls fault here holds.calls
    by_number (suc (suc (suc n))) inside here = absurd (omega arith)
