-- Places that are read one after the other are those of the list.
use Rattle.std.proofs.Common.{◌≡◌, ℕ, zero, suc, ◌+◌, ◌*◌, ◌/◌, ◌%◌, ◌^◌, ◌<◌, ◌≤◌, List, [], ◌∷◌, ◌++◌, length, take, drop, get_or, replicate, Option, Some, ℤ, refl, sym, ◌∙◌, ap, subst, length-append, length-drop, arith}
use Rattle.std.proofs.Math.Seq.{take-add}
use Rattle.std.proofs.lemmas.List.{take_all, take_more, replicate-append-replicate}
use Rattle.std.proofs.lemmas.List.Elements.{All-nil, All-push}
use Rattle.std.proofs.lemmas.Option.{slice_get_within, get_or_from_slice_get}
use borrow.Author.Count.{below_more}
use Rattle.std.specs.Prelude.{All, IsSome, unwrap_or}
use Rattle.ot_base.specs.declared.place.Place.{Place}
use Rattle.elf_objects.specs.declared.symbol.Reloc.{Reloc}
use Rattle.elf_objects.specs.Elf.{Elf}
use Rattle.elf_objects.specs.Contents.{section_symbol_of}
use Rattle.elf_objects.specs.Number.{word}
use Rattle.site_lists.specs.Faults.{HasList, HasPlace, IsSlot, ListParts, slot_count}
use Rattle.site_lists.specs.Sections.{HoldsList, IsSite, slot_reloc, slot_relocs, slot_section}
use Rattle.site_lists.proofs.Slots.{slot_relocs-push}

-- the first i slots were read: they have these places
pub record AreRead (object : Elf) (parts : ListParts) (i : ℕ) (places : List Place) : Type 0 where
  pub slots : take (4 * i) parts.slots ≡ slot_section places
  pub relocs : take i parts.relocs ≡ slot_relocs (section_symbol_of object) places
  pub each : All (IsSite object) places
  pub sound : (k : ℕ) → k < i → IsSlot object parts k
  pub count : length places ≡ i

pub none_read : (object : Elf) (parts : ListParts) → AreRead object parts 0 []
none_read object parts = record {
  slots = refl;
  relocs = refl;
  each = All-nil (IsSite object);
  sound = λ k h. absurd (omega arith);
  count = refl;
}

reloc_alike : (a b c a' b' c' : ℕ) (d d' : ℤ) → a ≡ a' → b ≡ b' → c ≡ c' → d ≡ d' → ◌≡◌ {A = Reloc} (record { offset = a; kind = b; sym = c; addend = d }) (record { offset = a'; kind = b'; sym = c'; addend = d' })
reloc_alike a b c a' b' c' d d' h1 h2 h3 h4 = cc

-- a relocation that tells a place at a slot's four bytes is the place's
slot_is : (object : Elf) (parts : ListParts) (i : ℕ) (place : Place) (has : HasPlace object parts i place) → has.slot ≡ slot_reloc (section_symbol_of object) (4 * i) place
slot_is object parts i place has =
    reloc_alike has.slot.offset has.slot.kind has.slot.sym _ _ _ has.slot.addend _ has.at.offset has.at.kind
    (sym (ap (λ (o : Option ℕ). unwrap_or o 0) has.told.symbol.symbol))
    has.told.addend

four_zeros : (xs : List ℕ) → 4 ≤ length xs → word xs 0 ≡ 0 → take 4 xs ≡ replicate 4 0
unfolding word
four_zeros [] long z = absurd (omega arith)
four_zeros (a ∷ []) long z = absurd (omega arith)
four_zeros (a ∷ b ∷ []) long z = absurd (omega arith)
four_zeros (a ∷ b ∷ c ∷ []) long z = absurd (omega arith)
four_zeros (a ∷ b ∷ c ∷ d ∷ rest) long z =
    let za : a ≡ 0 = omega arith in
    let zb : b ≡ 0 = omega arith in
    let zc : c ≡ 0 = omega arith in
    let zd : d ≡ 0 = omega arith in
    cc (za, zb, zc, zd)

word-drop : (xs : List ℕ) (at : ℕ) → word xs at ≡ word (drop at xs) 0
unfolding word
word-drop xs at = refl

-- the place that is read next
pub next_read : (object : Elf) (parts : ListParts) (i : ℕ) (places : List Place) (place : Place)
    → AreRead object parts i places → length parts.slots % 4 ≡ 0 → i < slot_count parts
    → HasPlace object parts i place → place.off < 2 ^ 63
    → AreRead object parts (i + 1) (places ++ place ∷ [])
next_read object parts i places place read whole inside has near = record {
  slots = slots;
  relocs = relocs;
  each = All-push (IsSite object) places place read.each one;
  sound = below_more (λ (k : ℕ). IsSlot object parts k) i read.sound (record { place = place; told = has });
  count = length-append places (place ∷ []) ∙ ap (λ (n : ℕ). n + 1) read.count;
}
  where
    one : IsSite object place
    one = record {
      section = has.told.section;
      at = has.told.symbol.at;
      text = has.told.symbol.text;
      symbol = subst IsSome (sym has.told.symbol.symbol) refl;
      inside = has.told.inside;
      addend = near;
    }

    four : take 4 (drop (4 * i) parts.slots) ≡ replicate 4 0
    four = four_zeros (drop (4 * i) parts.slots) (omega (arith, length-drop (4 * i) parts.slots)) (sym (word-drop parts.slots (4 * i)) ∙ has.zero)

    slots : take (4 * (i + 1)) parts.slots ≡ slot_section (places ++ place ∷ [])
    slots =
        let longer : length (places ++ place ∷ []) ≡ length places + 1 = length-append places (place ∷ []) in
        ap (λ (n : ℕ). take n parts.slots) (omega arith)
        ∙ take-add (4 * i) 4 parts.slots
        ∙ cc (read.slots, four)
        ∙ replicate-append-replicate (4 * length places) 4 0
        ∙ ap (λ (n : ℕ). replicate n 0) (omega (arith, longer))

    relocs : take (i + 1) parts.relocs ≡ slot_relocs (section_symbol_of object) (places ++ place ∷ [])
    relocs =
        let within : i < length parts.relocs = slice_get_within parts.relocs i has.slot has.at.own.there in
        let at : get_or parts.relocs i has.slot ≡ slot_reloc (section_symbol_of object) (4 * length places) place = get_or_from_slice_get parts.relocs i has.slot has.slot has.at.own.there ∙ slot_is object parts i place has ∙ ap (λ (n : ℕ). slot_reloc (section_symbol_of object) (4 * n) place) (sym read.count) in
        take_more parts.relocs i has.slot within
        ∙ cc (read.relocs, at)
        ∙ sym (slot_relocs-push (section_symbol_of object) places place)

-- all places
pub all_read : (object : Elf) (name : List ℕ) (parts : ListParts) (places : List Place)
    → HasList object name parts → length parts.slots % 4 ≡ 0 → AreRead object parts (slot_count parts) places
    → (slot_count parts ≡ 0 → length parts.relocs ≡ 0)
    → HoldsList object name places
all_read object name parts places has whole read no_more = record {
  slots = has.slots ∙ ap (λ xs. Some xs) (sym (take_all (4 * slot_count parts) parts.slots slots_long) ∙ read.slots);
  relocs = has.relocs ∙ ap (λ xs. Some xs) (sym (take_all (slot_count parts) parts.relocs (relocs_long (slot_count parts) refl)) ∙ read.relocs);
  each = read.each;
}
  where
    slots_long : length parts.slots ≤ 4 * slot_count parts
    slots_long = omega arith

    relocs_long : (n : ℕ) → n ≡ slot_count parts → length parts.relocs ≤ slot_count parts
    relocs_long zero e = let none = no_more (sym e) in omega arith
    relocs_long (suc n) e =
        let last = read.sound n (omega arith) in
        last.told.at.own.no_more (omega arith)
