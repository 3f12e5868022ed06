-- The places that are listed, code before data, are those whose addresses are taken.
use Rattle.std.proofs.Common.{◌≡◌, ℕ, ◌&&◌, ◌||◌, Bool, true, false, cond, List, [], ◌∷◌, ◌++◌, map, length, not, refl, ap, ◌∙◌}
use Rattle.std.specs.Prelude.{filter, filter_map, flat_map}
use Rattle.std.specs.List.{list_any, range_with_len}
use Rattle.std.proofs.lemmas.List.Folds.{list_any-append}
use Rattle.ot_base.specs.Places.{same_place}
use Rattle.elf_objects.specs.Contents.{is_text, relocs_at, section_at}
use Rattle.elf_objects.specs.declared.symbol.Reloc.{Reloc}
use Rattle.x86_text.specs.Code.{code_of}
use Rattle.alternatives.specs.declared.texts.SectionText.{SectionText}
use Rattle.flow_defs.specs.Code.{body_of, texts_of}
use Rattle.flow_defs.specs.Coded.{Coded}
use Rattle.object_points.specs.Places.{HaveSamePlaces}
use Rattle.taken_places.specs.Listed.{addresses_in_section, addresses_in_text, taken_by_code, taken_by_data}
use Rattle.taken_places.specs.Taken.{address_in_code, address_in_data, address_taken, may_take_at, taken_in, taken_places, tells_of_code}

behind_code : (one code other all : Bool) → (code || other) ≡ all → ((one || code) || other) ≡ (one || all)
behind_code true code other all e = refl
behind_code false code other all e = e

behind_data : (one code other all : Bool) → (code || other) ≡ all → (code || (one || other)) ≡ (one || all)
behind_data true true other all e = refl
behind_data true false other all e = refl
behind_data false true other all e = e
behind_data false false other all e = e

-- what is found among what some give one way and the others another, is found among what all give
module _ {X Y : Type 0} (p : Y → Bool) (f : ℕ → X) (code : X → List Y) (is_code : ℕ → Bool) (other : ℕ → List Y) (may : ℕ → Bool) (all : ℕ → List Y)
    (code_is : (s : ℕ) → is_code s ≡ true → all s ≡ code (f s))
    (data_is : (s : ℕ) → is_code s ≡ false → may s ≡ true → all s ≡ other s) (none_is : (s : ℕ) → may s ≡ false → all s ≡ []) where
  abbrev in_code : List ℕ → List Y
  in_code secs = flat_map code (map f (filter is_code secs))

  abbrev in_data : List ℕ → List Y
  in_data secs = flat_map other (filter (λ s. may s && not (is_code s)) secs)

  abbrev IsSplit : List ℕ → Type 0
  IsSplit secs = (list_any p (in_code secs) || list_any p (in_data secs)) ≡ list_any p (flat_map all secs)

  no_data : (m : Bool) → (m && not true) ≡ false
  no_data true = refl
  no_data false = refl

  one_more : (s : ℕ) (secs : List ℕ) (c m : Bool) → is_code s ≡ c → may s ≡ m → IsSplit secs → IsSplit (s ∷ secs)
  one_more s secs true m ec em rest =
      rw (ec, no_data (may s), list_any-append p (code (f s)) (in_code secs), list_any-append p (all s) (flat_map all secs), code_is s ec)
      (behind_code (list_any p (code (f s))) (list_any p (in_code secs)) (list_any p (in_data secs)) (list_any p (flat_map all secs)) rest)
  one_more s secs false true ec em rest =
      rw (ec, em, list_any-append p (other s) (in_data secs), list_any-append p (all s) (flat_map all secs), data_is s ec em)
      (behind_data (list_any p (other s)) (list_any p (in_code secs)) (list_any p (in_data secs)) (list_any p (flat_map all secs)) rest)
  one_more s secs false false ec em rest = rw (ec, em, none_is s em) rest

  pub is_split : (secs : List ℕ) → IsSplit secs
  is_split [] = refl
  is_split (s ∷ secs) = one_more s secs (is_code s) (may s) refl refl (is_split secs)

module _ (o : Coded) where
  -- the text of a section
  abbrev text : ℕ → SectionText
  text sec = record { sec = sec; text = body_of o sec }

  code_at : (sec : ℕ) → is_text (section_at o.elf sec) ≡ true → taken_in o sec ≡ addresses_in_text o.elf (text sec)
  code_at sec code =
      ap (λ (c : Bool). cond (c || not (tells_of_code (section_at o.elf sec).name)) (filter_map (address_taken o sec) (relocs_at o.elf sec)) []) code
      ∙ ap (λ (c : Bool). filter_map (λ (r : Reloc). cond c (address_in_code o.elf (code_of (body_of o sec)) r) (address_in_data o.elf r)) (relocs_at o.elf sec)) code

  data_at : (sec : ℕ) → is_text (section_at o.elf sec) ≡ false → may_take_at o.elf sec ≡ true → taken_in o sec ≡ addresses_in_section o.elf sec
  data_at sec off may =
      ap (λ (m : Bool). cond m (filter_map (address_taken o sec) (relocs_at o.elf sec)) []) may
      ∙ ap (λ (c : Bool). filter_map (λ (r : Reloc). cond c (address_in_code o.elf (code_of (body_of o sec)) r) (address_in_data o.elf r)) (relocs_at o.elf sec)) off

  none_at : (sec : ℕ) → may_take_at o.elf sec ≡ false → taken_in o sec ≡ []
  none_at sec off = ap (λ (m : Bool). cond m (filter_map (address_taken o sec) (relocs_at o.elf sec)) []) off

  pub listed_are_taken : HaveSamePlaces (taken_places o) (taken_by_code o ++ taken_by_data o.elf)
  unfolding taken_by_code taken_by_data taken_places texts_of
  listed_are_taken = record {
    same = λ place.
        list_any-append (same_place place) (taken_by_code o) (taken_by_data o.elf)
        ∙ is_split (same_place place) text (addresses_in_text o.elf) (λ sec. is_text (section_at o.elf sec)) (addresses_in_section o.elf) (may_take_at o.elf) (taken_in o)
        code_at data_at none_at (range_with_len 0 (length o.elf.sections));
  }
