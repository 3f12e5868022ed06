-- The sections that need a section symbol.
use Rattle.std.proofs.Common.{◌≡◌, ℕ, ◌<◌, true, List, length, Some, None, refl, subst, inl, inr}
use Rattle.std.specs.Prelude.{◌==◌, ◌||◌, All, AllPairs, Contains, slice_get}
use Rattle.std.proofs.lemmas.Bool.{eqb-true, or_cases}
use Rattle.std.proofs.lemmas.List.Folds.{Any-from_list_any}
use Rattle.ot_base.specs.declared.place.Place.{Place}
use Rattle.elf_objects.specs.Contents.{is_text, section_symbol_of}
use Rattle.elf_objects.specs.Elf.{Elf, SectionEntry}
use Rattle.orc_output.proofs.NeededSections.{IsNameless, each_nameless, is_among, nameless, nameless_rise}
use Rattle.site_lists.specs.Listed.{Listed}
use Rattle.site_lists.specs.Needed.{has_place, is_listed, needed_symbols}
use Rattle.site_lists.specs.Sites.{AreSitesIn, IsSiteIn, can_have_symbol}

pub needed-is : (o : Elf) (lists : Listed) → needed_symbols o lists ≡ nameless o (is_listed lists)
unfolding needed_symbols
needed-is o lists = refl

pub each_needed : (o : Elf) (lists : Listed) → All (IsNameless o (is_listed lists)) (needed_symbols o lists)
unfolding needed_symbols
each_needed o lists = each_nameless o (is_listed lists)

pub needed_rise : (o : Elf) (lists : Listed) → AllPairs (λ a b. a < b) (needed_symbols o lists)
unfolding needed_symbols
needed_rise o lists = nameless_rise o (is_listed lists)

pub needs_one : (o : Elf) (lists : Listed) (sec : ℕ) → sec < length o.sections → is_listed lists sec ≡ true → section_symbol_of o sec ≡ None
    → Contains (needed_symbols o lists) sec
unfolding needed_symbols
needs_one o lists = is_among o (is_listed lists)

-- a text section that relocations can name
pub record IsNameableText (o : Elf) (sec : ℕ) : Type 0 where
  pub section : SectionEntry
  pub at : slice_get o.sections sec ≡ Some section
  pub text : is_text section ≡ true
  pub nameable : can_have_symbol o sec ≡ true

section_of_place : (o : Elf) (places : List Place) (sec : ℕ) → All (IsSiteIn o) places → has_place places sec ≡ true → IsNameableText o sec
section_of_place o places sec each has =
    let found = Any-from_list_any (λ (place : Place). place.sec == sec) places has in
    let place : Place = found.1 in
    let is : IsSiteIn o place = subst (IsSiteIn o) found.3 (each found.0 place found.2) in
    let same : place.sec ≡ sec = eqb-true place.sec sec found.4 in
    subst (IsNameableText o) same (record { section = is.section; at = is.at; text = is.text; nameable = is.nameable })

pub section_of_lists : (o : Elf) (lists : Listed) (sec : ℕ) → AreSitesIn o lists → is_listed lists sec ≡ true → IsNameableText o sec
section_of_lists o lists sec each named =
    elim (or_cases (has_place lists.retpoline sec || has_place lists.returns sec) (has_place lists.calls sec) named) [
      | inl early ↦ elim (or_cases (has_place lists.retpoline sec) (has_place lists.returns sec) early) [
        | inl first ↦ section_of_place o lists.retpoline sec each.retpoline first
        | inr second ↦ section_of_place o lists.returns sec each.returns second
      ]
      | inr third ↦ section_of_place o lists.calls sec each.calls third
    ]
