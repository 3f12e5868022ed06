-- The object with the section symbols may have the site lists, and what comes of it.
use Rattle.std.proofs.Common.{◌≡◌, ℕ, ◌<◌, List, length, get_or, true, refl, sym, ap, subst, ◌∙◌, arith}
use Rattle.std.specs.Prelude.{◌==◌, ◌||◌}
use Rattle.std.proofs.lemmas.Bool.{eq-eqb, or_left, or_right}
use Rattle.std.proofs.lemmas.List.Folds.{list_any_at}
use Rattle.std.proofs.lemmas.Option.{slice_get_within}
use Rattle.ot_base.specs.declared.place.Place.{Place}
use Rattle.elf_objects.specs.Elf.{Elf}
use Rattle.elf_objects.specs.Object.{IsObject}
use Rattle.elf_write.specs.Object.{appended_to}
use Rattle.elf_write.specs.AddedSymbols.{IsAdded, NamesSame}
use Rattle.elf_write.proofs.Same.{added}
use Rattle.orc_output.proofs.Inserted.{inserted, names_stay, short_bytes}
use Rattle.orc_output.proofs.Known.{known}
use Rattle.orc_output.proofs.RowPlaces.{has_symbol, sections_stay, size_within, text_stays}
use Rattle.site_lists.specs.Listed.{Listed}
use Rattle.site_lists.specs.Sections.{IsSite}
use Rattle.site_lists.specs.Needed.{has_place, is_listed, needed_symbols}
use Rattle.site_lists.specs.SiteOutput.{CanHaveLists, IsOther, site_sections}
use Rattle.site_lists.specs.Sites.{IsSiteIn}
use Rattle.site_lists.specs.Tables.{HasSites, IsFit, with_symbols}
use Rattle.site_lists.proofs.Addable.{can_add}
use Rattle.site_lists.proofs.OutputHeld.{held}
use Rattle.site_lists.proofs.Insertable.{can_insert, inserted_bound}
use Rattle.site_lists.proofs.NeededSections.{needs_one}

-- the symbols keep what they are
names_same : (o : Elf) (lists : Listed) → IsFit o lists → NamesSame o (needed_symbols o lists) (with_symbols o lists)
names_same o lists fit =
    (inserted o (needed_symbols o lists) fit.bytes fit.object (can_insert o lists fit.object fit.can fit.few) (inserted_bound o lists fit.object fit.can fit.few) (let few = fit.can.few in omega arith)).same

-- each place can be named
site_of : (o : Elf) (lists : Listed) → IsFit o lists → (place : Place) → is_listed lists place.sec ≡ true → IsSiteIn o place → IsSite (with_symbols o lists) place
site_of o lists fit place named is =
    let sec : ℕ = place.sec in
    let size = size_within o.bytes o sec is.section fit.object is.at is.text in
    let short = fit.can.short in
    let inside = is.inside in
    record {
      section = is.section;
      at = text_stays o (needed_symbols o lists) sec is.section is.at is.text;
      text = is.text;
      symbol = has_symbol o (needed_symbols o lists) sec (names_same o lists fit) (λ free. needs_one o lists sec (slice_get_within o.sections sec is.section is.at) named free);
      inside = inside;
      addend = omega arith;
    }

-- a list has a place in the section of each of its places
has_own : (places : List Place) (k : ℕ) (d : Place) → k < length places → has_place places (get_or places k d).sec ≡ true
has_own places k d inside = list_any_at (λ (place : Place). place.sec == (get_or places k d).sec) places k d inside (eq-eqb _ _ refl)

pub can_have_lists : (o : Elf) (lists : Listed) → IsFit o lists → CanHaveLists (with_symbols o lists) lists
can_have_lists o lists fit =
    let secs : List ℕ = needed_symbols o lists in
    let sections = sections_stay o secs in
    let few = fit.can.few in
    record {
      each = record {
        retpoline = λ k d inside. site_of o lists fit _ (or_left _ _ (or_left _ _ (has_own lists.retpoline k d inside))) (fit.can.each.retpoline k d inside);
        returns = λ k d inside. site_of o lists fit _ (or_left _ _ (or_right (has_place lists.retpoline (get_or lists.returns k d).sec) _ (has_own lists.returns k d inside))) (fit.can.each.returns k d inside);
        calls = λ k d inside. site_of o lists fit _ (or_right (has_place lists.retpoline (get_or lists.calls k d).sec || has_place lists.returns (get_or lists.calls k d).sec) _ (has_own lists.calls k d inside)) (fit.can.each.calls k d inside);
      };
      none = names_stay IsOther (λ s t e is. record { list = λ which z. is.list which (sym e ∙ z); rela = λ which z. is.rela which (sym e ∙ z) }) o secs fit.can.none;
      few = omega arith;
      short = short_bytes o secs (inserted_bound o lists fit.object fit.can fit.few);
      few_places = fit.can.few_places;
    }

-- With the site lists it has them.
pub has_sites : (o : Elf) (lists : Listed) (b : List ℕ) (p : Elf) (file : List ℕ) → IsFit o lists → IsObject b p → p ≡ with_symbols o lists
    → file ≡ appended_to p (site_sections p lists) → HasSites o lists file
has_sites o lists b p file fit object is layout =
    let secs : List ℕ = needed_symbols o lists in
    let n : Elf = with_symbols o lists in
    let facts = known b n (subst (IsObject b) is object) in
    let can_have = can_have_lists o lists fit in
    let can = can_add n lists facts can_have in
    let done = added o.bytes o secs (site_sections n lists) fit.bytes fit.object (can_insert o lists fit.object fit.can fit.few) can in
    record {
      added = subst (IsAdded o secs (site_sections n lists)) (sym (layout ∙ ap (λ (x : Elf). appended_to x (site_sections x lists)) is)) done;
      holds = held n lists facts can_have;
    }
