-- The sites of sorted originals are those of the entries.
use Rattle.std.proofs.Common.{◌≡◌, ℕ, zero, suc, ◌+◌, ◌<◌, ◌≤◌, Bool, true, false, cond, List, [], ◌∷◌, length, get_or, All, map, filter, Option, Some, None, arith, refl, sym, ap, ◌∙◌, subst, not, if◌then◌else◌}
use Rattle.std.specs.List.{range_with_len}
use Rattle.std.specs.List.Sorted.{IsPermutation, IsSortedBy}
use Rattle.std.specs.Option.{IfNone}
use Rattle.std.specs.Ordering.{is_lt}
use Rattle.std.proofs.lemmas.List.{get_or-map, length-map}
use Rattle.std.proofs.lemmas.List.FromFn.{length-range_with_len}
use Rattle.std.proofs.lemmas.List.Sorted.{IsPermutation-map, length_permutation}
use Rattle.special_sections.specs.declared.entries.AltEntry.{AltEntry}
use Rattle.alternatives.specs.declared.original.Original.{Original}
use Rattle.alternatives.specs.declared.site.AlternativesSite.{AlternativesSite}
use Rattle.alternatives.specs.declared.texts.SectionText.{SectionText}
use Rattle.alternatives.specs.Originals.{entry_at, counts, counted, overlaps_earlier}
use Rattle.alternatives.specs.Texts.{is_whole}
use Rattle.alternatives.specs.declared.fault.SiteWhy.TheVariants.{NotBoundary, Overlap, Replacement}
use Rattle.alternatives.specs.Faults.{AreRight}
use Rattle.alternatives.specs.Sites.{AreSitesOf, IsOriginalOf, FillFrom, comes_before}
use Rattle.alternatives.specs.Sorted.{original_of, originals_of, original_cmp, AreByPlace, GroupsOf, IsFirstOverlap, IsOverlap, NoneMeet}
use Rattle.alternatives.proofs.Overlaps.{each_original}

-- there are no more originals than entries
filter_short : (p : ℕ → Bool) (xs : List ℕ) → length (filter p xs) ≤ length xs
filter_short p [] = omega arith
filter_short p (x ∷ xs) =
    let rest : length (filter p xs) ≤ length xs = filter_short p xs in
    elim (p x) as (λ b. length (cond b (x ∷ filter p xs) (filter p xs)) ≤ length (x ∷ xs)) [ true ↦ omega arith | false ↦ omega arith ]

pub few_originals : (entries : List AltEntry) (os : List Original) → IsPermutation (originals_of entries) os → length os ≤ length entries
few_originals entries os moved =
    let n : length os ≡ length (originals_of entries) = length_permutation (originals_of entries) os moved in
    let m : length (originals_of entries) ≡ length (counted entries) = length-map (counted entries) (original_of entries) in
    let k : length (counted entries) ≤ length (range_with_len 0 (length entries)) = filter_short (λ k. counts (entry_at entries k)) (range_with_len 0 (length entries)) in
    let l : length (range_with_len 0 (length entries)) ≡ length entries = length-range_with_len 0 (length entries) in
    omega arith

refused : (c w o r : Bool) → c ≡ true → o ≡ true → (if not c then None else if not w then Some NotBoundary else if o then Some Overlap else if not r then Some Replacement else None) ≡ None → ⊥
refused false w o r p q h = cc
refused true true true r p q h = cc
refused true false true r p q h = cc
refused true true false r p q h = cc
refused true false false r p q h = cc

-- an entry that overlaps an earlier one is refused
pub overlap_refused : (texts : List SectionText) (entries : List AltEntry) (k : ℕ) → IsFirstOverlap entries k → AreRight texts entries (length entries) → ⊥
overlap_refused texts entries k found right =
    let a : AltEntry = entry_at entries k in
    refused (counts a) (is_whole texts a.original a.original_len) (overlaps_earlier entries k) (is_whole texts a.replacement a.replacement_len) found.counted found.here (right k found.inside)

numbers_back : (entries : List AltEntry) (ks : List ℕ) → map (λ (o : Original). o.entry) (map (original_of entries) ks) ≡ ks
numbers_back entries [] = refl
numbers_back entries (k ∷ ks) = ap (λ xs. k ∷ xs) (numbers_back entries ks)

fill_reaches : (from to : ℕ) (sites : List AlternativesSite) → FillFrom from sites to → from ≤ to
fill_reaches from to [] fill = omega arith
fill_reaches from to (s ∷ sites) fill =
    let rest : from + s.count ≤ to = fill_reaches (from + s.count) to sites fill.1.1 in
    omega arith

-- the entries of a site are within the list
pub fill_within : (from to : ℕ) (sites : List AlternativesSite) (k : ℕ) (d : AlternativesSite) → FillFrom from sites to → k < length sites → (get_or sites k d).first + (get_or sites k d).count ≤ to
fill_within from to [] k d fill inside = absurd (omega arith)
fill_within from to (s ∷ sites) zero d fill inside =
    let rest : from + s.count ≤ to = fill_reaches (from + s.count) to sites fill.1.1 in
    omega (arith, fill.0)
fill_within from to (s ∷ sites) (suc k) d fill inside = fill_within (from + s.count) to sites k d fill.1.1 (omega arith)

pub fill_few : (from to : ℕ) (sites : List AlternativesSite) → FillFrom from sites to → from + length sites ≤ to
fill_few from to [] fill = omega arith
fill_few from to (s ∷ sites) fill =
    let rest : from + s.count + length sites ≤ to = fill_few (from + s.count) to sites fill.1.1 in
    omega (arith, fill.1.0)

-- where no entry is refused, none overlaps an earlier one
pub none_where_right : (texts : List SectionText) (entries : List AltEntry) (os : List Original) (found : Option ℕ) → AreRight texts entries (length entries) → IsOverlap entries found → IfNone found (NoneMeet os) → NoneMeet os
none_where_right texts entries os None right is none = none
none_where_right texts entries os (Some k) right is none = absurd (overlap_refused texts entries k is right)

none : Original
none = record { place = record { sec = 0; off = 0 }; len = 0; entry = 0 }

module _ (entries : List AltEntry) (os : List Original) (moved : IsPermutation (originals_of entries) os) (order : AreByPlace os) (sites : List AlternativesSite) (groups : GroupsOf os sites (length os)) where
  abbrev numbers : List ℕ
  numbers = map (λ (o : Original). o.entry) os

  number_at : (i d : ℕ) (e : Original) → i < length os → get_or numbers i d ≡ (get_or os i e).entry
  number_at i d e inside = get_or-map (λ (o : Original). o.entry) os i e d inside

  in_order : IsSortedBy (comes_before entries) numbers
  in_order k d low inside =
      let len : length numbers ≡ length os = length-map os (λ (o : Original). o.entry) in
      let next : k + 1 < length os = omega arith in
      let here : k < length os = omega arith in
      let x : Original = get_or os k none in
      let y : Original = get_or os (k + 1) none in
      let x_is : x ≡ original_of entries x.entry = (each_original entries os moved order k none here).is in
      let y_is : y ≡ original_of entries y.entry = (each_original entries os moved order (k + 1) none next).is in
      let o : is_lt (original_cmp (original_of entries y.entry) (original_of entries x.entry)) ≡ false =
      ap (λ p. is_lt (original_cmp p (original_of entries x.entry))) (sym y_is) ∙ ap (λ p. is_lt (original_cmp y p)) (sym x_is) ∙ order k none low next in
      rw (number_at k d none here, number_at (k + 1) d none next) o

  of_site : All (λ site. (i : ℕ) → site.first ≤ i → i < site.first + site.count → IsOriginalOf entries site (get_or numbers i 0)) sites
  of_site k d inside i from to =
      let site : AlternativesSite = get_or sites k d in
      let reach : site.first + site.count ≤ length os = fill_within 0 (length os) sites k d groups.fill inside in
      let within : i < length os = omega arith in
      let o : Original = get_or os i none in
      let alike = groups.alike k d inside i none from to in
      let is : o ≡ original_of entries o.entry = (each_original entries os moved order i none within).is in
      let is_site : IsOriginalOf entries site o.entry = record {
        start = sym (ap (λ (p : Original). p.place) is) ∙ alike.0;
        len = sym (ap (λ (p : Original). p.len) is) ∙ alike.1;
      } in
      subst (IsOriginalOf entries site) (sym (number_at i 0 none within)) is_site

  pub whole_sites : AreSitesOf entries sites numbers
  whole_sites = record {
    all = subst (λ ks. IsPermutation ks numbers) (numbers_back entries (counted entries)) (IsPermutation-map (λ (o : Original). o.entry) (originals_of entries) os moved);
    ordered = in_order;
    fill = subst (FillFrom 0 sites) (sym (length-map os (λ (o : Original). o.entry))) groups.fill;
    alike = of_site;
    apart = groups.apart;
  }
