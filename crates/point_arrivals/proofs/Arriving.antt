-- Where control may stand that comes to a place.
use Rattle.std.proofs.Common.{◌≡◌, ℕ, ◌+◌, ◌<◌, true, false, eqb, ◌&&◌, List, [], ◌∷◌, ◌++◌, length, get_or, map, take, Option, Some, None, All, refl, sym, ap, ◌∙◌, subst, arith}
use Rattle.std.specs.Prelude.{filter_map}
use Rattle.std.specs.List.{cons_option, range_with_len}
use Rattle.std.proofs.lemmas.Bool.{false≢true}
use Rattle.std.proofs.lemmas.Bool.Decides.{nat_tests}
use Rattle.std.proofs.lemmas.List.{get_or-map, length-map}
use Rattle.std.proofs.lemmas.List.Elements.{All-filter, filter_passes}
use Rattle.std.proofs.lemmas.List.Folds.{list_any_at}
use Rattle.ot_base.specs.declared.place.Place.{Place}
use Rattle.ot_base.specs.Places.{same_place}
use Rattle.flow_defs.specs.Coded.{Coded}
use Rattle.special_sections.specs.declared.entries.AltEntry.{AltEntry}
use Rattle.alternatives.specs.Originals.{counted, counts, entry_at, no_entry}
use Rattle.alternatives.specs.Points.{entries_from, first_of}
use Rattle.alternatives.proofs.Opened.{counts_inside}
use Rattle.flow_defs.specs.Arrival.{arrive}
use Rattle.flow_defs.specs.Code.{alternatives_of, number_of, numbers_of, plain_point}
use Rattle.object_points.specs.Places.{is_among}
use Rattle.object_points.proofs.Found.{made_more}
use Rattle.point_arrivals.specs.Lists.{original_places_of}
use Rattle.point_arrivals.proofs.Numbers.{numbers_inside, numbers_of_points, IsNumber}

-- the number of the first point of the replacement of an entry
abbrev pub first_number : Coded → ℕ → Option ℕ
first_number o k = number_of o (first_of (alternatives_of o) k)

-- the points at a place and in the replacements of some entries
abbrev pub standing_at : Coded → Place → List ℕ → List ℕ
standing_at o place ks = cons_option (number_of o (plain_point place)) (filter_map (first_number o) ks)

numbers_map : (o : Coded) (ks : List ℕ) → numbers_of o (map (first_of (alternatives_of o)) ks) ≡ filter_map (first_number o) ks
numbers_map o [] = refl
numbers_map o (k ∷ ks) = ap (cons_option (first_number o k)) (numbers_map o ks)

pub arrive_is : (o : Coded) (place : Place) → standing_at o place (entries_from (alternatives_of o) place) ≡ arrive o place
unfolding arrive
arrive_is o place =
    ap (cons_option (number_of o (plain_point place))) (sym (numbers_map o (entries_from (alternatives_of o) place)))
    ∙ sym (numbers_of_points o (plain_point place ∷ map (first_of (alternatives_of o)) (entries_from (alternatives_of o) place)))

pub arrive_inside : (o : Coded) (place : Place) → All (IsNumber o) (arrive o place)
arrive_inside o place =
    subst (All (IsNumber o)) (ap (cons_option (number_of o (plain_point place))) (numbers_map o (entries_from (alternatives_of o) place)) ∙ arrive_is o place)
    (numbers_inside o (plain_point place ∷ map (first_of (alternatives_of o)) (entries_from (alternatives_of o) place)))

cons-append : (x : Option ℕ) (ks ls : List ℕ) → cons_option x (ks ++ ls) ≡ cons_option x ks ++ ls
cons-append None ks ls = refl
cons-append (Some n) ks ls = refl

pub standing_more : (o : Coded) (place : Place) (ks : List ℕ) (i : ℕ) (made : Option ℕ) → i < length ks → first_number o (get_or ks i 0) ≡ made → standing_at o place (take (i + 1) ks) ≡ standing_at o place (take i ks) ++ cons_option made []
standing_more o place ks i made inside is =
    ap (cons_option (number_of o (plain_point place))) (made_more (first_number o) ks i 0 made inside is)
    ∙ cons-append (number_of o (plain_point place)) (filter_map (first_number o) (take i ks)) (cons_option made [])

-- only entries that are there have an original that begins at a place
pub entries_inside : (entries : List AltEntry) (place : Place) → All (λ k. k < length entries) (entries_from entries place)
entries_inside entries place =
    All-filter (λ k. same_place (entry_at entries k).original place) (λ k. k < length entries) (counted entries)
    (λ i d inside. counts_inside entries (get_or (counted entries) i d) (filter_passes (λ k. counts (entry_at entries k)) (range_with_len 0 (length entries)) i d inside))

-- where no original begins, none of an entry does
other_place : (a b c d : ℕ) → (eqb a c && eqb b d) ≡ true → (eqb c a && eqb d b) ≡ true
other_place a b c d same = grind (arith, nat_tests)

original_at : (entries : List AltEntry) (place : Place) (k : ℕ) → k < length entries → same_place (entry_at entries k).original place ≡ true → is_among (original_places_of entries) place ≡ true
original_at entries place k inside here =
    let p : Place = (entry_at entries k).original in
    list_any_at (same_place place) (original_places_of entries) k place (omega (arith, inside, length-map entries (λ (a : AltEntry). a.original)))
    (ap (same_place place) (get_or-map (λ (a : AltEntry). a.original) entries k no_entry place inside) ∙ other_place p.sec p.off place.sec place.off here)

pub no_original : (entries : List AltEntry) (place : Place) → is_among (original_places_of entries) place ≡ false → entries_from entries place ≡ []
no_original entries place none = by (entries_from entries place) refl
  where
    by : (ks : List ℕ) → entries_from entries place ≡ ks → ks ≡ []
    by [] is = refl
    by (k ∷ ks) is =
        let some : 0 < length (entries_from entries place) = omega (arith, ap length is) in
        let first : ℕ = get_or (entries_from entries place) 0 0 in
        let here : same_place (entry_at entries first).original place ≡ true = filter_passes (λ j. same_place (entry_at entries j).original place) (counted entries) 0 0 some in
        absurd (false≢true (sym none ∙ original_at entries place first (entries_inside entries place 0 0 some) here))

-- where no original begins, control that comes to a place stands only at the plain point there
pub alone_is : (o : Coded) (place : Place) (n : ℕ) → is_among (original_places_of (alternatives_of o)) place ≡ false → number_of o (plain_point place) ≡ Some n → arrive o place ≡ n ∷ []
alone_is o place n none is =
    sym (arrive_is o place)
    ∙ ap (standing_at o place) (no_original (alternatives_of o) place none)
    ∙ ap (λ x. cons_option x []) is
