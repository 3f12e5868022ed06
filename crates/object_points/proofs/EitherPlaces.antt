-- The places of hints that are a SAVE or a RESTORE.
use Rattle.std.proofs.Common.{◌≡◌, ℕ, ◌-◌, ◌<◌, Bool, true, false, not, cond, eqb, ◌&&◌, ◌||◌, length, List, [], ◌∷◌, find, reverse, Option, Some, None, Contains, inl, inr, refl, sym, ap, ◌∙◌, arith}
use Rattle.std.specs.Prelude.{filter_map, option_and_then, if◌then◌else◌}
use Rattle.std.specs.List.{list_any}
use Rattle.std.proofs.lemmas.Bool.{cases_Bool, false≢true}
use Rattle.std.proofs.lemmas.Bool.Decides.{nat_tests}
use Rattle.std.proofs.lemmas.List.Folds.{list_any_at}
use Rattle.std.proofs.lemmas.List.Sorted.{Contains-permutation, IsPermutation-reverse, IsPermutation-sym}
use Rattle.alternatives.proofs.Ascending.{contains_in, in_contains, In}
use Rattle.ot_base.specs.declared.place.Place.{Place}
use Rattle.ot_base.specs.Places.{same_place}
use Rattle.special_sections.specs.declared.entries.HintEntry.{HintEntry}
use Rattle.special_sections.specs.HintStates.{hint_at, hint_state}
use Rattle.std.specs.Option.{option_or}
use Rattle.std.proofs.lemmas.List.{get_or_default}
use Rattle.state_defs.specs.declared.state.HintState.{HintState}
use Rattle.state_defs.specs.declared.state.HintState.TheVariants.{Set, Save, Restore}
use Rattle.special_sections.specs.declared.entries.AltEntry.{AltEntry}
use Rattle.special_sections.specs.Special.{special_of}
use Rattle.alternatives.specs.Originals.{entry_at, no_entry}
use Rattle.alternatives.specs.Points.{entry_of}
use Rattle.alternatives.proofs.Opened.{variant_inside}
use Rattle.flow_defs.specs.Coded.{Coded}
use Rattle.flow_defs.specs.Arrival.{for_replacements, hint_of, own_hint_of, start_hint_of}
use Rattle.flow_defs.specs.Decoded.{is_padding}
use Rattle.flow_defs.specs.Code.{alternatives_of, point_at, points_of_object, texts_of}
use Rattle.flow_defs.specs.Hints.{is_restore}
use Rattle.object_points.proofs.Points.{numbered_point}
use Rattle.object_points.specs.Hinted.{is_either, place_of_either, place_of_restored}
use Rattle.object_points.specs.Places.{is_among}
use Rattle.object_points.proofs.ListedHints.{in-made}

-- what a search finds is listed, and passes
find_in : {X : Type 0} (q : X → Bool) (xs : List X) (x : X) → find q xs ≡ Some x → In x xs × (q x ≡ true)
find_in q [] x is = absurd (let k : ⊥ = cc in k)
find_in {X} q (y ∷ xs) x is =
    let go : (b : Bool) → q y ≡ b → cond b (Some y) (find q xs) ≡ Some x → In x (y ∷ xs) × (q x ≡ true) = λ b. elim b as (λ b. q y ≡ b → cond b (Some y) (find q xs) ≡ Some x → In x (y ∷ xs) × (q x ≡ true)) [
      | true ↦ λ passes some. let same : y ≡ x = cc in (inl same, ap q (sym same) ∙ passes)
      | false ↦ λ fails some. let rest = find_in q xs x some in (inr rest.0, rest.1)
    ] in
    go (q y) refl is

any_in : {X : Type 0} (p : X → Bool) (xs : List X) (x : X) → In x xs → p x ≡ true → list_any p xs ≡ true
any_in p xs x listed passes =
    let at : Contains xs x = contains_in xs x listed in
    list_any_at p xs at.0 x at.1 (ap p at.2 ∙ passes)

same_back : (a b c d : ℕ) → (eqb a c && eqb b d) ≡ true → (eqb c a && eqb d b) ≡ true
same_back a b c d same = grind (arith, nat_tests)

placed : (h : HintEntry) → is_either (hint_state h) ≡ true → place_of_either h ≡ Some h.place
placed h either = ap (λ b. if b then Some h.place else None) either

-- at a place that isn't among theirs there is none
pub none_elsewhere : (hints : List HintEntry) (place : Place) → is_among (filter_map place_of_either hints) place ≡ false → is_either (hint_at hints place) ≡ false
none_elsewhere hints place other =
    let here : HintEntry → Bool = λ h. same_place h.place place in
    let go : (found : Option HintEntry) → find here (reverse hints) ≡ found → is_either (option_and_then hint_state found) ≡ false = λ found. elim found as (λ found. find here (reverse hints) ≡ found → is_either (option_and_then hint_state found) ≡ false) [
      | None ↦ λ is. refl
      | Some h ↦ λ is. elim (cases_Bool (is_either (hint_state h))) [
        | inr neither ↦ neither
        | inl either ↦
            let found = find_in here (reverse hints) h is in
            let listed : In h hints = in_contains hints h (Contains-permutation (reverse hints) hints h (IsPermutation-sym hints (reverse hints) (IsPermutation-reverse hints)) (contains_in (reverse hints) h found.0)) in
            let among = any_in (same_place place) (filter_map place_of_either hints) h.place (in-made place_of_either hints h h.place listed (placed h either)) (same_back h.place.sec h.place.off place.sec place.off found.1) in
            absurd (false≢true (sym other ∙ among))
      ]
    ] in
    go (find here (reverse hints)) refl

-- ---- of points
neither_unless : (b : Bool) (hint : Option HintState) → is_either hint ≡ false → is_either (cond b None hint) ≡ false
neither_unless true hint none = refl
neither_unless false hint none = none

started : (hint : Option HintState) → is_either (for_replacements hint) ≡ true → is_restore hint ≡ true
started None h = absurd (false≢true h)
started (Some Save) h = absurd (false≢true h)
started (Some Restore) h = refl
started (Some (Set s)) h = absurd (false≢true h)

either_or : (own start : Option HintState) → is_either own ≡ false → is_either start ≡ false → is_either (option_or own start) ≡ false
either_or None start a b = b
either_or (Some hint) start a b = a

true_parts : (a b : Bool) → cond (not a && b) true false ≡ true → (a ≡ false) × (b ≡ true)
true_parts true b h = absurd (false≢true h)
true_parts false true h = (refl, refl)
true_parts false false h = absurd (false≢true h)

pub no_other : (a b : Bool) → (a || b) ≡ false → (a ≡ false) × (b ≡ false)
no_other false false h = (refl, refl)
no_other false true h = absurd (false≢true (sym h))
no_other true b h = absurd (false≢true (sym h))

positive : (v : ℕ) → eqb v 0 ≡ false → 0 < v
positive v h = grind (arith, nat_tests)

contained : (es : List AltEntry) (k : ℕ) → k < length es → Contains es (entry_at es k)
contained es k low = (k, low, get_or_default es k (entry_at es k) no_entry low)

module _ (o : Coded) (n : ℕ) (inside : n < length (points_of_object o)) where
  entry : AltEntry
  entry = entry_of (alternatives_of o) (point_at o n).variant

  -- the point's start hint is none where its replacement doesn't begin at one of the places
  start_neither : is_among (filter_map (place_of_restored (special_of o.elf).hints) (alternatives_of o)) (point_at o n).place ≡ false → is_either (start_hint_of o (point_at o n)) ≡ false
  unfolding entry
  start_neither other = by_first (eqb (point_at o n).variant 0) (same_place (point_at o n).place entry.replacement) refl refl
    where
      restored : eqb (point_at o n).variant 0 ≡ false → same_place (point_at o n).place entry.replacement ≡ true → is_either (for_replacements (hint_at (special_of o.elf).hints entry.original)) ≡ true → ⊥
      restored replaced first either =
          let inside_entries = variant_inside (texts_of o) (alternatives_of o) (point_at o n) (numbered_point o n inside) in
          let some : 0 < (point_at o n).variant = positive (point_at o n).variant replaced in
          let listed : In entry (alternatives_of o) = in_contains (alternatives_of o) entry (contained (alternatives_of o) ((point_at o n).variant - 1) (omega (arith, inside_entries, some))) in
          let made : place_of_restored (special_of o.elf).hints entry ≡ Some entry.replacement = ap (λ b. if b then Some entry.replacement else None) (started (hint_at (special_of o.elf).hints entry.original) either) in
          let among = any_in (same_place (point_at o n).place) (filter_map (place_of_restored (special_of o.elf).hints) (alternatives_of o)) entry.replacement (in-made (place_of_restored (special_of o.elf).hints) (alternatives_of o) entry entry.replacement listed made) first in
          false≢true (sym other ∙ among)

      by_first : (plain first : Bool) → eqb (point_at o n).variant 0 ≡ plain → same_place (point_at o n).place entry.replacement ≡ first → is_either (cond (not plain && first) (for_replacements (hint_at (special_of o.elf).hints entry.original)) None) ≡ false
      by_first true first a b = refl
      by_first false false a b = refl
      by_first false true a b = elim (cases_Bool (is_either (for_replacements (hint_at (special_of o.elf).hints entry.original)))) [
        | inl either ↦ absurd (restored a b either)
        | inr neither ↦ neither
      ]

  pub neither_elsewhere : is_among (filter_map place_of_either (special_of o.elf).hints) (point_at o n).place ≡ false → is_among (filter_map (place_of_restored (special_of o.elf).hints) (alternatives_of o)) (point_at o n).place ≡ false → is_either (hint_of o (point_at o n)) ≡ false
  unfolding hint_of own_hint_of
  neither_elsewhere none other =
      either_or (own_hint_of o (point_at o n)) (start_hint_of o (point_at o n))
      (neither_unless (is_padding o (point_at o n)) (hint_at (special_of o.elf).hints (point_at o n).place) (none_elsewhere (special_of o.elf).hints (point_at o n).place none))
      (start_neither other)
