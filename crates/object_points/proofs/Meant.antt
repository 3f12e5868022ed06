-- What RESTOREs mean.
use Rattle.std.proofs.Common.{◌≡◌, ℕ, ◌<◌, Bool, true, false, cond, List, [], ◌∷◌, filter, length, get_or, map, Option, Some, None, All, Contains, refl, sym, ap, ◌∙◌, subst, arith}
use Rattle.std.specs.Prelude.{◌↔◌, filter_map, is_some, option_map, slice_range}
use Rattle.std.specs.List.{cons_option}
use Rattle.std.specs.List.Sorted.{IsPermutation}
use Rattle.std.proofs.lemmas.List.{get_or-map, length-map}
use Rattle.std.proofs.lemmas.List.Elements.{All-from_get_or, Contains-get_or}
use Rattle.std.proofs.lemmas.List.Sorted.{IsPermutation-map}
use Rattle.flow_defs.specs.Coded.{Coded}
use Rattle.alternatives.specs.declared.point.Point.{Point}
use Rattle.state_defs.specs.declared.state.HintState.{HintState}
use Rattle.state_defs.specs.declared.state.HintState.TheVariants.{Restore, Save, Set}
use Rattle.flow_defs.specs.Code.{point_at, points_of_object}
use Rattle.flow_defs.specs.Hints.{hint_of, is_restore, save_of}
use Rattle.object_points.specs.Hinted.{is_restore_at, numbers_of_points}
use Rattle.object_points.specs.Meanings.{meaning_of, meanings_of, nearest_save, restores_with_save, AreMeanings, IsRunOf}
use Rattle.object_points.specs.declared.meanings.Meaning.{Meaning}
use Rattle.object_points.proofs.ListedHints.{listed_meaning, meaning_listed, IsMeaningOf}
use Rattle.object_points.proofs.Run.{meant_restore, restore_meant}

-- a RESTORE means the nearest SAVE, and no other point means one
pub restore_means : (o : Coded) (point : Point) → is_restore (hint_of o point) ≡ true → save_of o point ≡ nearest_save o point
unfolding save_of nearest_save
restore_means o point is = ap (λ b. cond b (nearest_save o point) None) is

pub other_means : (o : Coded) (point : Point) → is_restore (hint_of o point) ≡ false → save_of o point ≡ None
unfolding save_of nearest_save
other_means o point is = ap (λ b. cond b (nearest_save o point) None) is

restore_is : (h : Option HintState) → is_restore h ≡ true → h ≡ Some Restore
restore_is (Some Restore) is = refl
restore_is (Some Save) is = absurd (let k : ⊥ = cc in k)
restore_is (Some (Set s)) is = absurd (let k : ⊥ = cc in k)
restore_is None is = absurd (let k : ⊥ = cc in k)

-- one more, with whether it is a RESTORE, and the nearest SAVE
meant_more : (make : ℕ → Option Meaning) (r : ℕ) (is : Bool) (found : Option ℕ) (rest meant : List ℕ)
    → make r ≡ option_map (λ s. record { save = s; restore = r }) found
    → map (λ (m : Meaning). m.restore) (filter_map make rest) ≡ meant
    → map (λ (m : Meaning). m.restore) (filter_map make (cond is (r ∷ rest) rest)) ≡ cond (is_some (cond is found None)) (r ∷ meant) meant
meant_more make r true (Some s) rest meant made same = ap (λ o. map (λ (m : Meaning). m.restore) (cons_option o (filter_map make rest))) made ∙ ap (λ list. r ∷ list) same
meant_more make r true None rest meant made same = ap (λ o. map (λ (m : Meaning). m.restore) (cons_option o (filter_map make rest))) made ∙ same
meant_more make r false found rest meant made same = same

-- the RESTOREs among some points that mean a SAVE
with_save : (o : Coded) (rs : List ℕ) → map (λ (m : Meaning). m.restore) (filter_map (meaning_of o) (filter (is_restore_at o) rs)) ≡ filter (λ r. is_some (save_of o (point_at o r))) rs
unfolding save_of nearest_save
with_save o [] = refl
with_save o (r ∷ rs) = meant_more (meaning_of o) r (is_restore_at o r) (nearest_save o (point_at o r)) (filter (is_restore_at o) rs) (filter (λ r. is_some (save_of o (point_at o r))) rs) refl (with_save o rs)

module _ (o : Coded) (meanings : List Meaning) (restores : List ℕ) (are : AreMeanings o meanings restores) where
  restore_of : Meaning → ℕ
  restore_of m = m.restore

  pub restores_below : All (λ r. r < length (points_of_object o)) restores
  unfolding restore_of
  restores_below =
      All-from_get_or (λ r. r < length (points_of_object o)) restores 0 (λ k inside.
      let d : Meaning = record { save = 0; restore = 0 } in
      let known : k < length meanings = omega (arith, inside, ap length are.each, length-map meanings restore_of) in
      let one : IsMeaningOf o (get_or meanings k d) = listed_meaning o meanings (get_or meanings k d) are.all (Contains-get_or meanings k d known) in
      subst (λ r. r < length (points_of_object o)) (sym (ap (λ list. get_or list k 0) are.each ∙ get_or-map restore_of meanings k d 0 known)) one.inside)

  -- those of the run of a SAVE are those that mean it
  pub members : (save from to : ℕ) → IsRunOf meanings save from to → (r : ℕ) → Contains (slice_range restores from to) r ↔ ((r < length (points_of_object o)) × (hint_of o (point_at o r) ≡ Some Restore) × (save_of o (point_at o r) ≡ Some save))
  members save from to run r =
      let all : List ℕ = map (λ (m : Meaning). m.restore) meanings in (
        λ listed.
            let one : IsMeaningOf o (record { save = save; restore = r }) = listed_meaning o meanings (record { save = save; restore = r }) are.all (restore_meant meanings save from to run r (subst (λ (list : List ℕ). Contains (slice_range list from to) r) are.each listed)) in
            (one.inside, restore_is (hint_of o (point_at o r)) one.restores, restore_means o (point_at o r) one.restores ∙ one.means),
        λ is.
            let restores_it : is_restore (hint_of o (point_at o r)) ≡ true = ap is_restore is.1 in
            let means : nearest_save o (point_at o r) ≡ Some save = sym (restore_means o (point_at o r) restores_it) ∙ is.2 in
            subst (λ (list : List ℕ). Contains (slice_range list from to) r) (sym are.each) (meant_restore meanings save from to run r (meaning_listed o meanings r save are.all is.0 restores_it means)),
      )

  -- each RESTORE that means a SAVE is listed once
  pub restores_all : IsPermutation (restores_with_save o) restores
  restores_all =
      subst (λ (list : List ℕ). IsPermutation list restores) (with_save o (numbers_of_points o))
      (subst (λ (list : List ℕ). IsPermutation (map (λ (m : Meaning). m.restore) (meanings_of o)) list) (sym are.each)
      (IsPermutation-map (λ (m : Meaning). m.restore) (meanings_of o) meanings are.all))
