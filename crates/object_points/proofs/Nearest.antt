-- What halving finds is the nearest SAVE.
use Rattle.std.proofs.Common.{◌≡◌, ℕ, ◌<◌, true, false, List, length, get_or, Option, Some, None, inl, inr, sym, ap, ◌∙◌, subst, arith}
use Rattle.std.specs.Prelude.{option_and_then}
use Rattle.std.specs.List.Sorted.{IsStrictlySortedBy}
use Rattle.std.proofs.lemmas.Bool.{and_from, and_parts, cases_Bool, false≢true}
use Rattle.std.proofs.lemmas.List.{get_or_default}
use Rattle.std.proofs.lemmas.List.Elements.{Contains-get_or}
use Rattle.std.proofs.lemmas.Option.{slice_get-get_or}
use Rattle.ot_base.specs.declared.place.Place.{Place}
use Rattle.flow_defs.specs.Coded.{Coded}
use Rattle.alternatives.specs.declared.point.Point.{Point}
use Rattle.alternatives.specs.Points.{address_of_point, point_cmp}
use Rattle.object_points.proofs.TextsLemmas.{texts_ascend}
use Rattle.flow_defs.specs.Code.{alternatives_of, no_point, number_of, point_at, points_of_object, texts_of}
use Rattle.flow_defs.specs.Hints.{is_nearer, is_save_before, nearest, saves_before}
use Rattle.flow_defs.specs.Owners.{owner_of_point}
use Rattle.object_points.proofs.Numbers.{all_sorted, numbered}
use Rattle.object_points.specs.declared.saves.SavePoint.{SavePoint}
use Rattle.object_points.specs.Hinted.{is_save_at, save_at, AreSaves}
use Rattle.object_points.specs.Meanings.{nearest_save}
use Rattle.object_points.specs.SaveOrder.{is_below, is_nearer_save, IsNearest, IsNearestAt}
use Rattle.object_points.proofs.Finding.{nearest_at, nearest_nowhere}
use Rattle.object_points.proofs.ListedHints.{listed_save, save_listed, IsSaveOf}

sorted_object : (o : Coded) → IsStrictlySortedBy point_cmp (points_of_object o)
unfolding points_of_object
sorted_object o = all_sorted (texts_of o) (alternatives_of o) (texts_ascend o)

-- a point's number is its index
number_is : (o : Coded) (n : ℕ) → n < length (points_of_object o) → number_of o (point_at o n) ≡ Some n
number_is o n inside = sym (numbered (points_of_object o) (point_at o n) (Some n) (sorted_object o) (slice_get-get_or (points_of_object o) n no_point inside))

module _ (o : Coded) (saves : List SavePoint) (point : Point) (are : AreSaves o saves) where
  abbrev owner : Option ℕ
  owner = owner_of_point o point

  abbrev address : Place
  address = address_of_point (alternatives_of o) point

  -- what is told of the listed SAVEs below the point's address is told of the SAVEs before the point
  before_parts : (k : ℕ) → is_save_before o point (point_at o k) ≡ true → (is_save_at o k ≡ true) × (is_below owner address (save_at o k) ≡ true)
  before_parts k before = and_parts (is_save_at o k) (is_below owner address (save_at o k)) before

  found_one : (n at : ℕ) → IsNearestAt saves owner address n at → nearest_save o point ≡ Some n
  unfolding nearest_save
  found_one n at near =
      let s : SavePoint = get_or saves at (save_at o n) in
      let one : IsSaveOf o s = listed_save o saves s are (Contains-get_or saves at (save_at o n) near.inside) in
      let number : s.number ≡ n = near.number (save_at o n) in
      let here : (e : SavePoint) → get_or saves at e ≡ save_at o n = λ e. get_or_default saves at e (save_at o n) near.inside ∙ one.is ∙ ap (save_at o) number in
      let inside : n < length (points_of_object o) = subst (λ k. k < length (points_of_object o)) number one.inside in
      let saved : is_save_at o n ≡ true = subst (λ k. is_save_at o k ≡ true) number one.saves in
      let below : is_below owner address (save_at o n) ≡ true = ap (is_below owner address) (sym (here (save_at o n))) ∙ near.below (save_at o n) in
      let first : nearest o (saves_before o point) ≡ Some (point_at o n) =
      nearest_at (is_save_before o point) (is_nearer o) (points_of_object o) no_point n inside (and_from (is_save_at o n) (is_below owner address (save_at o n)) saved below)
      (λ k within before.
      let parts = before_parts k before in
      let listed = save_listed o saves k are within parts.0 in
      let e : SavePoint = save_at o k in
      ap (λ x. is_nearer_save x (save_at o n)) (sym listed.2) ∙ ap (is_nearer_save (get_or saves listed.0 e)) (sym (here e)) ∙ near.nearest listed.0 e listed.1 (ap (is_below owner address) listed.2 ∙ parts.1))
      (λ k lower before.
      let parts = before_parts k before in
      let listed = save_listed o saves k are (omega (arith, lower, inside)) parts.0 in
      let e : SavePoint = save_at o k in
      let less : (get_or saves listed.0 e).number < n = subst (λ m. m < n) (sym (ap (λ (x : SavePoint). x.number) listed.2)) lower in
      ap (is_nearer_save (save_at o n)) (sym listed.2) ∙ ap (λ x. is_nearer_save x (get_or saves listed.0 e)) (sym (here e)) ∙ near.first listed.0 e listed.1 (ap (is_below owner address) listed.2 ∙ parts.1) less) in
      ap (option_and_then (number_of o)) first ∙ number_is o n inside

  found_none : ((k : ℕ) (d : SavePoint) → k < length saves → is_below owner address (get_or saves k d) ≡ false) → nearest_save o point ≡ None
  unfolding nearest_save
  found_none none =
      let nowhere : nearest o (saves_before o point) ≡ None =
      nearest_nowhere (is_save_before o point) (is_nearer o) (points_of_object o) no_point (λ k inside.
      elim (cases_Bool (is_save_before o point (point_at o k))) [
        | inl before ↦
            let parts = before_parts k before in
            let listed = save_listed o saves k are inside parts.0 in
            absurd (false≢true (sym (none listed.0 (save_at o k) listed.1) ∙ ap (is_below owner address) listed.2 ∙ parts.1))
        | inr other ↦ other
      ]) in
      ap (option_and_then (number_of o)) nowhere

  pub nearest_meant : (found : Option ℕ) → IsNearest saves owner address found → found ≡ nearest_save o point
  nearest_meant None none = sym (found_none none)
  nearest_meant (Some n) one = sym (found_one n one.0 one.1)
