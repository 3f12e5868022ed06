-- Each point goes behind one of two lists, of which the other is sorted.
use Rattle.std.proofs.Common.{◌≡◌, ℕ, ◌+◌, ◌++◌, ◌∷◌, [], List, get_or, map, take, sym, ap, ◌∙◌, subst}
use Rattle.std.specs.List.Sorted.{IsPermutation}
use Rattle.std.proofs.lemmas.List.{map-append, take_all, take_more}
use Rattle.std.proofs.lemmas.List.Sorted.{IsPermutation-append_left, IsPermutation-append_right, IsPermutation-map, IsPermutation-refl, IsPermutation-trans}
use Rattle.stack_rules.specs.declared.site_points.SitedPoint.{SitedPoint}
use Rattle.stack_rules.proofs.Permuted.{moved_between, push_behind}
use Rattle.stack_rules.proofs.site_points.by_site.Goals as goal
use Rattle.stack_rules.proofs.site_points.by_site.Goals.{then-variant-eq0+in_ok-push, else-variant-eq0+in_ok-push-2}

pub loop-n-init : goal.loop-n-init
loop-n-init c =
    let new = c.new-new.ensures.items in
    let replaced = c.new-replaced.ensures.items in
    rw (new, replaced) (IsPermutation-refl [])

pub loop-n-preserved : goal.loop-n-preserved
loop-n-preserved c =
    let points : List ℕ = c.args.points.now in
    let i : ℕ = c.loop-n.n-index in
    let x : ℕ = get_or points i 0 in
    let number : SitedPoint → ℕ = λ y. y.point in
    let new : List ℕ = c.loop-n.new.items in
    let replaced : List SitedPoint = c.loop-n.replaced.items in
    let numbers : List ℕ = map number replaced in
    let more : take (i + 1) points ≡ take i points ++ x ∷ [] = take_more points i 0 c.loop-n-test.true in
    let grown : IsPermutation (take (i + 1) points) ((new ++ numbers) ++ x ∷ []) = subst (λ (xs : List ℕ). IsPermutation xs ((new ++ numbers) ++ x ∷ [])) (sym more) (IsPermutation-append_left (x ∷ []) (take i points) (new ++ numbers) c.loop-n.invariant) in
    elim c.if-variant-eq0.branch [
      | then-variant-eq0+in_ok-push w ↦
          let new_is = w.new-is in
          let replaced_is = w.replaced-is in
          let pushed = w.in_ok-push.ensures.items in
          rw (new_is, replaced_is, pushed) (IsPermutation-trans (take (i + 1) points) ((new ++ numbers) ++ x ∷ []) ((new ++ x ∷ []) ++ numbers) grown (moved_between new numbers x))
      | else-variant-eq0+in_ok-push-2 w ↦
          let new_is = w.new-is in
          let replaced_is = w.replaced-is in
          let pushed = w.in_ok-push-2.ensures.items in
          let last : SitedPoint = w.with_site.result in
          let is : (new ++ numbers) ++ x ∷ [] ≡ new ++ map number (replaced ++ last ∷ []) =
          push_behind new numbers x
          ∙ ap (λ (n : ℕ). new ++ (numbers ++ n ∷ [])) (sym w.with_site.ensures)
          ∙ ap (λ (xs : List ℕ). new ++ xs) (sym (map-append number replaced (last ∷ []))) in
          rw (new_is, replaced_is, pushed) (subst (IsPermutation (take (i + 1) points)) is grown)
    ]

pub returns : goal.returns
returns c =
    let points : List ℕ = c.args.points.now in
    let number : SitedPoint → ℕ = λ y. y.point in
    let new : List ℕ = c.loop-n.new.items in
    let old : List SitedPoint = c.loop-n.replaced.items in
    let sorted : List SitedPoint = c.sort_unstable.new.self.items in
    let all : IsPermutation points (new ++ map number old) = subst (λ (xs : List ℕ). IsPermutation xs (new ++ map number old)) (take_all c.loop-n.n-index points c.loop-n-test.false) c.loop-n.invariant in
    let moved : IsPermutation (new ++ map number old) (new ++ map number sorted) = IsPermutation-append_right new (map number old) (map number sorted) (IsPermutation-map number old sorted c.sort_unstable.ensures.permutation) in
    let is : c.push_numbers.new.points.items ≡ new ++ map number sorted = c.in_ok-push_numbers.ensures ∙ ap (λ (xs : List SitedPoint). new ++ map number xs) c.deref.ensures.value in
    subst (IsPermutation points) (sym is) (IsPermutation-trans points (new ++ map number old) (new ++ map number sorted) all moved)
