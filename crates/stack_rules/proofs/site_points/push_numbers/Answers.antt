-- One number more.
use Rattle.std.proofs.Common.{ℕ, ◌++◌, ◌∷◌, [], List, get_or, map, take, sym, ap, ◌∙◌}
use Rattle.std.proofs.lemmas.List.{append-nil, map-append, take_all, take_more}
use Rattle.stack_rules.specs.declared.site_points.SitedPoint.{SitedPoint}
use Rattle.stack_rules.proofs.Permuted.{push_behind}
use Rattle.stack_rules.proofs.site_points.push_numbers.Goals as goal

none : SitedPoint
none = record { site = 0; point = 0 }

pub loop-sited-init : goal.loop-sited-init
loop-sited-init c = sym (append-nil c.args.points.now.items)

pub loop-sited-preserved : goal.loop-sited-preserved
unfolding none
loop-sited-preserved c =
    let more : List SitedPoint = c.args.more.now in
    let i : ℕ = c.loop-sited.sited-index in
    let x : SitedPoint = get_or more i none in
    let old : List ℕ = c.args.points.now.items in
    let number : SitedPoint → ℕ = λ y. y.point in
    c.in_ok-push.ensures.items
    ∙ ap (λ (xs : List ℕ). xs ++ x.point ∷ []) c.loop-sited.invariant
    ∙ push_behind old (map number (take i more)) x.point
    ∙ ap (λ (xs : List ℕ). old ++ xs) (sym (map-append number (take i more) (x ∷ [])))
    ∙ ap (λ (xs : List SitedPoint). old ++ map number xs) (sym (take_more more i none c.loop-sited-test.true))

pub returns : goal.returns
returns c = c.loop-sited.invariant ∙ ap (λ (xs : List SitedPoint). c.args.points.now.items ++ map (λ (x : SitedPoint). x.point) xs) (take_all c.loop-sited.sited-index c.args.more.now c.loop-sited-test.false)
