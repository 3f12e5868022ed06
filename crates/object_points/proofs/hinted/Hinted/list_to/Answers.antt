use Rattle.std.proofs.Common.{◌≡◌, ℕ, List, sym, ap, ◌∙◌, subst, arith}
use Rattle.std.proofs.lemmas.Bool.{false≢true}
use Rattle.alternatives.specs.Numbers.{IsRunOf}
use Rattle.alternatives.specs.declared.point.Point.{Point}
use Rattle.flow_defs.specs.Coded.{Coded}
use Rattle.flow_defs.specs.Code.{no_point, points_of_object}
use Rattle.object_points.proofs.Onward.{listed_on}
use Rattle.object_points.proofs.hinted.Hinted.list_to.Goals as goal

pub loop-n-init : goal.loop-n-init
loop-n-init c =
    let o : Coded = c.args.places.now in
    let first : ℕ = c.numbers_at-first.result.0 in
    let end : ℕ = c.numbers_at-first.result.1 in
    let points : c.sites.result.now.points ≡ points_of_object o = c.sites.ensures.points ∙ ap points_of_object c.linked.ensures in
    let run : IsRunOf (points_of_object o) c.args.place first end = subst (λ (ps : List Point). IsRunOf ps c.args.place first end) points c.numbers_at-first.ensures in
    listed_on o c.args.self.now.saves.items c.args.self.now.restores.items c.args.from c.max-from.result (omega arith)
    (λ n on below. c.requires.none n on (omega (arith, run.order, run.within)) (run.below n no_point (omega arith)))
    c.requires.listed

pub returns-clause-none : goal.returns-clause-none
returns-clause-none c = λ n on inside upto.
    let o : Coded = c.args.places.now in
    let first : ℕ = c.numbers_at-first.result.0 in
    let end : ℕ = c.numbers_at-first.result.1 in
    let points : c.sites.result.now.points ≡ points_of_object o = c.sites.ensures.points ∙ ap points_of_object c.linked.ensures in
    let run : IsRunOf (points_of_object o) c.args.place first end = subst (λ (ps : List Point). IsRunOf ps c.args.place first end) points c.numbers_at-first.ensures in
    absurd (false≢true (sym upto ∙ run.above n no_point (omega arith) inside))
