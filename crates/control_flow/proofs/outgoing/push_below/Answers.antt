use Rattle.std.proofs.Common.{◌≡◌, ℕ, ◌<◌, ◌++◌, Bool, true, false, List, All, sym, ap, ◌∙◌, subst}
use Rattle.std.proofs.lemmas.List.{append-nil}
use Rattle.flow_defs.specs.Coded.{Coded}
use Rattle.machine_defs.specs.declared.flow.Edge.{Edge}
use Rattle.flow_defs.specs.Code.{point_at}
use Rattle.flow_defs.specs.Owners.{is_unchecked_point}
use Rattle.control_flow.specs.Listed.{count_of}
use Rattle.control_flow.proofs.GoesOn.{below_inside, straight_goes}
use Rattle.control_flow.proofs.outgoing.push_below.Goals as goal

-- whether the point is checked, in the object of the points
told : (o own : Coded) (n : ℕ) (is b : Bool) → own ≡ o → is ≡ is_unchecked_point own (point_at own n) → is ≡ b → is_unchecked_point o (point_at o n) ≡ b
told o own n is b same tells known = ap (λ (e : Coded). is_unchecked_point e (point_at e n)) (sym same) ∙ (sym tells ∙ known)

pub returns-then-is_unchecked_point-clause-pushed : goal.returns-then-is_unchecked_point-clause-pushed
returns-then-is_unchecked_point-clause-pushed c =
    let o : Coded = c.args.points.now in
    let before : List Edge = c.args.edges.now.items in
    let unchecked = told o c.places.result.now c.args.n c.is_unchecked_point.result true c.places.ensures c.is_unchecked_point.ensures c.if-is_unchecked_point.true in
    sym (ap (λ (es : List Edge). before ++ es) (straight_goes o c.args.n c.requires.straight true unchecked) ∙ append-nil before)

pub returns-then-is_unchecked_point-clause-inside : goal.returns-then-is_unchecked_point-clause-inside
returns-then-is_unchecked_point-clause-inside c =
    let o : Coded = c.args.points.now in
    let unchecked = told o c.places.result.now c.args.n c.is_unchecked_point.result true c.places.ensures c.is_unchecked_point.ensures c.if-is_unchecked_point.true in
    subst (λ (es : List Edge). All (λ e. e.to < count_of o) es) (sym (straight_goes o c.args.n c.requires.straight true unchecked)) (below_inside o c.args.n c.requires.straight true)

pub returns-clause-pushed : goal.returns-clause-pushed
returns-clause-pushed c =
    let o : Coded = c.args.points.now in
    let before : List Edge = c.args.edges.now.items in
    let checked = told o c.places.result.now c.args.n c.is_unchecked_point.result false c.places.ensures c.is_unchecked_point.ensures c.if-is_unchecked_point.false in
    c.in_ok-push.ensures.items ∙ ap (λ (es : List Edge). before ++ es) (sym (straight_goes o c.args.n c.requires.straight false checked))

pub returns-clause-inside : goal.returns-clause-inside
returns-clause-inside c =
    let o : Coded = c.args.points.now in
    let checked = told o c.places.result.now c.args.n c.is_unchecked_point.result false c.places.ensures c.is_unchecked_point.ensures c.if-is_unchecked_point.false in
    subst (λ (es : List Edge). All (λ e. e.to < count_of o) es) (sym (straight_goes o c.args.n c.requires.straight false checked)) (below_inside o c.args.n c.requires.straight false)
