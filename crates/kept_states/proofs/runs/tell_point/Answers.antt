-- One more point is told of.
use Rattle.std.proofs.Common.{◌≡◌, ◌+◌, ◌<◌, ℕ, length, false, refl, sym, ◌∙◌, arith}
use Rattle.kept_states.specs.Passages.{IsOrdinary}
use Rattle.kept_states.proofs.PassageLemmas.{next_inside, not_first}
use Rattle.kept_states.proofs.runs.tell_point.Goals as goal

pub returns-then-lead_straight-clause-told : goal.returns-then-lead_straight-clause-told
returns-then-lead_straight-clause-told c p t told =
    let some = c.in-Some.ensures in
    let ordinary : IsOrdinary p c.args.n = record { first = not_first p c.args.n (some.hint refl p t) (some.entered refl p t); meant = some.meant refl p t } in
    let checked : p.unchecked c.args.n ≡ false = (let h = c.requires.checked p t in let i = c.if-not-is_checked.false in grind arith) in
    c.tell_linked.ensures.told p told
    (c.straight_passage.ensures.passage p c.args.n (some.op p t) checked (some.hint refl p t) ordinary (sym (c.successors-edges.ensures.edges p t) ∙ c.if-lead_straight.ensures.edges.0 refl))

pub returns-clause-told : goal.returns-clause-told
returns-clause-told c p t told =
    let some = c.in-Some.ensures in
    let ordinary : IsOrdinary p c.args.n = record { first = not_first p c.args.n (some.hint refl p t) (some.entered refl p t); meant = some.meant refl p t } in
    let checked : p.unchecked c.args.n ≡ false = (let h = c.requires.checked p t in let i = c.if-not-is_checked.false in grind arith) in
    c.tell_linked-2.ensures.told p told
    (c.usual_passage.ensures.passage p c.args.n (some.op p t) checked (some.hint refl p t) ordinary)

pub tell_linked-requires-clause-own : goal.tell_linked-requires-clause-own
tell_linked-requires-clause-own c straight =
    let points : ℕ = length c.args.graph.now.parts.points.items in
    let inside : c.args.n + 1 < points = next_inside c.successors-edges.result.now c.args.n points (c.if-lead_straight.ensures.edges.0 refl) c.successors-edges.ensures.within in
    (c.if-lead_straight.ensures.fits refl, omega (arith, inside, c.requires.passages))
