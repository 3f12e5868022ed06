use Rattle.std.proofs.Common.{◌≡◌, ◌≤◌, Some, sym, ap, ◌∙◌, subst}
use Rattle.alternatives.specs.declared.point.Point.{Point}
use Rattle.flow_defs.specs.Coded.{Coded}
use Rattle.flow_defs.specs.Arrival.{is_short_nop}
use Rattle.flow_defs.specs.Code.{number_of, plain_point}
use Rattle.point_arrivals.proofs.NopRuns.{none_there, numbered, short_there}
use Rattle.point_arrivals.proofs.runs.is_short_nop_at.Goals as goal

pub returns-in-Some-clause-exact : goal.returns-in-Some-clause-exact
returns-in-Some-clause-exact c =
    let o : Coded = c.args.places.now in
    let found : number_of o (plain_point c.args.place) ≡ Some c.in-Some.n = sym c.number_by_guess.ensures ∙ c.in-Some.is in
    c.is_short_nop.ensures ∙ ap is_short_nop c.decoded_insn.ensures ∙ short_there o c.args.place c.in-Some.n found

pub returns-in-Some-clause-low : goal.returns-in-Some-clause-low
returns-in-Some-clause-low c = λ short.
    let o : Coded = c.args.places.now in
    let found : number_of o (plain_point c.args.place) ≡ Some c.in-Some.n = sym c.number_by_guess.ensures ∙ c.in-Some.is in
    let at = numbered o c.args.place c.in-Some.n found in
    subst (λ (p : Point). p.place.off ≤ 16777216) at.1 (c.requires c.in-Some.n at.0).place

pub returns-in-None-clause-exact : goal.returns-in-None-clause-exact
returns-in-None-clause-exact c =
    none_there c.args.places.now c.args.place (sym c.number_by_guess.ensures ∙ c.in-None.is)
