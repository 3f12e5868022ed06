use Rattle.std.proofs.Common.{◌≡◌, true, false, Some, None, sym, ap, ◌∙◌}
use Rattle.std.specs.Prelude.{option_map}
use Rattle.program_graph.specs.Tells.{site_of}
use Rattle.alternatives.specs.declared.point.Point.{Point}
use Rattle.alternatives.specs.Texts.{behind}
use Rattle.flow_defs.specs.Coded.{Coded}
use Rattle.flow_defs.specs.Arrival.{behind_plain, decoded_insn, is_short_nop}
use Rattle.flow_defs.specs.Code.{point_at}
use Rattle.flow_defs.specs.Sites.{site_holding}
use Rattle.point_arrivals.proofs.NopRuns.{behind_long, behind_run, held}
use Rattle.point_arrivals.proofs.behind.place_behind_plain.Goals as goal

pub returns-then-not-is_short_nop : goal.returns-then-not-is_short_nop
returns-then-not-is_short_nop c =
    let o : Coded = c.args.places.now in
    let p : Point = point_at o c.args.n in
    let long : is_short_nop (decoded_insn o p) ≡ false = sym (c.is_short_nop.ensures ∙ ap is_short_nop c.decoded_insn.ensures) ∙ c.if-not-is_short_nop.true in
    c.end_of.ensures ∙ sym (behind_long o p.place (decoded_insn o p) (site_holding o p.place) long)

pub run_from-requires-clause-inside : goal.run_from-requires-clause-inside
run_from-requires-clause-inside c =
    let o : Coded = c.args.places.now in
    let p : Point = point_at o c.args.n in
    let there : site_holding o p.place ≡ Some (site_of c.in-Some.site) =
    ap (λ (q : Point). site_holding o q.place) (sym c.point.ensures) ∙ sym c.site_holding.ensures ∙ ap (option_map site_of) c.in-Some.is in
    held o p.place (site_of c.in-Some.site) there

pub returns-in-Some : goal.returns-in-Some
returns-in-Some c =
    let o : Coded = c.args.places.now in
    let p : Point = point_at o c.args.n in
    let short : is_short_nop (decoded_insn o p) ≡ true = sym (c.is_short_nop.ensures ∙ ap is_short_nop c.decoded_insn.ensures) ∙ c.if-not-is_short_nop.false in
    let there : site_holding o p.place ≡ Some (site_of c.in-Some.site) =
    ap (λ (q : Point). site_holding o q.place) (sym c.point.ensures) ∙ sym c.site_holding.ensures ∙ ap (option_map site_of) c.in-Some.is in
    ap (λ (q : Point). behind q.place c.run_from.result) c.point.ensures
    ∙ ap (behind p.place) c.run_from.ensures.exact
    ∙ sym (behind_run o p.place (decoded_insn o p) (site_of c.in-Some.site) (site_holding o p.place) short there)

pub returns-in-None : goal.returns-in-None
returns-in-None c =
    let o : Coded = c.args.places.now in
    let p : Point = point_at o c.args.n in
    let none : site_holding o p.place ≡ None =
    ap (λ (q : Point). site_holding o q.place) (sym c.point.ensures) ∙ sym c.site_holding.ensures ∙ ap (option_map site_of) c.in-None.is in
    c.end_of-in-None.ensures ∙ sym (ap (behind_plain o p.place (decoded_insn o p)) none)
