use Rattle.std.proofs.Common.{arith, ap, sym, ◌∙◌}
use Rattle.std.specs.Prelude.{option_map}
use Rattle.orc_walk.specs.declared.faults.PlaceWhy.TheVariants.{Overlaps}
use Rattle.orc_walk.proofs.Layouts.{fits_fault, empty_fits, first_fits, later_fits, below_all, at_most}
use Rattle.orc_walk.proofs.layout.range_fault.Goals as goal

pub returns-then-range-eq0 : goal.returns-then-range-eq0
returns-then-range-eq0 c = sym (empty_fits c.args.earlier.now c.args.range.now c.in-Some.ensures.0 c.if-range-eq0.true)

pub returns-in_default-next_back : goal.returns-in_default-next_back
returns-in_default-next_back c =
    let none = (c.range.ensures.in_range tt).5 c.in_default-next_back.ensures.steps.0 in
    sym (first_fits c.args.earlier.now c.args.laid.now c.args.range.now c.requires c.in-Some.ensures.0 (λ q lt. none q (tt, below_all _ q (omega (arith, c.in-Some.ensures.1)))))

pub returns-then-last-range : goal.returns-then-last-range
returns-then-last-range c =
    let range = c.args.range.now in
    let base = c.in-Some-next_back._base.now in
    let last = c.in-Some-next_back.last.now in
    let entry = (c.range.ensures.in_range tt).3 (base, last) _ c.in-Some-next_back.ensures.steps in
    let greatest = (c.range.ensures.in_range tt).4 (base, last) _ c.in-Some-next_back.ensures.steps in
    sym (later_fits c.args.earlier.now c.args.laid.now range base last c.requires c.in-Some.ensures.0 entry.1 (λ q lt there. at_most base q (greatest q (tt, below_all _ q (omega (arith, c.in-Some.ensures.1))) there)) c.if-last-range.true)

pub returns-in_err-other : goal.returns-in_err-other
returns-in_err-other c =
    c.from_residual.ensures ∙ sym (fits_fault c.args.earlier.now c.args.range.now c.in-Some.ensures.0 ∙ ap (option_map (λ other. Overlaps other.sec)) (sym c.first_overlapped.ensures ∙ c.in_err-other.was))

pub returns : goal.returns
returns c =
    sym (fits_fault c.args.earlier.now c.args.range.now c.in-Some.ensures.0 ∙ ap (option_map (λ other. Overlaps other.sec)) (sym c.first_overlapped.ensures ∙ c.in_ok-other.was))
