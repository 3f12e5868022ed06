use Rattle.std.proofs.Common.{ℕ, ◌<◌, length, get_or, sym, ap, ◌∙◌, arith, subst}
use Rattle.std.proofs.lemmas.Result.{IfOk-weaker}
use Rattle.kept_states.specs.LevelStates.{at}
use Rattle.command_base.specs.BacktraceSpots.{AreSpots, HaveNumbers}
use Rattle.command_base.proofs.CaseLists.{no_spot, no_warning}
use Rattle.command_base.proofs.NumberLemmas.{are_first}
use Rattle.command_base.proofs.backtrace_spots.first_points.Goals as goal

pub pick-requires : goal.pick-requires
pick-requires c =
    let len = c.look_at_all.ensures.len ∙ ap length c.as_mut_slice-all.ensures.value in
    subst (λ xs. (i : ℕ) → i < length xs → get_or xs i 0 < length c.look_at_all.new.spots) (sym c.deref.ensures.value)
    (λ i inside. omega (arith, len, (c.in_ok-spots.ensures.numbers i no_warning no_spot inside).0))

pub returns-clause-first : goal.returns-clause-first
returns-clause-first c =
    let value = c.as_mut_slice-all.ensures.value in
    IfOk-weaker c.pick.result _ _
    (λ list picked p tells.
    are_first p (at c.args.kept.now) c.args.warnings.now _ c.look_at_all.new.spots list.items c.deref.result.now
    (subst (HaveNumbers c.args.warnings.now _) (sym c.deref.ensures.value) c.in_ok-spots.ensures.numbers)
    (c.look_at_all.ensures.len ∙ ap length value) (λ k d. c.look_at_all.ensures.places k d ∙ ap (λ xs. (get_or xs k d).place) value)
    (c.look_at_all.ensures.spots p tells (subst (AreSpots p (at c.args.kept.now) 0) (sym value) (c.in_ok-spots.ensures.new p (at c.args.kept.now)))) picked)
    c.pick.ensures
