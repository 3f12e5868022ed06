-- The option asks for them.
use Rattle.std.proofs.Common.{◌≡◌, true, sym, subst}
use Rattle.std.proofs.lemmas.Bool.{not-false}
use Rattle.std.proofs.lemmas.Result.{on_ok_weaker}
use Rattle.stack_rules.proofs.GainsLemmas.{gains_same}
use Rattle.program_check.specs.PointWarns.{IsAccessWarning}
use Rattle.program_check.specs.Search.{AreReached}
use Rattle.program_check.proofs.access_points.push_access.Goals as goal

pub returns-clause-asked : goal.returns-clause-asked
returns-clause-asked c = on_ok_weaker c.push_points.result (λ h p allowed t.
    let asked : c.args.options.uaccess ≡ true = not-false _ c.if-not-options.false in
    let are = subst (AreReached p allowed) (sym c.as_slice.ensures.value) (c.in_ok-ways.ensures.reached p allowed t) in
    gains_same _ _ (IsAccessWarning p allowed) (λ w. c.args.options.uaccess ≡ true × IsAccessWarning p allowed w) (h p allowed t are) (λ w. (λ k. (asked, k), λ k. k.1))) c.push_points.ensures
