use Rattle.std.proofs.Common.{option_copied, refl, subst}
use Rattle.machine_defs.specs.Program.{Program}
use Rattle.machine_defs.specs.Allowances.{Allowances}
use Rattle.program_check.specs.OptionVerdict.{IsVerdict}
use Rattle.object_check.proofs.Verdicts.{accepted, can_ask, can_check, refused}
use Rattle.object_check.proofs.check.outcome_of.Goals as goal

pub check-requires-clause-program : goal.check-requires-clause-program
check-requires-clause-program c =
    let p : Program = c.requires.program.0 in
    let allowed : Allowances = c.requires.program.1 in
    let ready = c.requires.program.2 in
    let can = can_check p c.args.graph.parts c.spread-kept.result ready (c.spread-kept.ensures.kept p ready.tells ready.is_program ready.laid.hint_points) c.spread-kept.ensures.points in
    (p, allowed, can_ask p allowed c.args.graph.parts c.spread-kept.result (option_copied c.args.table) ready c.requires.program.3 can)

pub returns-in_ok-rows-in-Clean : goal.returns-in_ok-rows-in-Clean
returns-in_ok-rows-in-Clean c = λ p allowed ready tells.
    let parts = c.args.graph.parts in
    let can = can_check p parts c.spread-kept.result ready (c.spread-kept.ensures.kept p ready.tells ready.is_program ready.laid.hint_points) c.spread-kept.ensures.points in
    let verdict = subst (IsVerdict p allowed c.args.options parts c.spread-kept.result) c.in-Clean.is (c.in_ok-checked.ensures p allowed (can_ask p allowed parts c.spread-kept.result (option_copied c.args.table) ready tells can)) in
    let found = accepted p allowed c.args.options parts c.in-Clean.checked.graph.parts c.spread-kept.result c.in-Clean.checked.kept c.in_ok-rows-in-Clean.field-0.items can verdict c.in_ok-rows-in-Clean.ensures.each in
    (found.0, found.1, refl)

pub returns-in-Warned : goal.returns-in-Warned
returns-in-Warned c = λ p allowed ready tells.
    let parts = c.args.graph.parts in
    let can = can_check p parts c.spread-kept.result ready (c.spread-kept.ensures.kept p ready.tells ready.is_program ready.laid.hint_points) c.spread-kept.ensures.points in
    let verdict = subst (IsVerdict p allowed c.args.options parts c.spread-kept.result) c.in-Warned.is (c.in_ok-checked.ensures p allowed (can_ask p allowed parts c.spread-kept.result (option_copied c.args.table) ready tells can)) in
    refused p allowed c.args.options c.in-Warned.warnings.items verdict
