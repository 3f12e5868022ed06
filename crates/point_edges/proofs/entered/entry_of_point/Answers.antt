use Rattle.std.proofs.Common.{None, sym, ◌∙◌}
use Rattle.point_edges.proofs.Standing.{enters_nowhere, enters_place, enters_there, program_enters}
use Rattle.point_edges.proofs.entered.entry_of_point.Goals as goal

pub returns-in_err-place-clause-is : goal.returns-in_err-place-clause-is
returns-in_err-place-clause-is c =
    enters_nowhere c.args.places.now c.args.n c.entered_place.result c.entered_place.ensures c.from_residual.result c.in_err-place.was c.from_residual.ensures

pub returns-in_err-place-clause-entered : goal.returns-in_err-place-clause-entered
returns-in_err-place-clause-entered c = λ names. program_enters c.args.places.now names c.args.n c.from_residual.result (returns-in_err-place-clause-is c)

pub returns-then-is_entry-clause-is : goal.returns-then-is_entry-clause-is
returns-then-is_entry-clause-is c =
    enters_there c.args.places.now c.args.n c.entered_place.result c.entered_place.ensures c.in_ok-place.place c.number_by_guess.result c.in_ok-place.was (sym c.is_entry.ensures ∙ c.if-is_entry.true) c.number_by_guess.ensures

pub returns-then-is_entry-clause-entered : goal.returns-then-is_entry-clause-entered
returns-then-is_entry-clause-entered c = λ names. program_enters c.args.places.now names c.args.n c.number_by_guess.result (returns-then-is_entry-clause-is c)

pub returns-else-is_entry-clause-is : goal.returns-else-is_entry-clause-is
returns-else-is_entry-clause-is c =
    enters_place c.args.places.now c.args.n c.entered_place.result c.entered_place.ensures c.in_ok-place.place c.in_ok-place.was (sym c.is_entry.ensures ∙ c.if-is_entry.false)

pub returns-else-is_entry-clause-entered : goal.returns-else-is_entry-clause-entered
returns-else-is_entry-clause-entered c = λ names. program_enters c.args.places.now names c.args.n None (returns-else-is_entry-clause-is c)
