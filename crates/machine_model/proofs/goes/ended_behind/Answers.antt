-- By the state that is kept there.
use Rattle.std.proofs.Common.{Option, None, sym, ap, ◌∙◌}
use Rattle.std.specs.Prelude.{slice_index_or}
use Rattle.state_defs.specs.declared.state.State.{State}
use Rattle.program_model.specs.Program.{program_of}
use Rattle.machine_model.specs.Ended.{end_told}
use Rattle.machine_model.proofs.Ended.{is_kept_there, is_lost_there}
use Rattle.machine_model.proofs.goes.ended_behind.Goals as goal

pub returns-in-Some : goal.returns-in-Some
returns-in-Some c told =
    is_lost_there (program_of c.args.p.now c.args.kept.now.may_return.items) (λ q. slice_index_or c.args.kept.now.states.items q None) told c.args.from c.args.ended c.args.to c.in-Some.kind
    (sym c.is_loose.ensures ∙ c.if-not-is_loose.false) (ap (λ (o : Option State). end_told o) (sym c.state.ensures) ∙ (sym c.end_told.ensures ∙ c.in-Some.is))

pub returns-in-None : goal.returns-in-None
returns-in-None c told =
    is_kept_there (program_of c.args.p.now c.args.kept.now.may_return.items) (λ q. slice_index_or c.args.kept.now.states.items q None) told c.args.from c.args.ended c.args.to
    (sym c.is_loose.ensures ∙ c.if-not-is_loose.false) (ap (λ (o : Option State). end_told o) (sym c.state.ensures) ∙ (sym c.end_told.ensures ∙ c.in-None.is))
