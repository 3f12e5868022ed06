use Rattle.std.proofs.Common.{sym, ap, ◌∙◌}
use Rattle.std.specs.Prelude.{is_some}
use Rattle.control_flow.proofs.Fields.{free_entry, owned_entry}
use Rattle.control_flow.proofs.listed.is_listed_free_code.Goals as goal

pub returns-then-is_some-clause-is : goal.returns-then-is_some-clause-is
returns-then-is_some-clause-is c =
    owned_entry c.args.places.now c.args.lists.now c.args.n c.args.entry (ap is_some (sym c.owner.ensures) ∙ (sym c.is_some.ensures ∙ c.if-is_some.true))

pub returns-clause-is : goal.returns-clause-is
returns-clause-is c =
    free_entry c.args.places.now c.args.lists.now c.args.n c.args.entry c.is_listed_by_name.result (ap is_some (sym c.owner.ensures) ∙ (sym c.is_some.ensures ∙ c.if-is_some.false)) c.is_listed_by_name.ensures.is
