use Rattle.std.proofs.Common.{sym, subst}
use Rattle.command_base.specs.List.{HoldsNoLists, printed, stopped}
use Rattle.command_base.proofs.ListLaws.{no_lists_held, no_object}
use Rattle.command_base.proofs.sites_listing.list_bytes.Goals as goal

pub returns-in-Err-clause-ends : goal.returns-in-Err-clause-ends
returns-in-Err-clause-ends g c =
    stopped c.parse_stop.result (subst (HoldsNoLists c.args.bytes.now) (sym c.parse_stop.ensures) (no_object c.args.bytes.now c.in-Err.fault c.in-Err.ensures.err)) c.conclude.ensures.concluded

pub returns-in-Ok-decode-clause-ends : goal.returns-in-Ok-decode-clause-ends
returns-in-Ok-decode-clause-ends g c =
    printed c.in-Ok.object _ (record { object = c.in-Ok.ensures.ok; held = c.in-Ok-decode.ensures.ok }) c.print_lists.ensures.printed

pub returns-clause-ends : goal.returns-clause-ends
returns-clause-ends g c =
    stopped c.sites_stop.result (subst (HoldsNoLists c.args.bytes.now) (sym c.sites_stop.ensures) (no_lists_held c.args.bytes.now c.in-Ok.object c.in-Err-decode.fault c.in-Ok.ensures.ok c.in-Err-decode.ensures.err)) c.conclude-in-Err-decode.ensures.concluded
