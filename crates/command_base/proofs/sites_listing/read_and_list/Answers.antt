use Rattle.command_base.specs.List.{read, unread}
use Rattle.command_base.proofs.ListLaws.{listed_as}
use Rattle.command_base.proofs.sites_listing.read_and_list.Goals as goal

pub returns-in-Ok-clause-ends : goal.returns-in-Ok-clause-ends
returns-in-Ok-clause-ends g c = read c.in-Ok.bytes.items c.in-Ok.ensures.ok (listed_as _ _ _ _ _ c.as_slice.ensures.value c.list_bytes.ensures.ends)

pub returns-in-Err-clause-ends : goal.returns-in-Err-clause-ends
returns-in-Err-clause-ends g c = unread c.in-Err.stop c.in-Err.ensures.stopped c.conclude.ensures.concluded
