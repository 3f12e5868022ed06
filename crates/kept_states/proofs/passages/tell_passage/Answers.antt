-- No point gives to it alone.
use Rattle.kept_states.proofs.passages.tell_passage.Goals as goal

pub returns-else-is_open-clause-told : goal.returns-else-is_open-clause-told
returns-else-is_open-clause-told c p told own = c.tell_linked-else-is_open.ensures.told p (c.unlink_before.ensures.told p c.args.n told) own

pub returns-else-is_open-clause-linked : goal.returns-else-is_open-clause-linked
returns-else-is_open-clause-linked c linked = c.tell_linked-else-is_open.ensures.linked (c.unlink_before.ensures.linked c.args.n linked)
