use Rattle.std.proofs.Common.{ℕ, ◌≤◌, ◌∙◌, arith}
use Rattle.code_commands.specs.Sites.{stopped, unread, without_names}
use Rattle.code_commands.proofs.SitesEnds.{ends_later, names_later, was_read}
use Rattle.code_commands.proofs.sites_adding.read_and_add.Goals as goal

later_still : (a b c : ℕ) → a ≤ b → b ≤ c → a ≤ c
later_still a b c h k = omega arith

pub returns-in-Err-clause-ends : goal.returns-in-Err-clause-ends
returns-in-Err-clause-ends g c = stopped c.in-Err.stop (unread c.in-Err.ensures.stopped c.read_file.ensures.unchanged) c.conclude.ensures.concluded

pub returns-in-Ok-read_names-clause-ends : goal.returns-in-Ok-read_names-clause-ends
returns-in-Ok-read_names-clause-ends g c =
    ends_later _ _ _ _ _ _ _ _ _ _ _ _ _ (c.read_names.ensures.unchanged ∙ c.read_file.ensures.unchanged) (later_still _ _ _ c.read_file.ensures.later c.read_names.ensures.later) c.add_sites.ensures.ends

pub returns-clause-ends : goal.returns-clause-ends
returns-clause-ends g c =
    stopped c.in-Err-read_names.stop
    (without_names c.in-Ok.bytes.items c.in-Ok.ensures.ok (names_later c.in-Err-read_names.stop _ _ _ _ _ _ c.read_file.ensures.unchanged c.read_file.ensures.later c.in-Err-read_names.ensures.stopped) (c.read_names.ensures.unchanged ∙ c.read_file.ensures.unchanged))
    c.conclude-in-Err-read_names.ensures.concluded

pub add_sites-requires-clause-read : goal.add_sites-requires-clause-read
add_sites-requires-clause-read g c =
    was_read _ _ _ _ _ c.in-Ok.bytes.items c.as_slice.result.now c.in-Ok-read_names.lists c.read_file.ensures.unchanged c.read_names.ensures.unchanged c.as_slice.ensures.value c.in-Ok.ensures.ok c.in-Ok-read_names.ensures.ok
