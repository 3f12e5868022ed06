use Rattle.std.proofs.Common.{refl, sym, subst}
use Rattle.code_commands.specs.Sites.{GetNoSites, done, refused, stopped, unwritten}
use Rattle.code_commands.proofs.SitesGets.{no_object}
use Rattle.code_commands.proofs.SitesEnds.{may_get, written_as}
use Rattle.code_commands.proofs.sites_adding.add_sites.Goals as goal

pub returns-in-Err-clause-ends : goal.returns-in-Err-clause-ends
returns-in-Err-clause-ends g c =
    stopped c.parse_stop.result
    (refused c.args.bytes.now c.args.lists.now c.requires.read (subst (GetNoSites c.args.asked.options c.args.asked.map c.args.bytes.now c.args.lists.now) (sym c.parse_stop.ensures) (no_object c.args.asked.options c.args.asked.map c.args.bytes.now c.args.lists.now c.in-Err.fault c.in-Err.ensures.err)) refl)
    c.conclude.ensures.concluded

pub returns-in-Err-with_its_sites-clause-ends : goal.returns-in-Err-with_its_sites-clause-ends
returns-in-Err-with_its_sites-clause-ends g c =
    stopped c.in-Err-with_its_sites.stop
    (refused c.args.bytes.now c.args.lists.now c.requires.read (c.in-Err-with_its_sites.ensures.stopped c.args.bytes.now c.in-Ok.ensures.ok) refl)
    c.conclude-in-Err-with_its_sites.ensures.concluded

pub returns-in-Ok-write_file-clause-ends : goal.returns-in-Ok-write_file-clause-ends
returns-in-Ok-write_file-clause-ends g c =
    done c.in-Ok.object c.in-Ok-with_its_sites.file.items
    (may_get _ _ _ _ _ c.args.bytes.now c.args.lists.now c.in-Ok.object c.in-Ok-with_its_sites.file.items c.requires.read c.in-Ok.ensures.ok c.in-Ok-with_its_sites.ensures.gets c.in-Ok-with_its_sites.ensures.lists)
    (written_as _ _ _ _ _ c.as_slice.ensures.value c.in-Ok-write_file.ensures.written)
    refl

pub returns-clause-ends : goal.returns-clause-ends
returns-clause-ends g c =
    stopped c.in-Err-write_file.stop
    (unwritten c.in-Ok.object c.in-Ok-with_its_sites.file.items
    (may_get _ _ _ _ _ c.args.bytes.now c.args.lists.now c.in-Ok.object c.in-Ok-with_its_sites.file.items c.requires.read c.in-Ok.ensures.ok c.in-Ok-with_its_sites.ensures.gets c.in-Ok-with_its_sites.ensures.lists)
    c.in-Err-write_file.ensures.stopped c.in-Err-write_file.ensures.others)
    c.conclude-in-Err-write_file.ensures.concluded
