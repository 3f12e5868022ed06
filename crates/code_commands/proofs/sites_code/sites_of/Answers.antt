use Rattle.std.proofs.Common.{◌≡◌, subst, sym}
use Rattle.std.specs.Prelude.{IfErr, IfOk, OnOk}
use Rattle.elf_objects.specs.Object.{IsObject}
use Rattle.flow_defs.specs.Coded.{Coded}
use Rattle.site_lists.specs.Listed.{listed}
use Rattle.site_lists.specs.Sites.{AreSitesIn, sites_of as sites_of_code}
use Rattle.command_base.specs.Code.{IsInOrder}
use Rattle.code_commands.specs.Sites.{GetNoSites}
use Rattle.code_commands.proofs.sites_code.sites_of.Goals as goal

pub returns-clause-are : goal.returns-clause-are
returns-clause-are c =
    subst (λ (x : Coded). IfOk c.sites_of_linked.result (λ lists. listed lists ≡ sites_of_code c.args.options x)) c.in_ok-linked.ensures.ok c.sites_of_linked.ensures.are

pub returns-clause-placed : goal.returns-clause-placed
returns-clause-placed c =
    subst (λ (x : Coded). IfOk c.sites_of_linked.result (λ lists. AreSitesIn x.elf (listed lists))) c.in_ok-linked.ensures.ok c.sites_of_linked.ensures.placed

pub returns-clause-right : goal.returns-clause-right
returns-clause-right c =
    subst (λ (x : Coded). OnOk c.sites_of_linked.result (IsInOrder x c.args.names.now)) c.in_ok-linked.ensures.ok c.sites_of_linked.ensures.right

pub returns-clause-stopped : goal.returns-clause-stopped
returns-clause-stopped c bytes is =
    let same = c.in_ok-linked.ensures.ok in
    subst (λ (x : Coded). IfErr c.sites_of_linked.result (GetNoSites c.args.options x.map bytes c.args.names.now)) same
    (c.sites_of_linked.ensures.stopped bytes (subst (λ (x : Coded). IsObject bytes x.elf) (sym same) is))
