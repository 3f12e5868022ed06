use Rattle.std.proofs.Common.{◌≡◌, ◌<◌, length, sym, subst, arith}
use Rattle.std.specs.Prelude.{ℕ, None}
use Rattle.elf_objects.specs.Elf.{Elf}
use Rattle.elf_objects.specs.declared.fault.Counted.TheVariants.{Sections}
use Rattle.command_base.specs.declared.refusal.Refusal.TheVariants.{TooMany}
use Rattle.command_base.specs.declared.stop.CommandStop.TheVariants.{Refused}
use Rattle.site_lists.specs.SiteOutput.{site_section}
use Rattle.code_commands.specs.SitesOrder.{most_sections}
use Rattle.code_commands.specs.Sites.{GetNoSites, has_sites, too_many_sections}
use Rattle.code_commands.proofs.sites_room.check_room.Goals as goal

pub returns-in-Some-clause-stopped : goal.returns-in-Some-clause-stopped
returns-in-Some-clause-stopped c options map bytes lists is order = has_sites c.args.object.now is order (sym c.in-Some.ensures.first)

pub returns-then-count-clause-stopped : goal.returns-then-count-clause-stopped
returns-then-count-clause-stopped c options map bytes lists is order =
    let o : Elf = c.args.object.now in
    let count : c.from-count.result ≡ length o.sections = omega (arith, c.from-count.ensures, c.sections.ensures.value) in
    let none : site_section o ≡ None = sym c.in_default.ensures.first in
    let many : most_sections < length o.sections = omega (arith, c.if-count.true, count) in
    subst (λ (n : ℕ). GetNoSites options map bytes lists (Refused (TooMany Sections n))) (sym count) (too_many_sections o is order none many)
