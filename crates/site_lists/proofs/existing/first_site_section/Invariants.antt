use Rattle.std.proofs.Common.{◌≡◌, ℕ, ◌<◌, false}
use Rattle.elf_objects.specs.Contents.{section_at}
use Rattle.site_lists.specs.SiteOutput.{is_site_name}
use Rattle.site_lists.proofs.existing.first_site_section.Given as goal

abbrev pub invariant-loop-sec : goal.invariant-loop-sec
invariant-loop-sec l = (k : ℕ) → k < l.sec → is_site_name (section_at l.object k).name ≡ false
