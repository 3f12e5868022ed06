use Rattle.std.proofs.Common.{◌≡◌, ◌<◌, ℕ, None}
use Rattle.orc_bytes.specs.Sections.{section_named}
use Rattle.site_lists.specs.Sections.{list_name}
use Rattle.site_lists.proofs.reading.has_lists.Given as goal

abbrev pub invariant-loop-which : goal.invariant-loop-which
invariant-loop-which l = (k : ℕ) → k < l.which → section_named l.object (list_name k) ≡ None
