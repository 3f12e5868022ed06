-- Lists whose sites compare as equal are equal.
use Rattle.std.proofs.Common.{sym, ◌∙◌}
use Rattle.std.proofs.lemmas.Slice.Eq.{slice_eq-Decides}
use Rattle.stack_rules.proofs.Same.{same_site, same_site_decides}
use Rattle.stack_rules.proofs.site_index.SiteIndex.is_same.Goals as goal

pub returns : goal.returns
returns c h =
    let same = (slice_eq-Decides {E = same_site} same_site_decides c.as_slice.result.now c.as_slice-2.result.now c.eq.result c.eq.ensures).0 h in
    sym c.self.view_is ∙ (sym c.as_slice.ensures.value ∙ (same ∙ (c.as_slice-2.ensures.value ∙ c.other.view_is)))
