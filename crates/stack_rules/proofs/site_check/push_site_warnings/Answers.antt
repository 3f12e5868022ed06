-- What is found at the points of sites is rule 12.
use Rattle.std.proofs.Common.{ℕ, List, All}
use Rattle.std.proofs.lemmas.Result.{on_ok_weaker}
use Rattle.unwinding_law.proofs.Lists.{all_of}
use Rattle.stack_rules.proofs.GainsLemmas.{gains_same}
use Rattle.stack_rules.specs.Points.{AreSitePoints}
use Rattle.stack_rules.specs.Disagree.{FitPoint}
use Rattle.stack_rules.proofs.Disagreeing.{IsFound, IsOfSites, fit_points, found_are_of_sites}
use Rattle.stack_rules.proofs.site_check.push_site_warnings.Goals as goal

pub returns : goal.returns
returns c = on_ok_weaker c.push_points.result (λ h p ch laid.
    let points : List ℕ = c.args.points.now in
    let are : AreSitePoints p points = c.requires.listed.listed p ch.tells laid ch.kept in
    let fits : All (FitPoint p) points = all_of (FitPoint p) points (fit_points p c.args.graph.now.parts c.args.kept.now ch laid points are c.requires.sites) in
    gains_same c.args.into.now.items c.push_points.new.into.items (IsFound p c.args.graph.now.parts c.args.kept.now ch laid points are) (IsOfSites p) (h p ch.tells (c.in_ok-sites.ensures p ch.tells) laid are.ascend fits)
    (found_are_of_sites p c.args.graph.now.parts c.args.kept.now ch laid points are)) c.push_points.ensures
