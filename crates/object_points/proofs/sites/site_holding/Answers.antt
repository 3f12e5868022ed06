use Rattle.std.proofs.Common.{sym}
use Rattle.object_points.proofs.sites.site_holding.Goals as goal

pub returns-then-not-may_be_in_site : goal.returns-then-not-may_be_in_site
returns-then-not-may_be_in_site c = sym (c.may_be_in_site.ensures c.if-not-may_be_in_site.true)
