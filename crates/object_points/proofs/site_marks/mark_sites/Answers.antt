use Rattle.std.proofs.Common.{List, length, subst}
use Rattle.std.proofs.lemmas.Result.{IfOk-weaker}
use Rattle.ot_base.specs.declared.place.Place.{Place}
use Rattle.object_points.specs.Marks.{AreMarked}
use Rattle.object_points.proofs.SiteMarks.{unmarked_none}
use Rattle.object_points.proofs.site_marks.mark_sites.Goals as goal

pub returns-clause-none : goal.returns-clause-none
returns-clause-none c = IfOk-weaker c.mark_places.result _ _ (λ marks set place unset. unmarked_none c.args.linked.now c.list_of.result.now c.in_ok-blocks.blocks.items marks.items place c.list_of.ensures c.in_ok-blocks.ensures (subst (λ (blocks : List Place). AreMarked (length marks.items) blocks marks.items) c.deref.ensures.value set) unset) c.mark_places.ensures.set
