use Rattle.std.proofs.Common.{◌≡◌, subst, sym, ap, ◌∙◌, List}
use Rattle.std.specs.List.{dedup, list_any}
use Rattle.std.proofs.lemmas.List.Filters.{dedup_is}
use Rattle.ot_base.specs.declared.place.Place.{Place}
use Rattle.ot_base.specs.Places.{same_place}
use Rattle.jump_tables.specs.Kept.{AreRising}
use Rattle.jump_tables.proofs.Starting.{rising, same_among}
use Rattle.jump_tables.proofs.starts.sort_places.Goals as goal

pub returns-clause-rising : goal.returns-clause-rising
returns-clause-rising c =
    let sorted : List Place = c.sort.new.self.items in
    let is : c.dedup.new.self.items ≡ dedup same_place sorted = dedup_is same_place sorted c.dedup.new.self.items c.dedup.ensures.filtered in
    subst AreRising (sym is) (rising sorted c.in_ok-sort.ensures.sorted)

pub returns-clause-same : goal.returns-clause-same
returns-clause-same c =
    let sorted : List Place = c.sort.new.self.items in
    let is : c.dedup.new.self.items ≡ dedup same_place sorted = dedup_is same_place sorted c.dedup.new.self.items c.dedup.ensures.filtered in
    λ place. ap (list_any (same_place place)) is ∙ same_among c.args.places.now.items sorted c.sort.ensures.permutation place
