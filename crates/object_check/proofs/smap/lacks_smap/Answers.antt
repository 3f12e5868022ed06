use Rattle.std.proofs.Common.{◌≡◌, Bool, not, ◌&&◌, List, Some, sym, ap, ◌∙◌}
use Rattle.ot_base.specs.declared.place.Place.{Place}
use Rattle.flow_defs.specs.Coded.{Coded}
use Rattle.alternatives.specs.declared.point.Point.{Point}
use Rattle.alternatives.specs.Points.{address_of_point}
use Rattle.flow_defs.specs.Code.{alternatives_of, point_at}
use Rattle.object_points.specs.Places.{HaveSamePlaces, is_among}
use Rattle.object_check.specs.Allowances.{is_in_smap_site, is_smap_point, lacks_smap}
use Rattle.object_check.specs.SmapSites.{IsSiteStart, smap_starts}
use Rattle.object_check.proofs.SmapSites.{made_nowhere, made_there}
use Rattle.object_check.proofs.smap.lacks_smap.Goals as goal

abbrev address : Coded → Point → Place
address o point = address_of_point (alternatives_of o) point

lacks : (o : Coded) (point : Point) (held : Bool) → is_in_smap_site o (address o point) ≡ held → (held && not (is_smap_point o point)) ≡ lacks_smap o point
unfolding lacks_smap
lacks o point held is = ap (λ b. b && not (is_smap_point o point)) (sym is)

-- the site has such a replacement where its start is listed
there : (o : Coded) (point : Point) (start : Place) (starts : List Place) (listed : Bool) → IsSiteStart (alternatives_of o) (address o point) (Some start) → HaveSamePlaces (smap_starts (alternatives_of o)) starts → listed ≡ is_among starts start → is_in_smap_site o (address o point) ≡ listed
there o point start starts listed is same found = made_there (alternatives_of o) (address o point) start is ∙ sym (same.same start) ∙ sym found

pub returns-in_default : goal.returns-in_default
returns-in_default c =
    let o : Coded = c.args.places.now in
    let point : Point = point_at o c.args.n in
    lacks o point _ (made_nowhere (alternatives_of o) (address o point) c.in_default.ensures)

pub returns-then-contains : goal.returns-then-contains
returns-then-contains c =
    let o : Coded = c.args.places.now in
    let point : Point = point_at o c.args.n in
    ap not c.is_smap_point.ensures
    ∙ lacks o point _ (there o point c.in-Some.start c.args.starts.now c.contains.result c.in-Some.ensures c.requires.starts c.contains.ensures ∙ c.if-contains.true)

pub returns-else-contains : goal.returns-else-contains
returns-else-contains c =
    let o : Coded = c.args.places.now in
    let point : Point = point_at o c.args.n in
    c.if-contains.false
    ∙ lacks o point _ (there o point c.in-Some.start c.args.starts.now c.contains.result c.in-Some.ensures c.requires.starts c.contains.ensures ∙ c.if-contains.false)
