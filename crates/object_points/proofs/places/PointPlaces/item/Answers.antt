use Rattle.std.proofs.Common.{◌≡◌, ℕ, ◌<◌, List, Some, length, refl, ap, subst, arith}
use Rattle.std.specs.Prelude.{slice_get}
use Rattle.std.proofs.lemmas.Option.{slice_get_read}
use Rattle.alternatives.specs.Points.{address_of_point}
use Rattle.flow_defs.specs.Coded.{Coded}
use Rattle.flow_defs.specs.Code.{alternatives_of, point_at, points_of_object}
use Rattle.flow_defs.specs.Owners.{function_of_point, owner_of_point}
use Rattle.object_points.specs.declared.code_owners.CodeOwner.{CodeOwner}
use Rattle.object_points.specs.CodeOwners.{IsItemBy, TellsOwner}
use Rattle.object_points.proofs.places.PointPlaces.item.Goals as goal

pub returns : goal.returns
returns c =
    let own : Coded = c.self.inside.linked.now in
    let numbers : List ℕ = c.self.inside.numbers.items in
    let items : List CodeOwner = c.self.inside.items.items in
    let number : ℕ = c.index.result.now in
    let item : CodeOwner = c.index-2.result.now in
    let inside : c.args.n < length numbers = omega (arith, c.self.invariant.points.long, ap (λ (e : Coded). length (points_of_object e)) c.self.view_is) in
    let at : slice_get numbers c.args.n ≡ Some number = slice_get_read numbers (length numbers) c.args.n number refl inside c.index.ensures in
    let tells : TellsOwner own.elf items (address_of_point (alternatives_of own) (point_at own c.args.n)) number = c.self.invariant.points.each c.args.n number at in
    let here : slice_get items number ≡ Some item = slice_get_read items (length items) number item refl tells.inside c.index-2.ensures in
    subst (λ (e : Coded). IsItemBy e.elf (function_of_point e (point_at e c.args.n)) (owner_of_point e (point_at e c.args.n)) item) c.self.view_is (tells.is item here)
