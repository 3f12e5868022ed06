use Rattle.std.proofs.Common.{ℕ, Option, subst}
use Rattle.ot_base.specs.declared.place.Place.{Place}
use Rattle.flow_defs.specs.Coded.{Coded}
use Rattle.flow_defs.specs.Code.{point_at}
use Rattle.flow_defs.specs.Owners.{owner_of_point}
use Rattle.object_points.specs.SaveOrder.{IsNearest}
use Rattle.object_points.proofs.Nearest.{nearest_meant}
use Rattle.object_points.proofs.saves.nearest_save.Goals as goal

pub returns : goal.returns
returns c =
    let o : Coded = c.args.places.now in
    nearest_meant o c.args.saves.now (point_at o c.args.n) c.requires.saves c.find_nearest.result
    (subst (λ (a : Place). IsNearest c.args.saves.now (owner_of_point o (point_at o c.args.n)) a c.find_nearest.result) c.address.ensures
    (subst (λ (w : Option ℕ). IsNearest c.args.saves.now w c.address.result c.find_nearest.result) c.owner.ensures c.find_nearest.ensures))
