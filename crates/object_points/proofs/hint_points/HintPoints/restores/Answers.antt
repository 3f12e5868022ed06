use Rattle.std.proofs.Common.{◌≡◌, ℕ, ◌<◌, List, length, All, sym, ap, subst}
use Rattle.flow_defs.specs.Coded.{Coded}
use Rattle.flow_defs.specs.Code.{points_of_object}
use Rattle.std.specs.List.Sorted.{IsPermutation}
use Rattle.object_points.specs.Meanings.{restores_with_save}
use Rattle.object_points.specs.HintedCode.{HintedCode}
use Rattle.object_points.proofs.Meant.{restores_all, restores_below}
use Rattle.object_points.proofs.hint_points.HintPoints.restores.Goals as goal

pub returns-clause-below : goal.returns-clause-below
returns-clause-below c =
    let own : Coded = c.self.inside.places.now in
    let object : own ≡ c.args.self.now.object = ap (λ (h : HintedCode). h.object) c.self.view_is in
    subst (λ (e : Coded). All (λ r. r < length (points_of_object e)) c.deref.result.now) object
    (subst (λ (list : List ℕ). All (λ r. r < length (points_of_object own)) list) (sym c.deref.ensures.value)
    (restores_below own c.self.inside.meanings.items c.self.inside.restores.items c.self.invariant.all_meanings))

pub returns-clause-all : goal.returns-clause-all
returns-clause-all c =
    let own : Coded = c.self.inside.places.now in
    let object : own ≡ c.args.self.now.object = ap (λ (h : HintedCode). h.object) c.self.view_is in
    subst (λ (e : Coded). IsPermutation (restores_with_save e) c.deref.result.now) object
    (subst (λ (list : List ℕ). IsPermutation (restores_with_save own) list) (sym c.deref.ensures.value)
    (restores_all own c.self.inside.meanings.items c.self.inside.restores.items c.self.invariant.all_meanings))
