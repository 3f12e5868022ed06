use Rattle.std.proofs.Common.{◌≡◌, ℕ, ◌<◌, List, length, Some, Contains, subst}
use Rattle.std.specs.Prelude.{◌↔◌, slice_range}
use Rattle.state_defs.specs.declared.state.HintState.TheVariants.{Restore}
use Rattle.flow_defs.specs.Coded.{Coded}
use Rattle.flow_defs.specs.Code.{point_at, points_of_object}
use Rattle.flow_defs.specs.Hints.{hint_of, save_of}
use Rattle.object_points.specs.HintedCode.{HintedCode}
use Rattle.object_points.specs.Meanings.{IsRunOf}
use Rattle.object_points.specs.declared.meanings.Meaning.{Meaning}
use Rattle.object_points.proofs.Meant.{members}
use Rattle.object_points.proofs.hint_points.HintPoints.restores_of.Goals as goal

pub returns-clause-members : goal.returns-clause-members
returns-clause-members c =
    let own : Coded = c.self.inside.places.now in
    let from : ℕ = c.find_run.result.0 in
    let to : ℕ = c.find_run.result.1 in
    let run : IsRunOf c.self.inside.meanings.items c.args.n from to = subst (λ (list : List Meaning). IsRunOf list c.args.n from to) c.deref.ensures.value c.find_run.ensures in
    subst (λ (h : HintedCode). (r : ℕ) → Contains (slice_range h.restores from to) r ↔ ((r < length (points_of_object h.object)) × (hint_of h.object (point_at h.object r) ≡ Some Restore) × (save_of h.object (point_at h.object r) ≡ Some c.args.n))) c.self.view_is
    (members own c.self.inside.meanings.items c.self.inside.restores.items c.self.invariant.all_meanings c.args.n from to run)
