-- Whether execution goes on behind a point.
use Rattle.std.proofs.Common.{◌≡◌, ℕ, suc, Bool, true, false, not, eqb, ◌&&◌, ◌||◌, List, [], ◌∷◌, length, refl, sym, ap, ◌∙◌, arith}
use Rattle.std.proofs.lemmas.Bool.Decides.{nat_tests}
use Rattle.ot_base.specs.declared.place.Place.{Place}
use Rattle.flow_defs.specs.Coded.{Coded}
use Rattle.alternatives.specs.declared.point.Point.{Point}
use Rattle.flow_defs.specs.Arrival.{insn_of_object, is_dead_end}
use Rattle.flow_defs.specs.Edges.{ends_flow, goes_on, is_some_place, static_targets}

more_than_none : (n : ℕ) → true ≡ not (eqb (suc n) 0)
more_than_none n = grind (arith, nat_tests)

some_place : (places : List Place) → is_some_place places ≡ not (eqb (length places) 0)
some_place [] = refl
some_place (place ∷ places) = more_than_none (length places)

-- behind the code of a static branch
pub behind_static : (o : Coded) (point : Point) → eqb (length (static_targets o point)) 0 ≡ false → true ≡ goes_on o point
unfolding goes_on
behind_static o point some =
    sym (ap (λ b. b || (not (ends_flow (insn_of_object o point).op) && not (is_dead_end o point))) (some_place (static_targets o point) ∙ ap not some))

-- behind other points
pub behind_other : (o : Coded) (point : Point) (ends dead : Bool) → eqb (length (static_targets o point)) 0 ≡ true → ends ≡ ends_flow (insn_of_object o point).op → dead ≡ is_dead_end o point → (not ends && not dead) ≡ goes_on o point
unfolding goes_on
behind_other o point ends dead none ended stops =
    ap (λ b. not b && not dead) ended
    ∙ ap (λ b. not (ends_flow (insn_of_object o point).op) && not b) stops
    ∙ sym (ap (λ b. b || (not (ends_flow (insn_of_object o point).op) && not (is_dead_end o point))) (some_place (static_targets o point) ∙ ap not none))
