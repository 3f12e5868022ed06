-- All that is kept beside level 0 is settled.
use Rattle.std.proofs.Common.{◌≡◌, ◌≤◌, ◌↔◌, true, false, IsSome, Contains, get_or, length, map, take, sym, subst, arith}
use Rattle.std.proofs.lemmas.List.{length-take-le}
use Rattle.kept_states.specs.LevelStates.{LevelStates, at}
use Rattle.kept_states.specs.Reached.{settled_at}
use Rattle.kept_states.proofs.DonePoints.{none_given}
use Rattle.kept_states.proofs.Firsts.{batch_settled}
use Rattle.kept_states.proofs.levels.Levels.begin_batch.Goals as goal

pub returns-clause-settled : goal.returns-clause-settled
returns-clause-settled c q =
    subst (λ (v : LevelStates). get_or (map (settled_at c.self.inside.first c.self.inside.kept) c.self.inside.places.items) q false ≡ true ↔ (IsSome (at v.kept q) × (Contains v.firsts q → ⊥))) c.self.view_is
    (batch_settled c.self.inside.places.items c.self.inside.reached.items c.self.inside.states.list c.self.inside.kept c.self.invariant.2 c.self.inside.first (omega (arith, c.self.invariant.3.first_in, c.self.invariant.3.settled_in)) q)

pub returns-clause-done : goal.returns-clause-done
returns-clause-done c =
    let few : c.self.inside.first ≤ length c.self.inside.reached.items = omega (arith, c.self.invariant.3.first_in, c.self.invariant.3.settled_in, c.self.invariant.2.ordered) in
    let firsts : length (take c.self.inside.first c.self.inside.reached.items) ≡ c.self.inside.first = length-take-le c.self.inside.first c.self.inside.reached.items few in
    let to : c.args.to ≤ length (take c.self.inside.first c.self.inside.reached.items) = subst (λ (v : LevelStates). c.args.to ≤ length v.firsts) (sym c.self.view_is) c.requires.to in
    none_given c.self.inside.kept c.args.from c.args.to c.self.inside.reached.items c.requires.from (omega (arith, to, firsts, c.self.invariant.3.first_in, c.self.invariant.3.settled_in))
