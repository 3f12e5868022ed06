-- All that were reached are of level 0.
use Rattle.std.proofs.Common.{◌≡◌, length, map, refl, subst, arith}
use Rattle.machine_defs.specs.Kept.{kept_or}
use Rattle.kept_states.specs.LevelStates.{LevelStates, at}
use Rattle.kept_states.specs.Reached.{kept_at}
use Rattle.kept_states.proofs.Places.{advanced, kept_then, none_then}
use Rattle.kept_states.proofs.Firsts.{firsts_kept}
use Rattle.kept_states.proofs.levels.Levels.keep_first.Goals as goal

pub returns-clause-kept : goal.returns-clause-kept
returns-clause-kept c q =
    let len : c.len-self-inside.result ≡ length c.self.inside.reached.items = omega (arith, c.len-self-inside.ensures, c.self.inside.reached.ok) in
    rw len (subst (λ (v : LevelStates). at (map (kept_at (length c.self.inside.reached.items) c.self.inside.states.list) c.self.inside.places.items) q ≡ kept_or (at v.kept q) (at v.next.states q)) c.self.view_is
    (kept_then c.self.inside.places.items c.self.inside.reached.items c.self.inside.states.list c.self.inside.kept c.self.invariant.2 q))

pub returns-clause-next : goal.returns-clause-next
returns-clause-next c q =
    let len : c.len-self-inside.result ≡ length c.self.inside.reached.items = omega (arith, c.len-self-inside.ensures, c.self.inside.reached.ok) in
    rw len (none_then c.self.inside.places.items c.self.inside.reached.items c.self.inside.states.list c.self.inside.kept c.self.invariant.2 q)

pub returns-clause-firsts : goal.returns-clause-firsts
returns-clause-firsts c q =
    let len : c.len-self-inside.result ≡ length c.self.inside.reached.items = omega (arith, c.len-self-inside.ensures, c.self.inside.reached.ok) in
    rw len (firsts_kept c.self.inside.places.items c.self.inside.reached.items c.self.inside.states.list c.self.inside.kept c.self.invariant.2 q)

pub invariant_of-self : goal.invariant_of-self
invariant_of-self c =
    let len : c.len-self-inside.result ≡ length c.self.inside.reached.items = omega (arith, c.len-self-inside.ensures, c.self.inside.reached.ok) in
    rw len (
      c.self.invariant.0,
      c.self.invariant.1,
      advanced c.self.inside.places.items c.self.inside.reached.items c.self.inside.states.list c.self.inside.kept c.self.invariant.2,
      record {
        front_in = omega arith;
        front_kept = omega arith;
        batch_kept = omega arith;
        begins = λ l. (refl, refl, refl);
        goes_on = λ l. omega (arith, l);
        first_in = omega arith;
        settled_in = omega arith;
      },
    )
