-- All that were reached are kept now.
use Rattle.std.proofs.Common.{◌≡◌, ◌+◌, ◌≤◌, ◌⊎◌, None, Contains, IsSome, length, map, take, drop, refl, subst, arith}
use Rattle.machine_defs.specs.Kept.{kept_or}
use Rattle.kept_states.specs.Done.{done_of}
use Rattle.kept_states.specs.LevelStates.{LevelStates, at, count_open}
use Rattle.kept_states.specs.Reached.{kept_at}
use Rattle.kept_states.proofs.Places.{advanced, kept_then, none_then, in_front_then, fewer, front_length}
use Rattle.kept_states.proofs.DonePoints.{front_given}
use Rattle.kept_states.proofs.Firsts.{fresh_then}
use Rattle.kept_states.proofs.levels.Levels.advance.Goals as goal

pub returns-clause-kept : goal.returns-clause-kept
returns-clause-kept c q =
    let len : c.len-self-inside.result ≡ length c.self.inside.reached.items = omega (arith, c.len-self-inside.ensures, c.self.inside.reached.ok) in
    rw len (subst (λ (v : LevelStates). at (map (kept_at (length c.self.inside.reached.items) c.self.inside.states.list) c.self.inside.places.items) q ≡ kept_or (at v.kept q) (at v.next.states q)) c.self.view_is
    (kept_then c.self.inside.places.items c.self.inside.reached.items c.self.inside.states.list c.self.inside.kept c.self.invariant.2 q))

pub returns-clause-next : goal.returns-clause-next
returns-clause-next c q =
    let len : c.len-self-inside.result ≡ length c.self.inside.reached.items = omega (arith, c.len-self-inside.ensures, c.self.inside.reached.ok) in
    rw len (none_then c.self.inside.places.items c.self.inside.reached.items c.self.inside.states.list c.self.inside.kept c.self.invariant.2 q)

pub returns-clause-front : goal.returns-clause-front
returns-clause-front c q =
    let len : c.len-self-inside.result ≡ length c.self.inside.reached.items = omega (arith, c.len-self-inside.ensures, c.self.inside.reached.ok) in
    rw len (subst (λ (v : LevelStates). IsSome (at v.next.states q) → Contains (drop c.self.inside.kept (take (length c.self.inside.reached.items) c.self.inside.reached.items)) q) c.self.view_is
    (in_front_then c.self.inside.places.items c.self.inside.reached.items c.self.inside.states.list c.self.inside.kept c.self.invariant.2 q))

pub returns-clause-fresh : goal.returns-clause-fresh
returns-clause-fresh c q =
    let len : c.len-self-inside.result ≡ length c.self.inside.reached.items = omega (arith, c.len-self-inside.ensures, c.self.inside.reached.ok) in
    rw len (subst (λ (v : LevelStates). Contains (drop c.self.inside.kept (take (length c.self.inside.reached.items) c.self.inside.reached.items)) q → (at v.kept q ≡ None) × IsSome (at (map (kept_at (length c.self.inside.reached.items) c.self.inside.states.list) c.self.inside.places.items) q)) c.self.view_is
    (fresh_then c.self.inside.places.items c.self.inside.reached.items c.self.inside.states.list c.self.inside.kept c.self.invariant.2 q))

pub returns-clause-fewer : goal.returns-clause-fewer
returns-clause-fewer c =
    let len : c.len-self-inside.result ≡ length c.self.inside.reached.items = omega (arith, c.len-self-inside.ensures, c.self.inside.reached.ok) in
    rw len (subst (λ (v : LevelStates). count_open (map (kept_at (length c.self.inside.reached.items) c.self.inside.states.list) c.self.inside.places.items) + length (drop c.self.inside.kept (take (length c.self.inside.reached.items) c.self.inside.reached.items)) ≡ count_open v.kept) c.self.view_is
    (rw (front_length c.self.inside.kept c.self.inside.reached.items) (fewer c.self.inside.places.items c.self.inside.reached.items c.self.inside.states.list c.self.inside.kept c.self.invariant.2)))

pub invariant_of-self : goal.invariant_of-self
invariant_of-self c =
    let len : c.len-self-inside.result ≡ length c.self.inside.reached.items = omega (arith, c.len-self-inside.ensures, c.self.inside.reached.ok) in
    let few : c.self.inside.kept ≤ length c.self.inside.reached.items = c.self.invariant.2.ordered in
    let order = c.self.invariant.3 in
    rw len (
      c.self.invariant.0,
      c.self.invariant.1,
      advanced c.self.inside.places.items c.self.inside.reached.items c.self.inside.states.list c.self.inside.kept c.self.invariant.2,
      record {
        front_in = few;
        front_kept = omega arith;
        batch_kept = omega (arith, order.batch_kept, few);
        begins = λ l. absurd (omega (arith, l, order.settled_in));
        goes_on = λ l. refl;
        first_in = order.first_in;
        settled_in = omega (arith, order.settled_in, few);
      },
    )

pub returns-clause-done : goal.returns-clause-done
returns-clause-done c q =
    subst (λ (v : LevelStates). Contains (done_of c.self.inside.settled c.self.inside.kept c.self.inside.batch c.self.inside.reached.items) q → Contains v.done q ⊎ Contains v.front q) c.self.view_is
    (front_given c.self.inside.front_from c.self.inside.front_to c.self.inside.batch c.self.inside.first c.self.inside.settled c.self.inside.kept c.self.inside.reached.items q c.self.invariant.3 c.self.invariant.2.ordered)
