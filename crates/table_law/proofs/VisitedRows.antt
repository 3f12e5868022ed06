-- Each point to which runs come lies in sites whose starts are kept.
use Rattle.std.proofs.Common.{ℕ, Option, sym, subst}
use Rattle.state_defs.specs.declared.state.State.{State}
use Rattle.state_defs.specs.declared.state.State.TheVariants.{Live, Ended, Regs}
use Rattle.machine_defs.specs.Program.{Program, IsPoint}
use Rattle.machine_defs.specs.Machine.{Bases, IsPlacement, Standing, Machine, At}
use Rattle.machine_defs.specs.Hint.{Lands}
use Rattle.machine_defs.specs.Step.{Step, goes_on, faults, calls_in, calls_out, returns, tail_calls, wrecks, interrupted, irets}
use Rattle.machine_defs.specs.Run.{MayStart, StartsFrom, Start, at_entry, at_call_hint, at_regs_hint, at_end_hint, Run, started, stepped}
use Rattle.machine_defs.specs.Kept.{AreKeptStates}
use Rattle.machine_defs.specs.Broken.{IsAccepted}
use Rattle.machine_defs.specs.IsProgram.{IsProgram, IsLaidOut}
use Rattle.machine_defs.specs.Law.{IsInOrder, UnwindingLaw}
use Rattle.table_defs.specs.Visited.{IsVisited}
use Rattle.table_defs.specs.Enters.{EntersSites}
use Rattle.table_law.proofs.VisitedPlaces.{HoldsAt, HoldsOfCalls, lands_there, starts_there, first_calls, step_calls}
use Rattle.table_law.proofs.Enters.{IsEntered, entered_entry}
use Rattle.table_law.proofs.Runs.{hint_entered_start, goes_on_entered, faults_entered, calls_in_entered, calls_out_entered, returns_entered, tail_calls_entered, interrupted_entered, irets_entered}

module _ (law : UnwindingLaw) (p : Program) (bases : Bases) (is : IsProgram p) (laid : IsLaidOut p) (placed : IsPlacement p bases) (acc : IsAccepted p) (states : ℕ → Option State) (kept : AreKeptStates p states) (enters : EntersSites p) where
  -- a start is entered where it is before its hint
  from_start : (t s : Standing) → StartsFrom p t s → IsEntered p t.point → IsEntered p s.point
  from_start t s from h = subst (λ (q : ℕ). IsEntered p q) (sym (starts_there p bases t s from)) h

  -- a start at a hint
  at_hint : (t s : Standing) (state : State) → MayStart p state t.point → StartsFrom p t s → IsEntered p s.point
  at_hint t s state may from = from_start t s from (hint_entered_start p bases is laid acc states kept enters t.point state may)

  -- each start
  start_entered : (s : Standing) → Start p bases s → IsEntered p s.point
  start_entered s (at_entry t s2 f entry c d was e from) = from_start t s from (entered_entry p is acc states kept enters entry t.point c d)
  start_entered s (at_call_hint t s2 depth fp bp may was from) = at_hint t s (Live depth fp bp) may from
  start_entered s (at_regs_hint t s2 full depth may was from) = at_hint t s (Regs full depth) may from
  start_entered s (at_end_hint t s2 kind may empty from) = at_hint t s (Ended kind) may from

  -- what is entered stays so past a hint
  landed : (t u : Standing) → Lands p t u → IsEntered p t.point → IsEntered p u.point
  landed t u l h = subst (λ (q : ℕ). IsEntered p q) (sym (lands_there p bases t u l)) h

  -- each step
  step_entered : (m n : Machine) → IsInOrder p bases m → HoldsAt (IsEntered p) m → HoldsOfCalls (IsEntered p) m → Step p bases m n → HoldsAt (IsEntered p) n
  step_entered m n o e h (goes_on s t u g l) = landed t u l (goes_on_entered p bases is laid acc states kept enters s t o.0 o.1 e h g)
  step_entered m n o e h (faults s t u g l) = landed t u l (faults_entered p bases is laid acc states kept enters s t o.0 o.1 e h g)
  step_entered m n o e h (calls_in s t u g l) = landed t u l (calls_in_entered p bases is laid acc states kept enters s t o.0 o.1 e h g)
  step_entered m n o e h (calls_out s t u g l) = landed t u l (calls_out_entered p bases is laid acc states kept enters s t o.0 o.1 e h g)
  step_entered m n o e h (returns s t u g l) = landed t u l (returns_entered p bases is laid acc states kept enters s t o.0 o.1 e h g)
  step_entered m n o e h (tail_calls s t u g l) = landed t u l (tail_calls_entered p bases is laid acc states kept enters s t o.0 o.1 e h g)
  step_entered m n o e h (wrecks s w) = tt
  step_entered m n o e h (interrupted s t u g l) = landed t u l (interrupted_entered p bases is laid acc states kept enters s t o.0 o.1 e h g)
  step_entered m n o e h (irets s t g) = irets_entered p bases is laid acc states kept enters s t o.0 o.1 e h g

  -- each run, with the calls that made its frames
  run_entered : (m : Machine) → Run p bases m → HoldsAt (IsEntered p) m × HoldsOfCalls (IsEntered p) m
  run_entered m (started s start stack) = (start_entered s start, first_calls p bases (IsEntered p) s start)
  run_entered m (stepped k n r step stays) =
      let e = run_entered k r in
      (step_entered k n (law p bases is placed acc k r) e.0 e.1 step, step_calls p bases (IsEntered p) k n e.0 e.1 step)

  -- so each point to which runs come
  pub visited_entered : (q : ℕ) → IsVisited p bases q → IsPoint p q × IsEntered p q
  visited_entered q v =
      let o = law p bases is placed acc (At v.standing) v.run in
      let e : IsEntered p v.standing.point = (run_entered (At v.standing) v.run).0 in
      (subst (λ (x : ℕ). IsPoint p x) v.here o.0.point, subst (λ (x : ℕ). IsEntered p x) v.here e)
