-- What holds of each point at which a run stands holds of the calls that made its frames.
use Rattle.std.proofs.Common.{◌≡◌, ℕ, List, [], ◌∷◌, Option, Some, None, map, All, refl, sym, ap, ◌∙◌, subst}
use Rattle.std.specs.Prelude.{IfSome}
use Rattle.std.proofs.lemmas.List.Elements.{All-nil, All-cons, All-tail}
use Rattle.state_defs.specs.declared.state.State.{State}
use Rattle.state_defs.specs.declared.state.State.TheVariants.{Live, Ended, Regs}
use Rattle.state_defs.specs.declared.state.HintState.{HintState}
use Rattle.state_defs.specs.declared.state.HintState.TheVariants.{Set, Save, Restore}
use Rattle.state_defs.specs.Address.{shifted}
use Rattle.state_defs.specs.Frame.{Slot, Frame, with_top_slot}
use Rattle.state_defs.specs.Effect.{Core}
use Rattle.machine_defs.specs.Program.{Program}
use Rattle.machine_defs.specs.Machine.{Bases, Standing, Machine, Wrecked, At}
use Rattle.machine_defs.specs.Hint.{hinted_slot, SetsState, Hinted, Lands}
use Rattle.machine_defs.specs.Step.{op_at, call_frame, interrupt_frame, Step, goes_on, faults, calls_in, calls_out, returns, tail_calls, wrecks, interrupted, irets}
use Rattle.machine_defs.specs.Run.{WasCalled, StartsFrom, Start, at_entry, at_call_hint, at_regs_hint, at_end_hint, Run, started, stepped}
use Rattle.unwinding_law.proofs.Shadow.{IsSlotChange, no_frame, top, effect_shape}
use Rattle.table_defs.specs.Visited.{IsVisited}

-- the calls that made frames
abbrev pub calls : List Frame → List (Option ℕ)
calls frames = map (λ f. f.call) frames

-- what holds of each of them that is in the program
abbrev pub AllHave : (ℕ → Type 0) → List (Option ℕ) → Type 0
AllHave P points = All (λ call. IfSome call P) points

-- a new slot leaves the calls
slot_calls : (fs gs : List Frame) → IsSlotChange fs gs → calls gs ≡ calls fs
slot_calls fs gs no_frame = refl
slot_calls fs gs (top f rest slot e) = refl

-- also one that is set whatever it was
top_calls : (change : Slot → Slot) (fs : List Frame) → calls (with_top_slot change fs) ≡ calls fs
top_calls change [] = refl
top_calls change (f ∷ fs) = refl

-- where the machine stands, and the calls
abbrev seat : Standing → ℕ × List (Option ℕ)
seat s = (s.point, calls s.core.shadow)

-- a hint leaves both
set_seat : (state : State) (t u : Standing) → SetsState state t u → seat u ≡ seat t
set_seat (Live depth fp bp) t u h = ap seat h.0
set_seat (Ended kind) t u h = ap seat h
set_seat (Regs full depth) t u h =
    let behind : List (Option ℕ) → ℕ × List (Option ℕ) = λ points. (t.point, points) in
    ap seat h.0 ∙ ap behind (top_calls (λ _. hinted_slot full (shifted t.core.rsp depth)) t.core.shadow)

-- of any kind
hint_seat : (hint : Option HintState) (save : Option ℕ) (t u : Standing) → Hinted hint save t u → seat u ≡ seat t
hint_seat None save t u h = ap seat h
hint_seat (Some (Set state)) save t u h = set_seat state t u h
hint_seat (Some Save) save t u h = ap seat h
hint_seat (Some Restore) save t u h = ap seat h.after

-- what holds of the point where the machine stands
abbrev pub HoldsAt : (ℕ → Type 0) → Machine → Type 0
HoldsAt P Wrecked = Unit {0}
HoldsAt P (At s) = P s.point

-- and of the calls that made its frames
abbrev pub HoldsOfCalls : (ℕ → Type 0) → Machine → Type 0
HoldsOfCalls P Wrecked = Unit {0}
HoldsOfCalls P (At s) = AllHave P (calls s.core.shadow)

module _ (p : Program) (bases : Bases) where
  -- the machine lands where it has come to
  pub lands_there : (t u : Standing) → Lands p t u → u.point ≡ t.point
  lands_there t u l = ap (λ (x : ℕ × List (Option ℕ)). x.0) (hint_seat (p.hint t.point) (p.save_of t.point) t u l)

  -- and starts there
  pub starts_there : (t s : Standing) → StartsFrom p t s → s.point ≡ t.point
  starts_there t s from = ap (λ (x : Standing). x.point) from.start ∙ lands_there t from.hinted from.lands

  module _ (P : ℕ → Type 0) where
    -- what holds of the calls stays past a hint
    landed : (t u : Standing) → Lands p t u → AllHave P (calls t.core.shadow) → AllHave P (calls u.core.shadow)
    landed t u l h = subst (λ (x : ℕ × List (Option ℕ)). AllHave P x.1) (sym (hint_seat (p.hint t.point) (p.save_of t.point) t u l)) h

    -- and where the frames stay
    same_calls : (s t : Standing) → t.core.shadow ≡ s.core.shadow → AllHave P (calls s.core.shadow) → AllHave P (calls t.core.shadow)
    same_calls s t e h = subst (λ (x : List Frame). AllHave P (calls x)) (sym e) h

    -- a start makes of them what its hint does
    start_calls : (t s : Standing) → StartsFrom p t s → AllHave P (calls t.core.shadow) → AllHave P (calls s.core.shadow)
    start_calls t s from h = subst (λ (x : Standing). AllHave P (calls x.core.shadow)) (sym from.start) (landed t from.hinted from.lands h)

    -- a frame that was there at the start has no call
    no_call : AllHave P (None ∷ [])
    no_call = All-cons (λ call. IfSome call P) None [] tt (All-nil (λ call. IfSome call P))

    -- nor has that of a call from outside
    called : (t : Standing) → WasCalled p bases t.core → AllHave P (calls t.core.shadow)
    called t c = subst (λ (x : List Frame). AllHave P (calls x)) (sym c.shadow) no_call

    -- at each start
    pub first_calls : (s : Standing) → Start p bases s → AllHave P (calls s.core.shadow)
    first_calls s (at_entry t s2 f entry c d was e from) = start_calls t s from (called t was)
    first_calls s (at_call_hint t s2 depth fp bp may was from) = start_calls t s from (called t was)
    first_calls s (at_regs_hint t s2 full depth may was from) = start_calls t s from (subst (λ (x : List Frame). AllHave P (calls x)) (sym was.shadow) no_call)
    first_calls s (at_end_hint t s2 kind may empty from) = start_calls t s from (subst (λ (x : List Frame). AllHave P (calls x)) (sym empty) (All-nil (λ call. IfSome call P)))

    -- a new frame is called from where the machine stands
    with_call : (s : Standing) → P s.point → (f : Frame) → f.call ≡ Some s.point → AllHave P (calls s.core.shadow) → AllHave P (calls (f ∷ s.core.shadow))
    with_call s here f e h = All-cons (λ call. IfSome call P) f.call (calls s.core.shadow) (subst (λ (x : Option ℕ). IfSome x P) (sym e) here) h

    -- the frames below are called as before
    without_top : (s : Standing) (f : Frame) (fs : List Frame) → s.core.shadow ≡ f ∷ fs → AllHave P (calls s.core.shadow) → AllHave P (calls fs)
    without_top s f fs e h = All-tail (λ call. IfSome call P) f.call (calls fs) (subst (λ (x : List Frame). AllHave P (calls x)) e h)

    -- what holds of the point and of the calls holds of the calls after a step
    pub step_calls : (m n : Machine) → HoldsAt P m → HoldsOfCalls P m → Step p bases m n → HoldsOfCalls P n
    step_calls m n e h (goes_on s t u g l) = landed t u l (subst (λ (x : List (Option ℕ)). AllHave P x) (sym (slot_calls s.core.shadow t.core.shadow (effect_shape s.core t.core (op_at p s) g.effect))) h)
    step_calls m n e h (faults s t u g l) = landed t u l (same_calls s t (ap (λ (x : Core). x.shadow) g.core) h)
    step_calls m n e h (calls_in s t u g l) = landed t u l (subst (λ (x : List Frame). AllHave P (calls x)) (sym (ap (λ (x : Core). x.shadow) g.core)) (with_call s e (call_frame p bases s) refl h))
    step_calls m n e h (calls_out s t u g l) = landed t u l (same_calls s t (ap (λ (x : Core). x.shadow) g.core) h)
    step_calls m n e h (returns s t u g l) = landed t u l (subst (λ (x : List Frame). AllHave P (calls x)) (sym (ap (λ (x : Core). x.shadow) g.core)) (without_top s g.frame g.below g.shadow h))
    step_calls m n e h (tail_calls s t u g l) = landed t u l (same_calls s t (ap (λ (x : Core). x.shadow) g.core) h)
    step_calls m n e h (wrecks s w) = tt
    step_calls m n e h (interrupted s t u g l) = landed t u l (subst (λ (x : List Frame). AllHave P (calls x)) (sym (ap (λ (x : Core). x.shadow) g.core)) (with_call s e (interrupt_frame p bases s) refl h))
    step_calls m n e h (irets s t g) = subst (λ (x : List Frame). AllHave P (calls x)) (sym (ap (λ (x : Core). x.shadow) g.core)) (without_top s g.frame g.below g.shadow h)

  -- each call that is in the program is visited
  abbrev pub AreVisited : List (Option ℕ) → Type 0
  AreVisited points = AllHave (IsVisited p bases) points

  -- in a state of the machine
  abbrev pub AreCallsVisited : Machine → Type 0
  AreCallsVisited m = HoldsOfCalls (IsVisited p bases) m

  -- where the machine stands after a run, its point is visited
  pub visited : (s : Standing) → Run p bases (At s) → IsVisited p bases s.point
  visited s r = record { standing = s; run = r; here = refl }

  -- wrecked or not
  visited_at : (m : Machine) → Run p bases m → HoldsAt (IsVisited p bases) m
  visited_at Wrecked r = tt
  visited_at (At s) r = visited s r

  -- so in every state of every run the calls are visited
  pub run_calls : (m : Machine) → Run p bases m → AreCallsVisited m
  run_calls m (started s start stack) = first_calls (IsVisited p bases) s start
  run_calls m (stepped k n r step stays) = step_calls (IsVisited p bases) k n (visited_at k r) (run_calls k r) step
