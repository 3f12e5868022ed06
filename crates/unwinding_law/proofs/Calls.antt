-- A call of an entry, and an interrupt: a frame is made.
use Rattle.std.proofs.Common.{◌≡◌, ℕ, ◌+◌, ◌-◌, ◌^◌, ◌<◌, ◌≤◌, ◌&&◌, ◌||◌, not, Bool, true, false, List, ◌∷◌, Option, Some, None, Contains, All, flat_map, refl, sym, ap, ◌∙◌, subst, inl, inr, arith, le_refl, pos}
use Rattle.std.proofs.lemmas.List.Elements.{All-cons, All-weaker, All-contains}
use Rattle.machine_defs.specs.declared.flow.Role.{Role}
use Rattle.machine_defs.specs.declared.flow.Role.TheVariants.{CallIn, CallEither, CallAny}
use Rattle.state_defs.specs.declared.state.EndKind.{EndKind}
use Rattle.state_defs.specs.declared.state.State.TheVariants.{Regs}
use Rattle.state_defs.specs.declared.state.HintState.TheVariants.{Set}
use Rattle.state_defs.specs.Address.{down}
use Rattle.state_defs.specs.Region.{hi_of, Holds}
use Rattle.state_defs.specs.Frame.{Frame, Mark, Protected, protected, listed, AreKept, LieAbove}
use Rattle.state_defs.specs.Effect.{Core, IsInStack}
use Rattle.state_defs.specs.State.{initial, MeansTop}
use Rattle.machine_defs.specs.Program.{Program, IsPoint, entry_points, is_call}
use Rattle.machine_defs.specs.Machine.{Bases, Standing, return_address}
use Rattle.machine_defs.specs.Step.{IsTarget, call_frame, CallsIn, interrupt_frame, IsInterrupted}
use Rattle.machine_defs.specs.MayReturn.{code_may_return, is_listed}
use Rattle.machine_defs.specs.Kept.{is_free, Kept}
use Rattle.machine_defs.specs.IsProgram.{IsCallee, IsProgram}
use Rattle.machine_defs.specs.Law.{IsCallKept, CallReturns, AreMarksKept, IsInnerFrame, AreFrames, HasRunInvariant, HasFrameInvariant}
use Rattle.machine_defs.specs.Law as law
use Rattle.unwinding_law.proofs.Lists.{all_of, found}
use Rattle.unwinding_law.proofs.Numbers.{down_inside, reads_holds}
use Rattle.unwinding_law.proofs.Memory.{same_hi, word_above}
use Rattle.unwinding_law.proofs.KeptStates.{entry_kept}
use Rattle.unwinding_law.proofs.WaysOn.{called_is_told}
use Rattle.unwinding_law.proofs.Landing.{IsComing}

module _ (p : Program) (bases : Bases) (s : Standing) (r : HasRunInvariant p s) where
  -- the point that a new frame came from is kept
  from_here : (f : Frame) → f.cfa ≡ s.core.rsp → f.bp ≡ s.core.rbp → f.ended_caller ≡ s.ended → IsCallKept p s.point f s.core.shadow
  from_here f cfa bp ended = record {
    state = r.state;
    kept = r.kept;
    ended = ended ∙ r.ended;
    means = subst (λ (x : ℕ). MeansTop r.state x f.bp s.core.shadow) (sym cfa) (subst (λ (x : ℕ). MeansTop r.state s.core.rsp x s.core.shadow) (sym bp) r.means);
    slots = subst (λ (x : ℕ). LieAbove x (listed f.ended_caller s.core.shadow)) (sym cfa) (subst (λ (x : Option EndKind). LieAbove s.core.rsp (listed x s.core.shadow)) (sym ended) r.slots.above);
  }

  called_role : (x : Role) (entry : ℕ) → IsTarget p x entry → is_call x ≡ true
  called_role (CallIn e) entry h = refl
  called_role (CallEither e sym) entry h = refl
  called_role CallAny entry h = refl
  called_role _ entry h = absurd h

  called_entry : IsProgram p → (x : Role) (entry : ℕ) → p.role s.point ≡ x → IsTarget p x entry → IsCallee p s.point entry
  called_entry is (CallIn e) entry h k = subst (λ (y : ℕ). IsCallee p s.point y) (sym k) (is.calls_entry s.point e r.point h)
  called_entry is (CallEither e symbol) entry h k = subst (λ (y : ℕ). IsCallee p s.point y) (sym k) (is.calls_weak_entry s.point e symbol r.point h)
  called_entry is CallAny entry h k = inl k
  called_entry is _ entry h k = absurd k

  may_come_back : (x : Role) (entry q : ℕ) → IsTarget p x entry → Contains (entry_points p entry) q → p.may_return q ≡ true → code_may_return p x ≡ true
  may_come_back (CallIn e) entry q h c k = found p.may_return (entry_points p e) q (subst (λ (y : ℕ). Contains (entry_points p y) q) h c) k
  may_come_back (CallEither e sym) entry q h c k = refl
  may_come_back CallAny entry q h c k = refl
  may_come_back _ entry q h c k = absurd h

  call_returns : (entry q : ℕ) → IsTarget p (p.role s.point) entry → Contains (entry_points p entry) q → (listed back : Bool) → is_listed p s.point ≡ listed → p.may_return q ≡ back → CallReturns p s.point q
  call_returns entry q h c true back l e = inr (inl l)
  call_returns entry q h c false true l e = inr (inr (inl (both (is_listed p s.point) (p.marked_call s.point) (code_may_return p (p.role s.point)) l (may_come_back (p.role s.point) entry q h c e))))
    where
      both : (x m y : Bool) → x ≡ false → y ≡ true → (not x && (m || y)) ≡ true
      both false true y e f = refl
      both false false y e f = f
      both true m y e f = absurd (let k : ⊥ = cc in k)
  call_returns entry q h c false false l e = inr (inr (inr e))

-- What is called is checked, and is kept with the initial state where no hint there tells another.
record IsComeTo (p : Program) (q : ℕ) : Type 0 where
  checked : p.unchecked q ≡ false
  kept : is_free (p.hint q) ≡ true → Kept p q initial

comes_to : (p : Program) (bases : Bases) → IsProgram p → (s t : Standing) → HasRunInvariant p s → (entry : ℕ) → Contains (entry_points p entry) t.point → IsCallee p s.point entry → IsComeTo p t.point
comes_to p bases is s t r entry arrives (inl listed) =
    let checked = is.entries_checked entry t.point listed arrives in
    record { checked = checked; kept = λ free. entry_kept p t.point entry checked free listed arrives }
comes_to p bases is s t r entry arrives (inr may) =
    let told : is_free (p.hint t.point) ≡ false = called_is_told p s.point entry t.point may arrives in
    record {
      checked = is.unowned t.point (is.arrivals (p.place entry) t.point arrives) (may.hinted t.point arrives).0;
      kept = λ free. absurd (let k : ⊥ = cc in k);
    }

module _ (p : Program) (bases : Bases) (is : IsProgram p) (s t : Standing) (r : HasRunInvariant p s) (f : HasFrameInvariant p bases s) (stack : IsInStack s.core) where
  -- the frames with a new one on top
  with_frame : (g : Frame) → IsInnerFrame p bases t.point s.point g s.core.shadow → g.call ≡ Some s.point → g.cfa ≡ s.core.rsp → t.core.shadow ≡ g ∷ s.core.shadow → hi_of t.core.region ≡ hi_of s.core.region → t.mark ≡ None → HasFrameInvariant p bases t
  with_frame g inner call cfa shadow hi mark =
      let below : g.cfa ≤ hi_of s.core.region = subst (λ (x : ℕ). x ≤ hi_of s.core.region) (sym cfa) stack.below_hi in
      let all : All (λ (x : Frame). x.cfa ≤ hi_of s.core.region) (g ∷ s.core.shadow) = All-cons (λ (x : Frame). x.cfa ≤ hi_of s.core.region) g s.core.shadow below f.below_hi in
      let frames : AreFrames p bases t.point (g ∷ s.core.shadow) = law.inner t.point s.point g s.core.shadow call inner f.frames in
      record {
        frames = subst (λ (x : List Frame). AreFrames p bases t.point x) (sym shadow) frames;
        below_hi = subst (λ (x : List Frame). All (λ (y : Frame). y.cfa ≤ hi_of t.core.region) x) (sym shadow) (subst (λ (x : ℕ). All (λ (y : Frame). y.cfa ≤ x) (g ∷ s.core.shadow)) (sym hi) all);
        mark = subst (λ (x : Option Mark). AreMarksKept p x t.core.shadow) (sym mark) tt;
      }

  module _ (g : CallsIn p bases s t) (after : IsInStack t.core) where
    start : ℕ
    start = down s.core.rsp 8

    -- the return address lies right below the caller's rsp
    start_is : down s.core.rsp 8 + 8 ≡ s.core.rsp
    start_is =
        let hi : hi_of t.core.region ≡ hi_of s.core.region = same_hi s.core.region t.core.region g.pushed.only.addresses in
        let rsp : t.core.rsp ≡ down s.core.rsp 8 = ap (λ (x : Core). x.rsp) g.core in
        let low : down s.core.rsp 8 ≤ hi_of s.core.region = subst (λ (x : ℕ). x ≤ hi_of s.core.region) rsp (subst (λ (x : ℕ). t.core.rsp ≤ x) hi after.below_hi) in
        down_inside s.core.rsp (hi_of s.core.region) stack.below_hi stack.region.below_end low

    pushed_holds : Holds t.core.region (down s.core.rsp 8) (return_address p bases s.point)
    pushed_holds =
        let hi : hi_of t.core.region ≡ hi_of s.core.region = same_hi s.core.region t.core.region g.pushed.only.addresses in
        let rsp : t.core.rsp ≡ down s.core.rsp 8 = ap (λ (x : Core). x.rsp) g.core in
        let lo : t.core.region.lo ≤ down s.core.rsp 8 = subst (λ (x : ℕ). t.core.region.lo ≤ x) rsp after.above_lo in
        let top : down s.core.rsp 8 + 8 ≤ hi_of t.core.region = subst (λ (x : ℕ). x ≤ hi_of t.core.region) (sym start_is) (subst (λ (x : ℕ). s.core.rsp ≤ x) (sym hi) stack.below_hi) in
        reads_holds t.core.region (down s.core.rsp 8) (return_address p bases s.point) lo top g.pushed.word

    -- the slots of the frames below stay
    slots_above : AreKept (down s.core.rsp 8) t.core.region (listed s.ended s.core.shadow)
    slots_above =
        let rsp : down s.core.rsp 8 + 8 ≡ s.core.rsp = start_is in
        let wraps : down s.core.rsp 8 + 8 ≤ 2 ^ 64 = no_wrap rsp in
        record {
          above = All-weaker (λ (x : Protected). s.core.rsp ≤ x.at) (λ (x : Protected). down s.core.rsp 8 ≤ x.at) (λ x h. lower x.at rsp h) (flat_map protected (listed s.ended s.core.shadow)) r.slots.above;
          hold = all_of (λ (x : Protected). Holds t.core.region x.at x.value) (flat_map protected (listed s.ended s.core.shadow)) (λ x c.
              let a : s.core.rsp ≤ x.at = All-contains (λ (y : Protected). s.core.rsp ≤ y.at) (flat_map protected (listed s.ended s.core.shadow)) x r.slots.above c in
              word_above s.core.region t.core.region (down s.core.rsp 8) x.at wraps g.pushed.only (subst (λ (y : ℕ). y ≤ x.at) (sym rsp) a)
              ∙ All-contains (λ (y : Protected). Holds s.core.region y.at y.value) (flat_map protected (listed s.ended s.core.shadow)) x r.slots.hold c);
        }
      where
        no_wrap : down s.core.rsp 8 + 8 ≡ s.core.rsp → down s.core.rsp 8 + 8 ≤ 2 ^ 64
        no_wrap e = let a = stack.below_hi in let b = stack.region.below_end in subst (λ (x : ℕ). x ≤ 2 ^ 64) (sym e) (bound s.core.rsp (hi_of s.core.region) a b)
          where
            bound : (x hi : ℕ) → x ≤ hi → hi < 2 ^ 64 - 2 ^ 30 → x ≤ 2 ^ 64
            bound x hi a b = omega arith

        lower : (x : ℕ) → down s.core.rsp 8 + 8 ≡ s.core.rsp → s.core.rsp ≤ x → down s.core.rsp 8 ≤ x
        lower x e h = plain (down s.core.rsp 8) s.core.rsp x e h
          where
            plain : (a b x : ℕ) → a + 8 ≡ b → b ≤ x → a ≤ x
            plain a b x e h = omega arith

    call_slots : AreKept (down s.core.rsp 8) t.core.region (call_frame p bases s ∷ listed s.ended s.core.shadow)
    call_slots =
        let k = slots_above in
        record {
          above = All-cons (λ (x : Protected). down s.core.rsp 8 ≤ x.at) (record { at = down s.core.rsp 8; value = return_address p bases s.point }) (flat_map protected (listed s.ended s.core.shadow)) (le_refl (down s.core.rsp 8)) k.above;
          hold = All-cons (λ (x : Protected). Holds t.core.region x.at x.value) (record { at = down s.core.rsp 8; value = return_address p bases s.point }) (flat_map protected (listed s.ended s.core.shadow)) pushed_holds k.hold;
        }

    called : Core
    called = record s.core { rsp = down s.core.rsp 8; region = t.core.region; shadow = call_frame p bases s ∷ s.core.shadow }

    at_entry : IsPoint p t.point → Kept p t.point initial → HasRunInvariant p t
    unfolding called
    at_entry point kept =
        let slots : AreKept t.core.rsp t.core.region (listed None t.core.shadow) = subst (λ (x : Core). AreKept x.rsp t.core.region (listed None x.shadow)) (sym g.core) call_slots in
        let means : MeansTop initial called.rsp called.rbp called.shadow = record { depth = refl; fp = tt; bp = (refl, refl) } in
        record {
          point = point;
          state = initial;
          kept = kept;
          ended = g.ended;
          means = subst (λ (x : Core). MeansTop initial x.rsp x.rbp x.shadow) (sym g.core) means;
          slots = subst (λ (x : Option EndKind). AreKept t.core.rsp t.core.region (listed x t.core.shadow)) (sym g.ended) slots;
        }

    pub calls_in_come : IsComing p bases t
    calls_in_come =
        let came = comes_to p bases is s t r g.entry g.arrives (called_entry p bases s r is (p.role s.point) g.entry refl g.target) in
        let point : IsPoint p t.point = is.arrivals (p.place g.entry) t.point g.arrives in
        let checked = came.checked in
        let inner : IsInnerFrame p bases t.point s.point (call_frame p bases s) s.core.shadow = record {
          point = r.point;
          call_kept = from_here p bases s r (call_frame p bases s) refl refl refl;
          comes_back = λ _. call_returns p bases s r g.entry t.point g.target g.arrives (is_listed p s.point) (p.may_return t.point) refl refl;
          mark_kept = f.mark;
          goes_back = (refl, called_role p bases s r (p.role s.point) g.entry g.target);
        } in
        record {
          point = point;
          checked = checked;
          frames = with_frame (call_frame p bases s) inner refl refl (ap (λ (x : Core). x.shadow) g.core) (same_hi s.core.region t.core.region g.pushed.only.addresses) g.mark;
          told = λ free. at_entry point (came.kept free);
        }

  -- an interrupt comes to a gate, whose hint tells everything, whichever variant stands there
  gate_hint : (g : IsInterrupted p bases s t) → p.hint t.point ≡ Some (Set (Regs false (pos g.n)))
  gate_hint g = elim (g.gate.counts t.point g.arrives) [ inl same ↦ subst (λ (q : ℕ). p.hint q ≡ Some (Set (Regs false (pos g.n)))) (sym same) g.gate.hint | inr counts ↦ counts.1 ]

  pub interrupts_come : IsInterrupted p bases s t → IsComing p bases t
  interrupts_come g =
      let point : IsPoint p t.point = is.arrivals (p.place g.entered) t.point g.arrives in
      let inner : IsInnerFrame p bases t.point s.point (interrupt_frame p bases s) s.core.shadow = record {
        point = r.point;
        call_kept = from_here p bases s r (interrupt_frame p bases s) refl refl refl;
        comes_back = λ e. absurd (let k : ⊥ = cc in k);
        mark_kept = f.mark;
        goes_back = refl;
      } in
      record {
        point = point;
        checked = is.unowned t.point point ((is.arrives_owned g.entered t.point g.gate.point g.gate.plain g.arrives).0 ∙ g.gate.free);
        frames = with_frame (interrupt_frame p bases s) inner refl refl (ap (λ (x : Core). x.shadow) g.core) (same_hi s.core.region t.core.region g.only.addresses) g.mark;
        told = λ free. absurd (let e : is_free (p.hint t.point) ≡ false = ap is_free (gate_hint g) in let k : ⊥ = cc in k);
      }
