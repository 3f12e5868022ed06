-- Each start of a run is in order.
use Rattle.std.proofs.Common.{◌≡◌, ℕ, ◌+◌, ◌-◌, ◌^◌, ◌<◌, ◌≤◌, Bool, true, false, List, [], ◌∷◌, Option, Some, None, MatchBool, All, refl, sym, ap, ◌∙◌, subst, arith, le_of_eq}
use Rattle.std.proofs.lemmas.List.Elements.{All-nil, All-cons}
use Rattle.state_defs.specs.declared.state.EndKind.{EndKind}
use Rattle.state_defs.specs.declared.state.State.{State}
use Rattle.state_defs.specs.declared.state.State.TheVariants.{Live, Ended, Regs}
use Rattle.state_defs.specs.declared.state.HintState.TheVariants.{Set}
use Rattle.state_defs.specs.Address.{up, down}
use Rattle.state_defs.specs.Region.{hi_of, Holds}
use Rattle.state_defs.specs.Frame.{Slot, Unsaved, is_of_call, Frame, Mark, Protected, listed, AreKept}
use Rattle.state_defs.specs.Effect.{IsInStack}
use Rattle.state_defs.specs.State.{initial, MeansTop}
use Rattle.machine_defs.specs.Program.{Program, IsPoint}
use Rattle.machine_defs.specs.Machine.{Bases, Standing, At, IsOutside}
use Rattle.machine_defs.specs.Run.{outermost, MayStart, WasCalled, IsAtEntry, StartsFrom, Start, at_entry, at_call_hint, at_regs_hint, at_end_hint}
use Rattle.machine_defs.specs.Kept.{is_free, Kept}
use Rattle.machine_defs.specs.IsProgram.{IsProgram}
use Rattle.machine_defs.specs.Law.{AreMarksKept, AreFrames, HasRunInvariant, HasFrameInvariant, IsInOrder}
use Rattle.machine_defs.specs.Law as law
use Rattle.unwinding_law.proofs.Numbers.{down_up, up_inside, reads_holds}
use Rattle.unwinding_law.proofs.KeptStates.{entry_kept}
use Rattle.unwinding_law.proofs.Landing.{IsComing, landed, landed_stack}

module _ (p : Program) (bases : Bases) where
  -- the start is in order where it comes to its hint in order
  from_coming : (t s : Standing) → IsComing p bases t → StartsFrom p t s → IsInOrder p bases (At s)
  from_coming t s c from =
      let o = landed p bases t from.hinted c from.lands in
      let r = o.0 in
      subst (λ (x : Standing). IsInOrder p bases (At x)) (sym from.start) (
        record { point = r.point; state = r.state; kept = r.kept; ended = r.ended; means = r.means; slots = r.slots },
        record { frames = o.1.frames; below_hi = o.1.below_hi; mark = tt },
      )

  stack_before : (t s : Standing) → StartsFrom p t s → IsInStack s.core → IsInStack t.core
  stack_before t s from h = landed_stack p t from.hinted from.lands (subst (λ (x : Standing). IsInStack x.core) from.start h)

  -- the frame invariant of a single frame that was there at the start
  one_frame : (t s : Standing) (ra cfa bp : ℕ) (slot : Slot) → StartsFrom p t s → t.core.shadow ≡ outermost ra cfa bp slot t.core.ac ∷ [] → MatchBool (is_of_call slot) (IsOutside p bases (down ra 1)) (IsOutside p bases ra) → cfa ≤ hi_of t.core.region → HasFrameInvariant p bases t
  one_frame t s ra cfa bp slot from shadow out hi =
      let frames : AreFrames p bases t.point (outermost ra cfa bp slot t.core.ac ∷ []) = law.outermost t.point (outermost ra cfa bp slot t.core.ac) [] refl (record { last = refl; ended = refl; goes_out = out }) in
      let all : All (λ (x : Frame). x.cfa ≤ hi_of t.core.region) (outermost ra cfa bp slot t.core.ac ∷ []) = All-cons (λ (x : Frame). x.cfa ≤ hi_of t.core.region) (outermost ra cfa bp slot t.core.ac) [] hi (All-nil (λ (x : Frame). x.cfa ≤ hi_of t.core.region)) in
      record {
        frames = subst (λ (x : List Frame). AreFrames p bases t.point x) (sym shadow) frames;
        below_hi = subst (λ (x : List Frame). All (λ (y : Frame). y.cfa ≤ hi_of t.core.region) x) (sym shadow) all;
        mark = subst (λ (x : Option Mark). AreMarksKept p x t.core.shadow) (sym from.mark) tt;
      }

  called_frame : (t s : Standing) → StartsFrom p t s → WasCalled p bases t.core → HasFrameInvariant p bases t
  called_frame t s from c = one_frame t s c.ra c.cfa c.bp Unsaved from c.shadow c.outside c.below_hi

  -- at an entry, right after the call
  at_entry_told : (t s : Standing) (f : Frame) → StartsFrom p t s → (c : WasCalled p bases t.core) → IsAtEntry t.core f → IsInStack t.core → IsPoint p t.point → Kept p t.point initial → HasRunInvariant p t
  at_entry_told t s f from c e stack point kept =
      let same : f ≡ outermost c.ra c.cfa c.bp Unsaved t.core.ac = top_is (sym e.shadow ∙ c.shadow) in
      let cfa : c.cfa ≡ up t.core.rsp 8 = sym (ap (λ (x : Frame). x.cfa) same) ∙ e.cfa in
      let bp : c.bp ≡ t.core.rbp = sym (ap (λ (x : Frame). x.bp) same) ∙ e.bp in
      let rsp : t.core.rsp ≡ down c.cfa 8 = sym (ap (λ (x : ℕ). down x 8) cfa ∙ down_up t.core.rsp (small t.core.rsp (hi_of t.core.region) stack.below_hi stack.region.below_end)) in
      let plain : c.cfa ≡ t.core.rsp + 8 = cfa ∙ up_inside t.core.rsp (hi_of t.core.region) stack.below_hi stack.region.below_end in
      let lo : t.core.region.lo ≤ down c.cfa 8 = subst (λ (x : ℕ). t.core.region.lo ≤ x) rsp stack.above_lo in
      let top : down c.cfa 8 + 8 ≤ hi_of t.core.region = subst (λ (x : ℕ). x + 8 ≤ hi_of t.core.region) rsp (subst (λ (x : ℕ). x ≤ hi_of t.core.region) plain c.below_hi) in
      let held : Holds t.core.region (down c.cfa 8) c.ra = reads_holds t.core.region (down c.cfa 8) c.ra lo top c.pushed in
      let o : Frame = outermost c.ra c.cfa c.bp Unsaved t.core.ac in
      let means : MeansTop initial t.core.rsp t.core.rbp (o ∷ []) = record { depth = rsp; fp = tt; bp = (refl, sym bp) } in
      let slots : AreKept t.core.rsp t.core.region (o ∷ []) = record {
        above = All-cons (λ (x : Protected). t.core.rsp ≤ x.at) (record { at = down c.cfa 8; value = c.ra }) [] (le_of_eq rsp) (All-nil (λ (x : Protected). t.core.rsp ≤ x.at));
        hold = All-cons (λ (x : Protected). Holds t.core.region x.at x.value) (record { at = down c.cfa 8; value = c.ra }) [] held (All-nil (λ (x : Protected). Holds t.core.region x.at x.value));
      } in
      record {
        point = point;
        state = initial;
        kept = kept;
        ended = from.ended;
        means = subst (λ (x : List Frame). MeansTop initial t.core.rsp t.core.rbp x) (sym c.shadow) means;
        slots = subst (λ (x : Option EndKind). AreKept t.core.rsp t.core.region (listed x t.core.shadow)) (sym from.ended) (subst (λ (x : List Frame). AreKept t.core.rsp t.core.region (listed None x)) (sym c.shadow) slots);
      }
    where
      top_is : f ∷ [] ≡ outermost c.ra c.cfa c.bp Unsaved t.core.ac ∷ [] → f ≡ outermost c.ra c.cfa c.bp Unsaved t.core.ac
      top_is h = cc

      small : (x hi : ℕ) → x ≤ hi → hi < 2 ^ 64 - 2 ^ 30 → x < 2 ^ 64
      small x hi a b = omega arith

  -- at a hint that sets a state nothing is to be told before it
  hinted : (t : Standing) (s : State) → p.hint t.point ≡ Some (Set s) → is_free (p.hint t.point) ≡ true → HasRunInvariant p t
  hinted t s h free = absurd (let e : is_free (p.hint t.point) ≡ false = ap is_free h in let k : ⊥ = cc in k)

  -- a start at a hint stands at a checked point
  start_point : IsProgram p → {state : State} → {q : ℕ} → MayStart p state q → IsPoint p q
  start_point is {state} {q} may = is.arrivals (p.place may.plain_point) q may.arrives

  start_checked : IsProgram p → {state : State} → {q : ℕ} → MayStart p state q → p.unchecked q ≡ false
  start_checked is {state} {q} may = (is.arrives_owned may.plain_point q may.point may.plain may.arrives).1 ∙ may.checked

  pub start_in_order : IsProgram p → (s : Standing) → Start p bases s → IsInStack s.core → IsInOrder p bases (At s)
  start_in_order is s (at_entry t s2 f entry c d called e from) stack =
      let point = is.arrivals (p.place entry) t.point d in
      let checked = is.entries_checked entry t.point c d in
      from_coming t s (record {
        point = point;
        checked = checked;
        frames = called_frame t s from called;
        told = λ free. at_entry_told t s f from called e (stack_before t s from stack) point (entry_kept p t.point entry checked free c d);
      }) from
  start_in_order is s (at_call_hint t s2 depth fp bp may called from) stack =
      from_coming t s (record { point = start_point is may; checked = start_checked is may; frames = called_frame t s from called; told = hinted t (Live depth fp bp) may.counts }) from
  start_in_order is s (at_regs_hint t s2 full depth may was from) stack =
      from_coming t s (record {
        point = start_point is may;
        checked = start_checked is may;
        frames = one_frame t s was.ra was.cfa was.bp was.slot from was.shadow (subst (λ (b : Bool). MatchBool b (IsOutside p bases (down was.ra 1)) (IsOutside p bases was.ra)) (sym was.of_interrupt) was.outside) was.below_hi;
        told = hinted t (Regs full depth) may.counts;
      }) from
  start_in_order is s (at_end_hint t s2 kind may empty from) stack =
      from_coming t s (record {
        point = start_point is may;
        checked = start_checked is may;
        frames = record {
          frames = subst (λ (x : List Frame). AreFrames p bases t.point x) (sym empty) (law.none t.point);
          below_hi = subst (λ (x : List Frame). All (λ (y : Frame). y.cfa ≤ hi_of t.core.region) x) (sym empty) (All-nil (λ (y : Frame). y.cfa ≤ hi_of t.core.region));
          mark = subst (λ (x : Option Mark). AreMarksKept p x t.core.shadow) (sym from.mark) tt;
        };
        told = hinted t (Ended kind) may.counts;
      }) from
