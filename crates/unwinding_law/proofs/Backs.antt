-- A return, a return from an interrupt, and a jump to another function.
use Rattle.std.proofs.Common.{◌≡◌, ℕ, ◌-◌, ◌^◌, ◌<◌, ◌≤◌, is_some, Bool, true, false, List, ◌∷◌, Option, Some, None, MatchBool, Contains, All, flat_map, refl, sym, ap, ◌∙◌, subst, inl, inr, arith}
use Rattle.std.proofs.lemmas.List.Elements.{All-head, All-tail}
use Rattle.machine_defs.specs.declared.flow.EdgeKind.TheVariants.{Next, Sibling}
use Rattle.machine_defs.specs.declared.flow.Role.{Role}
use Rattle.machine_defs.specs.declared.flow.Role.TheVariants.{Return}
use Rattle.state_defs.specs.declared.state.EndKind.{EndKind}
use Rattle.state_defs.specs.declared.state.State.{State}
use Rattle.state_defs.specs.declared.state.State.TheVariants.{Live, Ended, Regs}
use Rattle.state_defs.specs.Address.{up}
use Rattle.state_defs.specs.Region.{Region, hi_of, Holds}
use Rattle.state_defs.specs.Frame.{Frame, Mark, Protected, protected, listed, AreKept, LieAbove}
use Rattle.state_defs.specs.Effect.{Core, IsInStack}
use Rattle.state_defs.specs.State.{initial, ended_by, MeansTop}
use Rattle.machine_defs.specs.Program.{Program, IsPoint, entry_points, is_call, edge}
use Rattle.machine_defs.specs.Machine.{Bases, Standing, At, return_address, point_address}
use Rattle.machine_defs.specs.Step.{ends_run, LeavesMemory, Returns, JumpsTo, sibling, indirect, TailCalls, ReturnsFromInterrupt}
use Rattle.machine_defs.specs.MayReturn.{MayReturn, target_may_return}
use Rattle.machine_defs.specs.MayReturn as may
use Rattle.machine_defs.specs.Kept.{Kept}
use Rattle.machine_defs.specs.Broken.{IsAccepted, LeavesByJump}
use Rattle.machine_defs.specs.Broken as broken
use Rattle.machine_defs.specs.IsProgram.{IsProgram}
use Rattle.machine_defs.specs.Law.{CallReturns, AreMarksKept, IsInnerFrame, AreFrames, HasRunInvariant, HasFrameInvariant, IsInOrder}
use Rattle.machine_defs.specs.Law as law
use Rattle.unwinding_law.proofs.Lists.{all_right}
use Rattle.unwinding_law.proofs.Numbers.{up_down}
use Rattle.unwinding_law.proofs.Memory.{same_hi, spared_kept}
use Rattle.unwinding_law.proofs.KeptStates.{entry_kept}
use Rattle.unwinding_law.proofs.Frames.{frames_elsewhere, frame_invariant, stays_out}
use Rattle.unwinding_law.proofs.Passes.{same_frames}
use Rattle.unwinding_law.proofs.Landing.{IsComing, no_slots}
use Rattle.unwinding_law.proofs.Wrecks.{allowed_here}
use Rattle.unwinding_law.proofs.ComesBack.{call_comes_back}
use Rattle.unwinding_law.proofs.Edges.{edge_in, next_checked, call_next_in, past_call}
use Rattle.unwinding_law.proofs.Leaves.{at_jump, at_leave, leaves_may_return}

-- the top frame, where a point in the program is behind it
pub inner_of : (p : Program) (bases : Bases) (q call : ℕ) (g : Frame) (fs : List Frame) → AreFrames p bases q (g ∷ fs) → g.call ≡ Some call → IsInnerFrame p bases q call g fs × AreFrames p bases call fs
inner_of p bases q call g fs (law.outermost at f rest none h) e = let k : None ≡ Some call = sym none ∙ e in absurd (let k : ⊥ = cc in k)
inner_of p bases q call g fs (law.inner at from f rest called h below) e = let o : Some from ≡ Some call = sym called ∙ e in let k : from ≡ call = cc in (subst (λ (x : ℕ). IsInnerFrame p bases q x g fs) k h, subst (λ (x : ℕ). AreFrames p bases x fs) k below)

-- the target of a call to which a return comes back may return
pub comes_back_to : (p : Program) → IsProgram p → (s t : Standing) → IsPoint p s.point → (h : Returns p s t) → CallReturns p h.call s.point → target_may_return p h.call ≡ true
comes_back_to p is s t point h (inl e) = absurd (let e2 = h.passed in let k : ⊥ = cc in k)
comes_back_to p is s t point h (inr (inl e)) = absurd (let e2 = h.unlisted in let k : ⊥ = cc in k)
comes_back_to p is s t point h (inr (inr (inl e))) = e
comes_back_to p is s t point h (inr (inr (inr e))) = let m : p.may_return s.point ≡ true = (is.may_return s.point point).1 (leaves_may_return p s.point (p.role s.point) refl h.leaves) in absurd (let k : ⊥ = cc in k)

-- a state that has ended means nothing of the stack
means_ended : (a : State) (kind : EndKind) → ended_by a ≡ Some kind → (rsp rbp : ℕ) (fs : List Frame) → MeansTop a rsp rbp fs
means_ended (Live d m b) kind e rsp rbp fs = absurd (let k : ⊥ = cc in k)
means_ended (Ended k) kind e rsp rbp fs = tt
means_ended (Regs full d) kind e rsp rbp fs = absurd (let k : ⊥ = cc in k)

some_kind : (o : Option EndKind) → is_some o ≡ true → (kind : EndKind) × (o ≡ Some kind)
some_kind None e = absurd (let k : ⊥ = cc in k)
some_kind (Some kind) e = (kind, refl)

left_hi : (x : Role) (fs : List Frame) (before after : Region) → LeavesMemory x fs before after → hi_of after ≡ hi_of before
left_hi Return fs before after h = ap hi_of h
left_hi _ fs before after h = same_hi before after h.addresses

left_kept : (x : Role) (fs : List Frame) (end : Option EndKind) (rsp : ℕ) (before after : Region) → LeavesMemory x fs before after → AreKept rsp before (listed end fs) → AreKept rsp after (listed end fs)
left_kept Return fs end rsp before after h k = subst (λ (x : Region). AreKept rsp x (listed end fs)) (sym h) k
left_kept _ fs end rsp before after h k = spared_kept fs end rsp before after h k

module _ (p : Program) (bases : Bases) (is : IsProgram p) (acc : IsAccepted p) (s t : Standing) (r : HasRunInvariant p s) (f : HasFrameInvariant p bases s) (stack : IsInStack s.core) where
  -- the slots of the frames below the top one are kept
  slots_below : (g : Frame) (fs : List Frame) → s.core.shadow ≡ g ∷ fs → s.ended ≡ None → LieAbove g.cfa (listed g.ended_caller fs) → AreKept g.cfa s.core.region (listed g.ended_caller fs)
  slots_below g fs shadow ended above =
      let one : AreKept s.core.rsp s.core.region (listed None s.core.shadow) = subst (λ (x : Option EndKind). AreKept s.core.rsp s.core.region (listed x s.core.shadow)) ended r.slots in
      let two : AreKept s.core.rsp s.core.region (g ∷ listed g.ended_caller fs) = subst (λ (x : List Frame). AreKept s.core.rsp s.core.region (listed None x)) shadow one in
      record { above = above; hold = all_right (λ (x : Protected). Holds s.core.region x.at x.value) (protected g) (flat_map protected (listed g.ended_caller fs)) two.hold }

  module _ (g : Frame) (fs : List Frame) (shadow : s.core.shadow ≡ g ∷ fs) where
    cfas : All (λ (x : Frame). x.cfa ≤ hi_of s.core.region) (g ∷ fs)
    cfas = subst (λ (x : List Frame). All (λ (y : Frame). y.cfa ≤ hi_of s.core.region) x) shadow f.below_hi

    top_frames : AreFrames p bases s.point (g ∷ fs)
    top_frames = subst (λ (x : List Frame). AreFrames p bases s.point x) shadow f.frames

    small : g.cfa < 2 ^ 64
    small = bound g.cfa (hi_of s.core.region) (All-head (λ (x : Frame). x.cfa ≤ hi_of s.core.region) g fs cfas) stack.region.below_end
      where
        bound : (x hi : ℕ) → x ≤ hi → hi < 2 ^ 64 - 2 ^ 30 → x < 2 ^ 64
        bound x hi a b = omega arith

    -- the frame invariant of the level below
    level_below : (call : ℕ) → IsInnerFrame p bases s.point call g fs → AreFrames p bases t.point fs → t.core.shadow ≡ fs → hi_of t.core.region ≡ hi_of s.core.region → t.mark ≡ g.mark_caller → HasFrameInvariant p bases t
    level_below call i frames now hi mark = record {
      frames = subst (λ (x : List Frame). AreFrames p bases t.point x) (sym now) frames;
      below_hi = subst (λ (x : List Frame). All (λ (y : Frame). y.cfa ≤ hi_of t.core.region) x) (sym now) (subst (λ (x : ℕ). All (λ (y : Frame). y.cfa ≤ x) fs) (sym hi) (All-tail (λ (x : Frame). x.cfa ≤ hi_of s.core.region) g fs cfas));
      mark = subst (λ (x : List Frame). AreMarksKept p t.mark x) (sym now) (subst (λ (x : Option Mark). AreMarksKept p x fs) (sym mark) i.mark_kept);
    }

  module _ (h : Returns p s t) where
    pub returns_come : IsComing p bases t
    returns_come =
        let both = inner_of p bases s.point h.call h.frame h.below (top_frames h.frame h.below h.shadow) h.called in
        let i : IsInnerFrame p bases s.point h.call h.frame h.below = both.0 in
        let k = i.call_kept in
        let call : is_call (p.role h.call) ≡ true = (subst (λ (b : Bool). MatchBool b ((h.frame.ra ≡ return_address p bases h.call) × (is_call (p.role h.call) ≡ true)) (h.frame.ra ≡ point_address p bases h.call)) h.ready.of_call i.goes_back).1 in
        let back : target_may_return p h.call ≡ true = comes_back_to p is s t r.point h (i.comes_back h.ready.of_call) in
        let next : Contains (p.goes h.call) (edge t.point Next) = call_next_in p is acc h.call t.point k.state i.point k.kept call h.passed h.comes_back in
        let point : IsPoint p t.point = is.followers h.call t.point i.point h.comes_back in
        let frames : AreFrames p bases t.point h.below = frames_elsewhere p bases h.call t.point h.below (stays_out p bases is h.call t.point i.point point (call_comes_back p is h.call t.point i.point h.passed next call back)) both.1 in
        let hi : hi_of t.core.region ≡ hi_of s.core.region = left_hi (p.role s.point) h.below s.core.region t.core.region h.memory in
        record {
          point = point;
          checked = next_checked p is acc h.call t.point k.state i.point k.kept next back;
          frames = level_below h.frame h.below h.shadow h.call i frames (ap (λ (x : Core). x.shadow) h.core) hi h.mark;
          told = λ free. told i point (past_call p is acc h.call t.point k.state i.point k.kept call back next free);
        }
      where
        -- where its way out is followed, the stack hasn't ended
        live : ends_run p s ≡ false → s.ended ≡ None
        live stays = r.ended ∙ ap ended_by (at_leave p acc s.point r.state r.kept (allowed_here p is acc s r stack stays) (p.role s.point) refl h.leaves)

        told_live : s.ended ≡ None → (i : IsInnerFrame p bases s.point h.call h.frame h.below) → IsPoint p t.point → Kept p t.point i.call_kept.state → HasRunInvariant p t
        told_live live i point kept =
            let k = i.call_kept in
            let rsp : up s.core.rsp 8 ≡ h.frame.cfa = ap (λ (x : ℕ). up x 8) h.ready.cfa ∙ up_down h.frame.cfa (small h.frame h.below h.shadow) in
            let kept_below : AreKept h.frame.cfa t.core.region (listed h.frame.ended_caller h.below) = left_kept (p.role s.point) h.below h.frame.ended_caller h.frame.cfa s.core.region t.core.region h.memory (slots_below h.frame h.below h.shadow live k.slots) in
            let slots : AreKept (up s.core.rsp 8) t.core.region (listed h.frame.ended_caller h.below) = subst (λ (x : ℕ). AreKept x t.core.region (listed h.frame.ended_caller h.below)) (sym rsp) kept_below in
            let slots_there : AreKept t.core.rsp t.core.region (listed h.frame.ended_caller t.core.shadow) = subst (λ (x : Core). AreKept x.rsp t.core.region (listed h.frame.ended_caller x.shadow)) (sym h.core) slots in
            let means : MeansTop k.state (up s.core.rsp 8) s.core.rbp h.below = subst (λ (x : ℕ). MeansTop k.state x s.core.rbp h.below) (sym rsp) (subst (λ (x : ℕ). MeansTop k.state h.frame.cfa x h.below) (sym h.ready.bp) k.means) in
            record {
              point = point;
              state = k.state;
              kept = kept;
              ended = h.ended ∙ k.ended;
              means = subst (λ (x : Core). MeansTop k.state x.rsp x.rbp x.shadow) (sym h.core) means;
              slots = subst (λ (x : Option EndKind). AreKept t.core.rsp t.core.region (listed x t.core.shadow)) (sym h.ended) slots_there;
            }

        -- where a run ends but for a caller whose stack had ended, nothing is asked there
        told_ended : (kind : EndKind) → h.frame.ended_caller ≡ Some kind → (i : IsInnerFrame p bases s.point h.call h.frame h.below) → IsPoint p t.point → Kept p t.point i.call_kept.state → HasRunInvariant p t
        told_ended kind e i point kept =
            let k = i.call_kept in
            let ended : t.ended ≡ Some kind = h.ended ∙ e in
            record {
              point = point;
              state = k.state;
              kept = kept;
              ended = h.ended ∙ k.ended;
              means = means_ended k.state kind (sym k.ended ∙ e) t.core.rsp t.core.rbp t.core.shadow;
              slots = subst (λ (x : Option EndKind). AreKept t.core.rsp t.core.region (listed x t.core.shadow)) (sym ended) (no_slots t.core.rsp t.core.region);
            }

        told : (i : IsInnerFrame p bases s.point h.call h.frame h.below) → IsPoint p t.point → Kept p t.point i.call_kept.state → HasRunInvariant p t
        told i point kept = go (ends_run p s) refl
          where
            go : (b : Bool) → ends_run p s ≡ b → HasRunInvariant p t
            go false e = told_live (live e) i point kept
            go true e = let k = some_kind h.frame.ended_caller (h.still_ended e) in told_ended k.0 k.1 i point kept

  pub irets_in_order : ReturnsFromInterrupt p s t → IsInOrder p bases (At t)
  irets_in_order h =
      let both = inner_of p bases s.point t.point h.frame h.below (top_frames h.frame h.below h.shadow) h.interrupted in
      let i : IsInnerFrame p bases s.point t.point h.frame h.below = both.0 in
      let k = i.call_kept in
      let region : t.core.region ≡ s.core.region = ap (λ (x : Core). x.region) h.core in
      let kept_below : AreKept h.frame.cfa s.core.region (listed h.frame.ended_caller h.below) = slots_below h.frame h.below h.shadow h.live k.slots in
      let slots_there : AreKept t.core.rsp t.core.region (listed h.frame.ended_caller t.core.shadow) = subst (λ (x : Core). AreKept x.rsp x.region (listed h.frame.ended_caller x.shadow)) (sym h.core) kept_below in
      let means : MeansTop k.state h.frame.cfa s.core.rbp h.below = subst (λ (x : ℕ). MeansTop k.state h.frame.cfa x h.below) (sym h.ready.bp) k.means in (
        record {
          point = i.point;
          state = k.state;
          kept = k.kept;
          ended = h.ended ∙ k.ended;
          means = subst (λ (x : Core). MeansTop k.state x.rsp x.rbp x.shadow) (sym h.core) means;
          slots = subst (λ (x : Option EndKind). AreKept t.core.rsp t.core.region (listed x t.core.shadow)) (sym h.ended) slots_there;
        },
        level_below h.frame h.below h.shadow t.point i both.1 (ap (λ (x : Core). x.shadow) h.core) (ap hi_of region) h.mark,
      )

  -- where a jump to another function leads
  record IsTailTarget (q : ℕ) : Type 0 where
    entry : ℕ
    listed_entry : Contains p.entries entry
    arrives : Contains (entry_points p entry) q
    leaves : LeavesByJump p s.point
    returns : MayReturn p q → MayReturn p s.point

  tail_target : (a q : ℕ) → a ≡ s.point → IsPoint p a → JumpsTo p a q → IsTailTarget q
  tail_target a q e point (sibling q2 c) =
      let t = is.siblings a q point c in
      record {
        entry = t.0;
        listed_entry = t.1;
        arrives = t.2;
        leaves = subst (λ (x : ℕ). LeavesByJump p x) e (broken.sibling q (edge_in p is acc a q Sibling c refl));
        returns = λ m. subst (λ (x : ℕ). MayReturn p x) e (may.branches a (edge q Sibling) (λ k. let z : ⊥ = cc in z) c m);
      }
  tail_target a q e point (indirect q2 entry role c d) = record {
    entry = entry;
    listed_entry = c;
    arrives = d;
    leaves = subst (λ (x : ℕ). LeavesByJump p x) e (broken.anywhere role);
    returns = λ m. subst (λ (x : ℕ). MayReturn p x) e (may.jumps_anywhere a role);
  }

  pub tail_calls_come : TailCalls p s t → IsComing p bases t
  tail_calls_come h =
      let x = tail_target s.point t.point refl r.point h.target in
      let point : IsPoint p t.point = is.arrivals (p.place x.entry) t.point x.arrives in
      let checked = is.entries_checked x.entry t.point x.listed_entry x.arrives in
      let at_initial : r.state ≡ initial = at_jump p acc s.point r.state r.kept (allowed_here p is acc s r stack h.followed) x.leaves in
      let means : MeansTop initial s.core.rsp s.core.rbp s.core.shadow = subst (λ (y : State). MeansTop y s.core.rsp s.core.rbp s.core.shadow) at_initial r.means in
      let slots : AreKept t.core.rsp t.core.region (listed s.ended t.core.shadow) = subst (λ (y : Core). AreKept y.rsp y.region (listed s.ended y.shadow)) (sym h.core) r.slots in
      record {
        point = point;
        checked = checked;
        frames = frame_invariant p bases s t (same_frames s.core.shadow t.core.shadow (ap (λ (y : Core). y.shadow) h.core)) (ap (λ (y : Core). hi_of y.region) h.core) h.level.mark (stays_out p bases is s.point t.point r.point point x.returns) f;
        told = λ free. record {
          point = point;
          state = initial;
          kept = entry_kept p t.point x.entry checked free x.listed_entry x.arrives;
          ended = h.level.ended ∙ (r.ended ∙ ap ended_by at_initial);
          means = subst (λ (y : Core). MeansTop initial y.rsp y.rbp y.shadow) (sym h.core) means;
          slots = subst (λ (y : Option EndKind). AreKept t.core.rsp t.core.region (listed y t.core.shadow)) (sym h.level.ended) slots;
        };
      }
