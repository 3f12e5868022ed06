-- An instruction that goes on in its function.
use Rattle.std.proofs.Common.{◌≡◌, ℕ, ◌≤◌, Bool, false, List, Option, Some, None, Ok, All, refl, sym, ap, ◌∙◌, subst, inl, inr}
use Rattle.std.proofs.lemmas.List.Elements.{All-head}
use Rattle.operation_defs.specs.declared.op.Op.{Op}
use Rattle.state_defs.specs.declared.state.EndKind.{EndKind}
use Rattle.state_defs.specs.declared.state.EndKind.TheVariants.{Undefined}
use Rattle.state_defs.specs.declared.state.State.{State}
use Rattle.state_defs.specs.declared.state.State.TheVariants.{Live, Ended, Regs}
use Rattle.state_defs.specs.Region.{hi_of}
use Rattle.state_defs.specs.Frame.{Frame, listed, AreKept}
use Rattle.state_defs.specs.Effect.{IsInStack, Effect}
use Rattle.state_defs.specs.State.{ended_by, IsConsistent, MeansTop}
use Rattle.state_defs.specs.Move.{move}
use Rattle.state_defs.specs.Sound.{IsTold, MoveIsSound, MoveIsConsistent}
use Rattle.machine_defs.specs.Program.{Program, IsPoint, is_call, edge}
use Rattle.machine_defs.specs.Machine.{Bases, Standing}
use Rattle.machine_defs.specs.Ways.{is_before_hint}
use Rattle.machine_defs.specs.Step.{op_at, EndedBehind, is_firm, is_lost, is_kept, GoesOn}
use Rattle.machine_defs.specs.MayReturn as may
use Rattle.machine_defs.specs.Kept.{loosened, moved_at, Kept}
use Rattle.machine_defs.specs.Broken.{IsAccepted}
use Rattle.machine_defs.specs.IsProgram.{IsProgram}
use Rattle.machine_defs.specs.Law.{AreFrames, HasRunInvariant, HasFrameInvariant}
use Rattle.machine_defs.proofs.KeptLemmas.{kept_is_one}
use Rattle.unwinding_law.proofs.WaysOn.{no_hint_behind, acts_no_call, acts_as_it_is}
use Rattle.unwinding_law.proofs.Shadow.{effect_shape, effect_hi, effect_no_call}
use Rattle.unwinding_law.proofs.Frames.{HasTop, has_top, means_top, top_above, frame_invariant, stays_out}
use Rattle.unwinding_law.proofs.KeptStates.{moved_at_kept, kept_consistent}
use Rattle.unwinding_law.proofs.Landing.{IsComing, no_slots}
use Rattle.unwinding_law.proofs.Edges.{plain_role, may_go, moves, local_checked, local_kept}

-- what a state says after an effect
record IsToldAfter (q : ℕ) (a : State) (t : Standing) : Type 0 where
  ended : t.ended ≡ ended_by a
  means : MeansTop a t.core.rsp t.core.rbp t.core.shadow
  slots : AreKept t.core.rsp t.core.region (listed t.ended t.core.shadow)

-- where the stack has ended nothing is said of it
told_ended : (t : Standing) (k : EndKind) (b : State) → t.ended ≡ Some k → Ended k ≡ b → IsToldAfter t.point b t
told_ended t k b ended e =
    subst (λ (x : State). IsToldAfter t.point x t) e (record {
      ended = ended;
      means = tt;
      slots = subst (λ (x : Option EndKind). AreKept t.core.rsp t.core.region (listed x t.core.shadow)) (sym ended) (no_slots t.core.rsp t.core.region);
    })

module _ (p : Program) (bases : Bases) (is : IsProgram p) (sound : MoveIsSound) (keeps : MoveIsConsistent) (s t : Standing) (r : HasRunInvariant p s) (f : HasFrameInvariant p bases s) (stack : IsInStack s.core) (effect : Effect (op_at p s) s.core t.core) (before : is_before_hint p s.point ≡ false) (level : t.ended ≡ s.ended) (after : IsInStack t.core) where
  -- of a state that isn't ended
  told_live : (a b : State) → r.state ≡ a → ended_by a ≡ None → move a (p.insn s.point).op ≡ Ok b → IsToldAfter t.point b t
  told_live a b is_a live moved =
      let consistent : IsConsistent a = subst IsConsistent is_a (kept_consistent p is keeps s.point r.state r.point r.kept) in
      let s_ended : s.ended ≡ None = r.ended ∙ (ap ended_by is_a ∙ live) in
      let t_ended : t.ended ≡ None = level ∙ s_ended in
      let h : HasTop a s.core.rsp s.core.rbp s.core.shadow = has_top a s.core.rsp s.core.rbp s.core.shadow live (subst (λ (x : State). MeansTop x s.core.rsp s.core.rbp s.core.shadow) is_a r.means) in
      let listed_slots : AreKept s.core.rsp s.core.region (listed None s.core.shadow) = subst (λ (x : Option EndKind). AreKept s.core.rsp s.core.region (listed x s.core.shadow)) s_ended r.slots in
      let told : IsTold a s.core h.frame h.below = record {
        frames = h.is;
        means = h.means;
        top = All-head (λ (g : Frame). g.cfa ≤ hi_of s.core.region) h.frame h.below (subst (λ (x : List Frame). All (λ (g : Frame). g.cfa ≤ hi_of s.core.region) x) h.is f.below_hi);
        kept = subst (λ (x : List Frame). AreKept s.core.rsp s.core.region (listed None x)) h.is listed_slots;
        above = top_above p bases s.point h.frame h.below (subst (λ (x : List Frame). AreFrames p bases s.point x) h.is f.frames);
      } in
      let as_it_is : Effect (p.insn s.point).op s.core t.core = subst (λ (op : Op). Effect op s.core t.core) (acts_as_it_is p s s_ended before) effect in
      let n = sound a b (p.insn s.point).op s.core t.core h.frame h.below consistent live (is.numbers s.point r.point) moved stack told as_it_is after in
      record {
        ended = t_ended ∙ sym ((keeps a b (p.insn s.point).op consistent moved).1 ∙ live);
        means = subst (λ (x : List Frame). MeansTop b t.core.rsp t.core.rbp x) (sym n.2.frames) (means_top b t.core.rsp t.core.rbp n.0 h.below n.2.means);
        slots = subst (λ (x : Option EndKind). AreKept t.core.rsp t.core.region (listed x t.core.shadow)) (sym t_ended) (subst (λ (x : List Frame). AreKept t.core.rsp t.core.region (listed None x)) (sym n.2.frames) n.2.kept);
      }

  told_after : (a b : State) → r.state ≡ a → move a (p.insn s.point).op ≡ Ok b → IsToldAfter t.point b t
  told_after (Live d m h) b is_a moved = told_live (Live d m h) b is_a refl moved
  told_after (Ended k) b is_a moved = told_ended t k b (level ∙ (r.ended ∙ ap ended_by is_a)) (let e : Ended k ≡ b = cc in e)
  told_after (Regs full d) b is_a moved = told_live (Regs full d) b is_a refl moved

module _ (p : Program) (bases : Bases) (is : IsProgram p) (acc : IsAccepted p) (sound : MoveIsSound) (keeps : MoveIsConsistent) (s t : Standing) (r : HasRunInvariant p s) (f : HasFrameInvariant p bases s) (stack : IsInStack s.core) (g : GoesOn p s t) (after : IsInStack t.core) where
  -- what the kept state says, whether the code is loose or not
  told_there : (b : State) → is_before_hint p s.point ≡ false → moved_at p s.point r.state ≡ Ok b → Kept p t.point b → IsToldAfter t.point b t
  told_there b before moved kept = go g.ended
    where
      same : t.ended ≡ s.ended → move r.state (p.insn s.point).op ≡ Ok b → IsToldAfter t.point b t
      same ended m = told_after p bases is sound keeps s t r f stack g.effect before ended after r.state b refl m

      go : EndedBehind p s t → IsToldAfter t.point b t
      go (is_firm firm e) = same e (subst (λ (x : Bool). loosened x (move r.state (p.insn s.point).op) ≡ Ok b) firm moved)
      go (is_lost kind loose lost e) = told_ended t kind b e (kept_is_one p t.point (Ended kind) b lost kept)
      go (is_kept loose none e) = elim (moved_at_kept (p.loose s.point) (move r.state (p.insn s.point).op) b moved) [
        | inl m ↦ same e m
        | inr lost ↦ absurd (none Undefined (subst (λ (x : State). Kept p t.point x) lost kept))
      ]

  pub goes_on_comes : IsComing p bases t
  goes_on_comes =
      let role = plain_role p is s.point r.point (is_call (p.role s.point)) refl (acts_no_call p s (effect_no_call s.core t.core (op_at p s) g.effect)) in
      let can = may_go p s.point g.kind g.local role in
      let point : IsPoint p t.point = is.edges s.point (edge t.point g.kind) r.point g.along in
      record {
        point = point;
        checked = local_checked p is acc s.point t.point r.state g.kind g.local r.point r.kept g.along can;
        frames = frame_invariant p bases s t (effect_shape s.core t.core (op_at p s) g.effect) (effect_hi s.core t.core (op_at p s) g.effect) g.mark
            (stays_out p bases is s.point t.point r.point point (λ h. may.goes_on s.point (edge t.point g.kind) role g.along h)) f;
        told = λ free.
            let before = no_hint_behind p s.point t.point g.kind g.local g.along can free in
            let m = moves p is acc s.point r.state r.kept before in
            let kept : Kept p t.point m.0 = local_kept p is acc s.point t.point r.state m.0 g.kind g.local r.point r.kept g.along can m.1 free in
            let told : IsToldAfter t.point m.0 t = told_there m.0 before m.1 kept in
            record {
              point = point;
              state = m.0;
              kept = kept;
              ended = told.ended;
              means = told.means;
              slots = told.slots;
            };
      }
