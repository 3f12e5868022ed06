-- A fault, a call of code outside, and a jump to another function: the frames stay.
use Rattle.std.proofs.Common.{◌≡◌, false, List, Option, sym, ap, ◌∙◌, subst}
use Rattle.machine_defs.specs.declared.flow.EdgeKind.TheVariants.{Fixup}
use Rattle.state_defs.specs.declared.state.EndKind.{EndKind}
use Rattle.state_defs.specs.Frame.{Frame, listed, AreKept}
use Rattle.state_defs.specs.Effect.{Core, StoresOrdinarily}
use Rattle.state_defs.specs.State.{MeansTop}
use Rattle.machine_defs.specs.Program.{Program, IsPoint, edge}
use Rattle.machine_defs.specs.Machine.{Bases, Standing}
use Rattle.machine_defs.specs.Step.{SameLevel, Faults, CallsOut}
use Rattle.machine_defs.specs.MayReturn as may
use Rattle.machine_defs.specs.Kept.{Kept}
use Rattle.machine_defs.specs.Broken.{IsAccepted}
use Rattle.machine_defs.specs.IsProgram.{IsProgram}
use Rattle.machine_defs.specs.Law.{HasRunInvariant, HasFrameInvariant}
use Rattle.unwinding_law.proofs.Memory.{same_hi, spared_kept}
use Rattle.unwinding_law.proofs.Shadow.{IsSlotChange, unchanged}
use Rattle.unwinding_law.proofs.Frames.{frame_invariant, stays_out}
use Rattle.unwinding_law.proofs.Landing.{IsComing}
use Rattle.unwinding_law.proofs.ComesBack.{out_calls, call_comes_back}
use Rattle.unwinding_law.proofs.Edges.{next_checked, fixup_checked, fixup_kept, call_next_in, past_call}

pub same_frames : (fs gs : List Frame) → gs ≡ fs → IsSlotChange fs gs
same_frames fs gs e = subst (λ (x : List Frame). IsSlotChange fs x) (sym e) (unchanged fs)

module _ (p : Program) (bases : Bases) (s t : Standing) (r : HasRunInvariant p s) (f : HasFrameInvariant p bases s) where
  -- where only the memory changes, outside protected slots, a kept state tells the same
  told_same : StoresOrdinarily s.core t.core → t.core ≡ record s.core { region = t.core.region } → SameLevel s t → IsPoint p t.point → Kept p t.point r.state → HasRunInvariant p t
  told_same stores core level point kept =
      let slots : AreKept s.core.rsp t.core.region (listed s.ended s.core.shadow) = spared_kept s.core.shadow s.ended s.core.rsp s.core.region t.core.region stores r.slots in
      let after : AreKept t.core.rsp t.core.region (listed s.ended t.core.shadow) = subst (λ (x : Core). AreKept x.rsp t.core.region (listed s.ended x.shadow)) (sym core) slots in
      record {
        point = point;
        state = r.state;
        kept = kept;
        ended = level.ended ∙ r.ended;
        means = subst (λ (x : Core). MeansTop r.state x.rsp x.rbp x.shadow) (sym core) r.means;
        slots = subst (λ (x : Option EndKind). AreKept t.core.rsp t.core.region (listed x t.core.shadow)) (sym level.ended) after;
      }

  frames_same : StoresOrdinarily s.core t.core → t.core ≡ record s.core { region = t.core.region } → SameLevel s t → (p.may_return s.point ≡ false → p.may_return t.point ≡ false) → HasFrameInvariant p bases t
  frames_same stores core level out = frame_invariant p bases s t (same_frames s.core.shadow t.core.shadow (ap (λ (x : Core). x.shadow) core)) (same_hi s.core.region t.core.region stores.addresses) level.mark out f

  pub faults_come : IsProgram p → IsAccepted p → Faults p s t → IsComing p bases t
  faults_come is acc g =
      let point : IsPoint p t.point = is.edges s.point (edge t.point Fixup) r.point g.along in
      record {
        point = point;
        checked = fixup_checked p is acc s.point t.point r.state r.point r.kept g.along;
        frames = frames_same g.stores g.core g.level (stays_out p bases is s.point t.point r.point point (λ h. may.branches s.point (edge t.point Fixup) (λ e. let m : ⊥ = cc in m) g.along h));
        told = λ free. told_same g.stores g.core g.level point (fixup_kept p is acc s.point t.point r.state r.point r.kept g.along free);
      }

  pub calls_out_come : IsProgram p → IsAccepted p → CallsOut p s t → IsComing p bases t
  calls_out_come is acc g =
      let call = out_calls p s.point g.target in
      let next = call_next_in p is acc s.point t.point r.state r.point r.kept call.0 g.passed g.comes_back in
      let point : IsPoint p t.point = is.followers s.point t.point r.point g.comes_back in
      record {
        point = point;
        checked = next_checked p is acc s.point t.point r.state r.point r.kept next call.1;
        frames = frames_same g.stores g.core g.level (stays_out p bases is s.point t.point r.point point (call_comes_back p is s.point t.point r.point g.passed next call.0 call.1));
        told = λ free. told_same g.stores g.core g.level point (past_call p is acc s.point t.point r.state r.point r.kept call.0 call.1 next free);
      }
