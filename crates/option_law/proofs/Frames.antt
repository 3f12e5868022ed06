-- A kept call of a clean program is made with a frame pointer.
use Rattle.std.proofs.Common.{◌≡◌, ℕ, Bool, true, false, List, ◌∷◌, ◌++◌, Option, Some, None, if◌then◌else◌, flat_map, All, ℤ, pos, refl, sym, ap, ◌∙◌, subst, arith}
use Rattle.std.proofs.lemmas.Bool.{and_parts}
use Rattle.std.proofs.lemmas.List.Elements.{All-head, All-tail}
use Rattle.ot_base.specs.declared.options.Options.{Options}
use Rattle.ot_base.specs.declared.rules.TheConstants.{CALL_WITHOUT_FRAME}
use Rattle.state_defs.specs.declared.state.Depth.{Depth}
use Rattle.state_defs.specs.declared.state.BpHome.{BpHome}
use Rattle.state_defs.specs.declared.state.BpHome.TheVariants.{Same, Saved}
use Rattle.state_defs.specs.declared.state.EndKind.{EndKind}
use Rattle.state_defs.specs.declared.state.State.{State}
use Rattle.state_defs.specs.declared.state.State.TheVariants.{Live, Ended, Regs}
use Rattle.state_defs.specs.Address.{up, down}
use Rattle.state_defs.specs.Region.{Holds}
use Rattle.state_defs.specs.Frame.{Slot, is_of_call, Frame, Protected, protected_by, protected, listed, AreKept}
use Rattle.state_defs.specs.Effect.{Core}
use Rattle.state_defs.specs.State.{ended_by, Means, MeansTop}
use Rattle.state_defs.specs.Move.{int_same}
use Rattle.state_defs.specs.Rules.{has_frame}
use Rattle.machine_defs.specs.Program.{Program, is_call_op}
use Rattle.machine_defs.specs.Machine.{Bases, Standing, Machine, Wrecked, At}
use Rattle.machine_defs.specs.Law.{HasRunInvariant, IsInOrder, UnwindingLaw}
use Rattle.machine_defs.specs.Kept.{Kept}
use Rattle.machine_defs.specs.Broken.{without_frame}
use Rattle.stack_state.proofs.Consistent.{int_same_is}
use Rattle.machine_defs.specs.Allowances.{Allowances}
use Rattle.machine_defs.specs.Asked.{IsClean, of_stack}
use Rattle.option_law.specs.Frames.{HasFramePointer, CallsWithFrame, FrameLaw}
use Rattle.option_law.proofs.Clean.{accepted}

-- where rule 21 isn't broken, rbp is saved right below the return address, and points there
unruled : (b : Bool) (n : ℕ) → ((if b then None else Some n) ≡ Some n → ⊥) → b ≡ true
unruled true n h = refl
unruled false n h = absurd (h refl)

framed : (fp : Option ℤ) (bp : BpHome) → has_frame fp bp ≡ true → (fp ≡ Some (pos 16)) × (bp ≡ Saved (pos 16))
framed None bp e = absurd (let k : ⊥ = cc in k)
framed (Some m) Same e = absurd (let k : ⊥ = cc in k)
framed (Some m) (Saved o) e = let k = and_parts (int_same m (pos 16)) _ e in (ap Some (int_same_is m (pos 16) k.0), ap Saved (int_same_is o (pos 16) k.1))

below_and_above : (x : ℕ) → down x 8 ≡ up (down x 16) 8
below_and_above x = omega arith

-- a live state with that frame means such a frame
at_frame : (core : Core) (depth : Depth) (f : Frame) (fs : List Frame) → Means (Live depth (Some (pos 16)) (Saved (pos 16))) core.rsp core.rbp f → AreKept core.rsp core.region (f ∷ fs) → HasFramePointer core f
at_frame core depth f fs m k =
    let rbp : core.rbp ≡ down f.cfa 16 = m.fp in
    let both : All (λ (x : Protected). Holds core.region x.at x.value) (record { at = down f.cfa 8; value = f.ra } ∷ record { at = down f.cfa 16; value = f.bp } ∷ flat_map protected fs) =
    subst (λ (x : Slot). All (λ (y : Protected). Holds core.region y.at y.value) (protected_by x f.ra f.cfa f.bp ++ flat_map protected fs)) m.bp k.hold
    in
    let ra : Holds core.region (down f.cfa 8) f.ra = All-head (λ (x : Protected). Holds core.region x.at x.value) (record { at = down f.cfa 8; value = f.ra }) (record { at = down f.cfa 16; value = f.bp } ∷ flat_map protected fs) both in
    let bp : Holds core.region (down f.cfa 16) f.bp = All-head (λ (x : Protected). Holds core.region x.at x.value) (record { at = down f.cfa 16; value = f.bp }) (flat_map protected fs) (All-tail (λ (x : Protected). Holds core.region x.at x.value) (record { at = down f.cfa 8; value = f.ra }) (record { at = down f.cfa 16; value = f.bp } ∷ flat_map protected fs) both) in
    record {
      rbp = rbp;
      saved = subst (λ (x : ℕ). Holds core.region x f.bp) (sym rbp) bp;
      returns = subst (λ (x : ℕ). Holds core.region (up x 8) f.ra) (sym rbp) (subst (λ (x : ℕ). Holds core.region x f.ra) (below_and_above f.cfa) ra);
    }

-- saved registers are no call's
regs_of_interrupt : (full : Bool) (depth : ℤ) (rsp rbp : ℕ) (f : Frame) → Means (Regs full depth) rsp rbp f → is_of_call f.slot ≡ false
regs_of_interrupt true depth rsp rbp f m = ap is_of_call m.slot
regs_of_interrupt false depth rsp rbp f m = ap is_of_call m.slot

module _ (p : Program) (allowed : Allowances) (options : Options) (asked : options.fp ≡ true) (clean : IsClean p allowed options) (s : Standing) (f : Frame) (fs : List Frame) where
  module _ (call : is_call_op (p.insn s.point).op ≡ true) (other : p.calls_fentry s.point ≡ false) (of_call : is_of_call f.slot ≡ true) where
    has_pointer : (a : State) → Kept p s.point a → ended_by a ≡ None → MeansTop a s.core.rsp s.core.rbp (f ∷ fs) → AreKept s.core.rsp s.core.region (listed None (f ∷ fs)) → HasFramePointer s.core f
    has_pointer (Live depth fp bp) kept e m k =
        let ruled = unruled (has_frame fp bp) CALL_WITHOUT_FRAME (λ h. clean _ _ _ _ (of_stack _ _ _ _ (without_frame s.point (Live depth fp bp) asked kept call other h))) in
        let both = framed fp bp ruled in
        let means : Means (Live depth (Some (pos 16)) (Saved (pos 16))) s.core.rsp s.core.rbp f = subst (λ (x : Option ℤ). Means (Live depth x (Saved (pos 16))) s.core.rsp s.core.rbp f) both.0 (subst (λ (x : BpHome). Means (Live depth fp x) s.core.rsp s.core.rbp f) both.1 m) in
        at_frame s.core depth f (listed f.ended_caller fs) means k
    has_pointer (Ended kind) kept e m k = absurd (let z : ⊥ = cc in z)
    has_pointer (Regs full depth) kept e m k = let other_kind = regs_of_interrupt full depth s.core.rsp s.core.rbp f m in absurd (let z : ⊥ = cc in z)

  at_call : HasRunInvariant p s → is_call_op (p.insn s.point).op ≡ true → p.calls_fentry s.point ≡ false → s.ended ≡ None → s.core.shadow ≡ f ∷ fs → is_of_call f.slot ≡ true → HasFramePointer s.core f
  at_call r call other live shadow of_call =
      let means : MeansTop r.state s.core.rsp s.core.rbp (f ∷ fs) = subst (λ (x : List Frame). MeansTop r.state s.core.rsp s.core.rbp x) shadow r.means in
      let live_slots : AreKept s.core.rsp s.core.region (listed None s.core.shadow) = subst (λ (x : Option EndKind). AreKept s.core.rsp s.core.region (listed x s.core.shadow)) live r.slots in
      let slots : AreKept s.core.rsp s.core.region (listed None (f ∷ fs)) = subst (λ (x : List Frame). AreKept s.core.rsp s.core.region (listed None x)) shadow live_slots in
      has_pointer call other of_call r.state r.kept (sym r.ended ∙ live) means slots

in_order : (p : Program) (allowed : Allowances) (options : Options) (bases : Bases) → options.fp ≡ true → IsClean p allowed options → (m : Machine) → IsInOrder p bases m → CallsWithFrame p m
in_order p allowed options bases asked clean Wrecked o = o
in_order p allowed options bases asked clean (At s) o = λ f fs call other live shadow of_call. at_call p allowed options asked clean s f fs o.0 call other live shadow of_call

pub law_from : UnwindingLaw → FrameLaw
law_from law p allowed options bases is placed asked clean m r = in_order p allowed options bases asked clean m (law p bases is placed (accepted p allowed options clean) m r)
