-- What an operation and a hint do to user access.
use Rattle.std.proofs.Common.{◌≡◌, ◌≢◌, ℕ, ◌||◌, if◌then◌else◌, is_some, Bool, true, false, List, [], ◌∷◌, Option, Some, None, MatchBool, refl, sym, ap, ◌∙◌, subst}
use Rattle.operation_defs.specs.declared.op.Op.{Op}
use Rattle.operation_defs.specs.declared.op.Op.TheVariants.{Plain, Nop, Endbr, Push, PushBp, Pop, PopBp, Popf, AddSp, AndSp, LeaSpBp, LeaBpSp, LeaBpRoom, SubSp, SpReg, StoreBp, LoadBp, Leave, SpOther, BpOther, Call, Hop, CallInd, Jmp, Jcc, JmpInd, Ret, RetImm, Iret, IretNext, Switch, Ud2, Int3, Stac, Clac}
use Rattle.machine_defs.specs.declared.flow.EdgeKind.{EdgeKind}
use Rattle.machine_defs.specs.declared.flow.EdgeKind.TheVariants.{Next, Taken, Fixup, Table, Sibling}
use Rattle.state_defs.specs.declared.state.State.{State}
use Rattle.state_defs.specs.declared.state.State.TheVariants.{Live, Ended, Regs}
use Rattle.state_defs.specs.declared.state.HintState.{HintState}
use Rattle.state_defs.specs.declared.state.HintState.TheVariants.{Set, Save, Restore}
use Rattle.state_defs.specs.Address.{shifted}
use Rattle.state_defs.specs.Frame.{is_of_call, Frame, with_top_slot, after_save}
use Rattle.state_defs.specs.Effect.{Core, StoresOrdinarily, store_saves, Effect}
use Rattle.machine_defs.specs.Program.{Program, is_call_op, is_local}
use Rattle.machine_defs.specs.Machine.{Standing}
use Rattle.machine_defs.specs.Ways.{is_before_hint}
use Rattle.machine_defs.specs.Step.{as_any_write, op_at, GoesOn}
use Rattle.machine_defs.specs.Hint.{IsInInterrupt, hinted_slot, SetsState, Hinted, Lands}
use Rattle.machine_defs.specs.Access.{access_after, access_along}
use Rattle.unwinding_law.proofs.Shadow.{IsSlotChange, no_frame, top}
use Rattle.unwinding_law.proofs.Passes.{same_frames}

access_of : Core → Bool
access_of c = c.ac

-- STAC and CLAC alone change user access, and a POPF where it is on
module _ (c d : Core) where
  pub effect_access : (op : Op) → (op ≡ Popf → c.ac ≡ false) → Effect op c d → d.ac ≡ access_after op c.ac
  effect_access Plain n e = ap (λ (x : Core). x.ac) e.1
  effect_access Nop n e = ap (λ (x : Core). x.ac) e
  effect_access Endbr n e = ap (λ (x : Core). x.ac) e
  effect_access Push n e = ap (λ (x : Core). x.ac) e.1
  effect_access PushBp n e = ap (λ (x : Core). x.ac) e.1
  effect_access Pop n e = ap (λ (x : Core). x.ac) e.1
  effect_access PopBp n e = ap (λ (x : Core). x.ac) e.1
  effect_access Popf n e = e.0 (n refl) ∙ sym (n refl)
  effect_access (AddSp by) n e = ap (λ (x : Core). x.ac) e
  effect_access (AndSp mask) n e = ap (λ (x : Core). x.ac) e
  effect_access (LeaSpBp by) n e = ap (λ (x : Core). x.ac) e
  effect_access (LeaBpSp by) n e = ap (λ (x : Core). x.ac) e
  effect_access (LeaBpRoom by) n e = ap (λ (x : Core). x.ac) e
  effect_access SubSp n e = ap (λ (x : Core). x.ac) e.1
  effect_access SpReg n e = ap (λ (x : Core). x.ac) e.1
  effect_access (StoreBp at) n e = go (store_saves c.rsp c.rbp at c.shadow) e.1
    where
      go : (b : Bool) → MatchBool b (d ≡ record c { region = d.region; shadow = after_save c.rbp (shifted c.rsp at) c.shadow }) (StoresOrdinarily c d × (d ≡ record c { region = d.region })) → d.ac ≡ c.ac
      go true h = ap (λ (x : Core). x.ac) h
      go false h = ap (λ (x : Core). x.ac) h.1
  effect_access (LoadBp at) n e = ap (λ (x : Core). x.ac) e.1
  effect_access Leave n e = ap (λ (x : Core). x.ac) e.1
  effect_access SpOther n e = ap (λ (x : Core). x.ac) e.1
  effect_access BpOther n e = ap (λ (x : Core). x.ac) e.1
  effect_access (Call rel) n e = absurd e
  effect_access Hop n e = ap (λ (x : Core). x.ac) e.1
  effect_access CallInd n e = absurd e
  effect_access (Jmp rel wide) n e = ap (λ (x : Core). x.ac) e
  effect_access (Jcc rel wide) n e = ap (λ (x : Core). x.ac) e
  effect_access (JmpInd table) n e = ap (λ (x : Core). x.ac) e
  effect_access Ret n e = absurd e
  effect_access RetImm n e = absurd e
  effect_access Iret n e = absurd e
  effect_access IretNext n e = ap (λ (x : Core). x.ac) e
  effect_access Switch n e = absurd e
  effect_access Ud2 n e = ap (λ (x : Core). x.ac) e
  effect_access Int3 n e = ap (λ (x : Core). x.ac) e
  effect_access Stac n e = ap (λ (x : Core). x.ac) e
  effect_access Clac n e = ap (λ (x : Core). x.ac) e

-- what makes room leaves access as it is, however it acts
acts_after : (b : Bool) (op : Op) (now : Bool) → access_after (if b then as_any_write op else op) now ≡ access_after op now
acts_after false op now = refl
acts_after true SubSp now = refl
acts_after true SpReg now = refl
acts_after true _ now = refl

acts_popf : (b : Bool) (op : Op) → (if b then as_any_write op else op) ≡ Popf → op ≡ Popf
acts_popf false op e = e
acts_popf true SubSp e = absurd (let k : ⊥ = cc in k)
acts_popf true SpReg e = absurd (let k : ⊥ = cc in k)
acts_popf true _ e = e

-- where an instruction goes on, access is that behind it
pub goes_on_access : (p : Program) (s t : Standing) → ((p.insn s.point).op ≡ Popf → s.core.ac ≡ false) → GoesOn p s t → t.core.ac ≡ access_after (p.insn s.point).op s.core.ac
goes_on_access p s t n g =
    effect_access s.core t.core (op_at p s) (λ e. n (acts_popf (is_some s.ended || is_before_hint p s.point) (p.insn s.point).op e)) g.effect
    ∙ acts_after (is_some s.ended || is_before_hint p s.point) (p.insn s.point).op s.core.ac

-- along a local edge access is that behind the instruction
pub local_along : (kind : EdgeKind) (op : Op) → is_local kind ≡ true → (now : Bool) → access_along kind op now ≡ access_after op now
local_along Next op l now = refl
local_along Taken op l now = refl
local_along Table op l now = refl
local_along Fixup op l now = absurd (let k : ⊥ = cc in k)
local_along Sibling op l now = absurd (let k : ⊥ = cc in k)

pub local_stays : (kind : EdgeKind) → is_local kind ≡ true → kind ≢ Sibling
local_stays Next l e = let k : ⊥ = cc in k
local_stays Taken l e = let k : ⊥ = cc in k
local_stays Table l e = let k : ⊥ = cc in k
local_stays Fixup l e = let k : ⊥ = cc in k
local_stays Sibling l e = let k : ⊥ = cc in k

-- a call leaves access as it is
pub call_access : (op : Op) → is_call_op op ≡ true → (now : Bool) → access_after op now ≡ now
call_access (Call rel) c now = refl
call_access CallInd c now = refl
call_access _ c now = absurd (let k : ⊥ = cc in k)

-- A hint leaves the point and access, and of the frames changes the top one's slot alone, not its kind.
pub record IsLanded (t u : Standing) : Type 0 where
  pub point : u.point ≡ t.point
  pub access : u.core.ac ≡ t.core.ac
  pub frames : IsSlotChange t.core.shadow u.core.shadow

module _ (t u : Standing) where
  -- where nothing but the end and the mark changes
  same_core : u.point ≡ t.point → u.core ≡ t.core → IsLanded t u
  same_core point core = record { point = point; access = ap (λ (x : Core). x.ac) core; frames = same_frames t.core.shadow u.core.shadow (ap (λ (x : Core). x.shadow) core) }

  set_landed : (s : State) → SetsState s t u → IsLanded t u
  set_landed (Live depth fp bp) e = same_core (ap (λ (x : Standing). x.point) e.0) (ap (λ (x : Standing). x.core) e.0)
  set_landed (Ended kind) e = same_core (ap (λ (x : Standing). x.point) e) (ap (λ (x : Standing). x.core) e)
  set_landed (Regs full depth) e = record {
    point = ap (λ (x : Standing). x.point) e.0;
    access = ap (λ (x : Standing). x.core.ac) e.0;
    frames = subst (λ (x : List Frame). IsSlotChange t.core.shadow x) (sym (ap (λ (x : Standing). x.core.shadow) e.0)) (hinted_change full (shifted t.core.rsp depth) t.core.shadow e.1);
  }
    where
      hinted_kind : (full : Bool) (address : ℕ) → is_of_call (hinted_slot full address) ≡ false
      hinted_kind true address = refl
      hinted_kind false address = refl

      hinted_change : (full : Bool) (address : ℕ) (fs : List Frame) → IsInInterrupt fs → IsSlotChange fs (with_top_slot (λ _. hinted_slot full address) fs)
      hinted_change full address [] h = no_frame
      hinted_change full address (f ∷ fs) h = top f fs (hinted_slot full address) (hinted_kind full address ∙ sym h)

  hint_landed : (h : Option HintState) (save : Option ℕ) → Hinted h save t u → IsLanded t u
  hint_landed None save e = same_core (ap (λ (x : Standing). x.point) e) (ap (λ (x : Standing). x.core) e)
  hint_landed (Some (Set s)) save e = set_landed s e
  hint_landed (Some Save) save e = same_core (ap (λ (x : Standing). x.point) e) (ap (λ (x : Standing). x.core) e)
  hint_landed (Some Restore) save e = same_core (ap (λ (x : Standing). x.point) e.after) (ap (λ (x : Standing). x.core) e.after)

pub landed : (p : Program) (t u : Standing) → Lands p t u → IsLanded t u
landed p t u e = hint_landed t u (p.hint t.point) (p.save_of t.point) e
