-- What an operation may do to the frames: change the top one's slot, and not its kind.
use Rattle.std.proofs.Common.{◌≡◌, ℕ, Bool, true, false, if◌then◌else◌, ◌==◌, List, [], ◌∷◌, MatchBool, refl, sym, ap, subst}
use Rattle.operation_defs.specs.declared.op.Op.{Op}
use Rattle.operation_defs.specs.declared.op.Op.TheVariants.{Plain, Nop, Endbr, Push, PushBp, Pop, PopBp, Popf, AddSp, AndSp, LeaSpBp, LeaBpSp, LeaBpRoom, SubSp, SpReg, StoreBp, LoadBp, Leave, SpOther, BpOther, Call, Hop, CallInd, Jmp, Jcc, JmpInd, Ret, RetImm, Iret, IretNext, Switch, Ud2, Int3, Stac, Clac}
use Rattle.state_defs.specs.Address.{up, shifted}
use Rattle.state_defs.specs.Region.{hi_of}
use Rattle.state_defs.specs.Frame.{Slot, Unsaved, SavedAt, PartialAt, FullAt, is_of_call, Frame, saved_slot, loaded_slot, popped_slot, with_top_slot, after_save}
use Rattle.state_defs.specs.Effect.{Core, StoresOrdinarily, store_saves, Effect}
use Rattle.machine_defs.specs.Program.{is_call_op}
use Rattle.unwinding_law.proofs.Memory.{same_hi}

pub data IsSlotChange : List Frame → List Frame → Type 0 where
  no_frame : IsSlotChange [] []
  top : (f : Frame) (fs : List Frame) (slot : Slot) → is_of_call slot ≡ is_of_call f.slot → IsSlotChange (f ∷ fs) (record f { slot = slot } ∷ fs)

pub unchanged : (fs : List Frame) → IsSlotChange fs fs
unchanged [] = no_frame
unchanged (f ∷ fs) = top f fs f.slot refl

pub with_slot : (change : Slot → Slot) → ((s : Slot) → is_of_call (change s) ≡ is_of_call s) → (fs : List Frame) → IsSlotChange fs (with_top_slot change fs)
with_slot change h [] = no_frame
with_slot change h (f ∷ fs) = top f fs (change f.slot) (h f.slot)

loaded_kind : (address : ℕ) (s : Slot) → is_of_call (loaded_slot address s) ≡ is_of_call s
loaded_kind address Unsaved = refl
loaded_kind address (SavedAt a) = go (address == a)
  where
    go : (b : Bool) → is_of_call (if b then Unsaved else SavedAt a) ≡ true
    go true = refl
    go false = refl
loaded_kind address (PartialAt a) = refl
loaded_kind address (FullAt a) = refl

popped_kind : (address : ℕ) (s : Slot) → is_of_call (popped_slot address s) ≡ is_of_call s
popped_kind address Unsaved = refl
popped_kind address (SavedAt a) = go (address == a)
  where
    go : (b : Bool) → is_of_call (if b then Unsaved else SavedAt a) ≡ true
    go true = refl
    go false = refl
popped_kind address (PartialAt a) = refl
popped_kind address (FullAt a) = go (address == up a 32)
  where
    go : (b : Bool) → is_of_call (if b then PartialAt (up a 128) else FullAt a) ≡ false
    go true = refl
    go false = refl

saved_kind : (b : Bool) (address : ℕ) (s : Slot) → is_of_call (saved_slot b address s) ≡ is_of_call s
saved_kind true address Unsaved = refl
saved_kind true address (SavedAt a) = refl
saved_kind true address (PartialAt a) = refl
saved_kind true address (FullAt a) = refl
saved_kind false address s = refl

saved : (rbp address : ℕ) (fs : List Frame) → IsSlotChange fs (after_save rbp address fs)
saved rbp address [] = no_frame
saved rbp address (f ∷ fs) = top f fs (saved_slot (rbp == f.bp) address f.slot) (saved_kind (rbp == f.bp) address f.slot)

along : (fs gs hs : List Frame) → gs ≡ hs → IsSlotChange fs hs → IsSlotChange fs gs
along fs gs hs e c = subst (λ (x : List Frame). IsSlotChange fs x) (sym e) c

shadow_of : Core → List Frame
shadow_of c = c.shadow

same_shadow : (c d : Core) → d.shadow ≡ c.shadow → IsSlotChange c.shadow d.shadow
same_shadow c d e = along c.shadow d.shadow c.shadow e (unchanged c.shadow)

module _ (c d : Core) where
  pub effect_shape : (op : Op) → Effect op c d → IsSlotChange c.shadow d.shadow
  effect_shape Plain e = same_shadow c d (ap (λ (x : Core). x.shadow) e.1)
  effect_shape Nop e = same_shadow c d (ap (λ (x : Core). x.shadow) e)
  effect_shape Endbr e = same_shadow c d (ap (λ (x : Core). x.shadow) e)
  effect_shape Push e = same_shadow c d (ap (λ (x : Core). x.shadow) e.1)
  effect_shape PushBp e = along c.shadow d.shadow _ (ap (λ (x : Core). x.shadow) e.1) (saved c.rbp _ c.shadow)
  effect_shape Pop e = same_shadow c d (ap (λ (x : Core). x.shadow) e.1)
  effect_shape PopBp e = along c.shadow d.shadow _ (ap (λ (x : Core). x.shadow) e.1) (with_slot (popped_slot c.rsp) (popped_kind c.rsp) c.shadow)
  effect_shape Popf e = same_shadow c d (ap (λ (x : Core). x.shadow) e.1)
  effect_shape (AddSp by) e = same_shadow c d (ap (λ (x : Core). x.shadow) e)
  effect_shape (AndSp mask) e = same_shadow c d (ap (λ (x : Core). x.shadow) e)
  effect_shape (LeaSpBp by) e = same_shadow c d (ap (λ (x : Core). x.shadow) e)
  effect_shape (LeaBpSp by) e = same_shadow c d (ap (λ (x : Core). x.shadow) e)
  effect_shape (LeaBpRoom by) e = same_shadow c d (ap (λ (x : Core). x.shadow) e)
  effect_shape SubSp e = same_shadow c d (ap (λ (x : Core). x.shadow) e.1)
  effect_shape SpReg e = same_shadow c d (ap (λ (x : Core). x.shadow) e.1)
  effect_shape (StoreBp at) e = go (store_saves c.rsp c.rbp at c.shadow) e.1
    where
      go : (b : Bool) → MatchBool b (d ≡ record c { region = d.region; shadow = after_save c.rbp (shifted c.rsp at) c.shadow }) (StoresOrdinarily c d × (d ≡ record c { region = d.region })) → IsSlotChange c.shadow d.shadow
      go true h = along c.shadow d.shadow _ (ap (λ (x : Core). x.shadow) h) (saved c.rbp _ c.shadow)
      go false h = same_shadow c d (ap (λ (x : Core). x.shadow) h.1)
  effect_shape (LoadBp at) e = along c.shadow d.shadow _ (ap (λ (x : Core). x.shadow) e.1) (with_slot (loaded_slot (shifted c.rsp at)) (loaded_kind (shifted c.rsp at)) c.shadow)
  effect_shape Leave e = along c.shadow d.shadow _ (ap (λ (x : Core). x.shadow) e.1) (with_slot (loaded_slot c.rbp) (loaded_kind c.rbp) c.shadow)
  effect_shape SpOther e = same_shadow c d (ap (λ (x : Core). x.shadow) e.1)
  effect_shape BpOther e = same_shadow c d (ap (λ (x : Core). x.shadow) e.1)
  effect_shape (Call rel) e = absurd e
  effect_shape Hop e = same_shadow c d (ap (λ (x : Core). x.shadow) e.1)
  effect_shape CallInd e = absurd e
  effect_shape (Jmp rel wide) e = same_shadow c d (ap (λ (x : Core). x.shadow) e)
  effect_shape (Jcc rel wide) e = same_shadow c d (ap (λ (x : Core). x.shadow) e)
  effect_shape (JmpInd table) e = same_shadow c d (ap (λ (x : Core). x.shadow) e)
  effect_shape Ret e = absurd e
  effect_shape RetImm e = absurd e
  effect_shape Iret e = absurd e
  effect_shape IretNext e = same_shadow c d (ap (λ (x : Core). x.shadow) e)
  effect_shape Switch e = absurd e
  effect_shape Ud2 e = same_shadow c d (ap (λ (x : Core). x.shadow) e)
  effect_shape Int3 e = same_shadow c d (ap (λ (x : Core). x.shadow) e)
  effect_shape Stac e = same_shadow c d (ap (λ (x : Core). x.shadow) e)
  effect_shape Clac e = same_shadow c d (ap (λ (x : Core). x.shadow) e)

  pub effect_hi : (op : Op) → Effect op c d → hi_of d.region ≡ hi_of c.region
  effect_hi Plain e = same_hi c.region d.region e.0.addresses
  effect_hi Nop e = ap (λ (x : Core). hi_of x.region) e
  effect_hi Endbr e = ap (λ (x : Core). hi_of x.region) e
  effect_hi Push e = same_hi c.region d.region e.0.addresses
  effect_hi PushBp e = same_hi c.region d.region e.0.only.addresses
  effect_hi Pop e = same_hi c.region d.region e.0.addresses
  effect_hi PopBp e = ap (λ (x : Core). hi_of x.region) e.1
  effect_hi Popf e = ap (λ (x : Core). hi_of x.region) e.1
  effect_hi (AddSp by) e = ap (λ (x : Core). hi_of x.region) e
  effect_hi (AndSp mask) e = ap (λ (x : Core). hi_of x.region) e
  effect_hi (LeaSpBp by) e = ap (λ (x : Core). hi_of x.region) e
  effect_hi (LeaBpSp by) e = ap (λ (x : Core). hi_of x.region) e
  effect_hi (LeaBpRoom by) e = ap (λ (x : Core). hi_of x.region) e
  effect_hi SubSp e = ap (λ (x : Core). hi_of x.region) e.1
  effect_hi SpReg e = ap (λ (x : Core). hi_of x.region) e.1
  effect_hi (StoreBp at) e = same_hi c.region d.region e.0.only.addresses
  effect_hi (LoadBp at) e = ap (λ (x : Core). hi_of x.region) e.1
  effect_hi Leave e = ap (λ (x : Core). hi_of x.region) e.1
  effect_hi SpOther e = same_hi c.region d.region e.0.addresses
  effect_hi BpOther e = same_hi c.region d.region e.0.addresses
  effect_hi (Call rel) e = absurd e
  effect_hi Hop e = same_hi c.region d.region e.0.addresses
  effect_hi CallInd e = absurd e
  effect_hi (Jmp rel wide) e = ap (λ (x : Core). hi_of x.region) e
  effect_hi (Jcc rel wide) e = ap (λ (x : Core). hi_of x.region) e
  effect_hi (JmpInd table) e = ap (λ (x : Core). hi_of x.region) e
  effect_hi Ret e = absurd e
  effect_hi RetImm e = absurd e
  effect_hi Iret e = absurd e
  effect_hi IretNext e = ap (λ (x : Core). hi_of x.region) e
  effect_hi Switch e = absurd e
  effect_hi Ud2 e = ap (λ (x : Core). hi_of x.region) e
  effect_hi Int3 e = ap (λ (x : Core). hi_of x.region) e
  effect_hi Stac e = ap (λ (x : Core). hi_of x.region) e
  effect_hi Clac e = ap (λ (x : Core). hi_of x.region) e

  -- a call has no effect
  pub effect_no_call : (op : Op) → Effect op c d → is_call_op op ≡ false
  effect_no_call (Call rel) e = absurd e
  effect_no_call CallInd e = absurd e
  effect_no_call _ e = refl
