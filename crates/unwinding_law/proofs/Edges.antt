-- Where edges lead, in a program without a broken rule.
use Rattle.std.proofs.Common.{◌≡◌, ◌≢◌, ℕ, ◌&&◌, ◌||◌, not, Bool, true, false, if◌then◌else◌, [], Result, Ok, Err, Contains, refl, sym, subst}
use Rattle.operation_defs.specs.declared.op.Op.{Op}
use Rattle.operation_defs.specs.declared.op.Op.TheVariants.{Call, CallInd}
use Rattle.machine_defs.specs.declared.flow.Edge.{Edge}
use Rattle.machine_defs.specs.declared.flow.EdgeKind.{EdgeKind}
use Rattle.machine_defs.specs.declared.flow.EdgeKind.TheVariants.{Next, Taken, Fixup, Table, Sibling}
use Rattle.machine_defs.specs.declared.flow.Role.{Role}
use Rattle.machine_defs.specs.declared.flow.Role.TheVariants.{CallIn, CallEither, CallOut, CallAny}
use Rattle.state_defs.specs.declared.state.State.{State}
use Rattle.state_defs.specs.declared.state.State.TheVariants.{Live, Ended, Regs}
use Rattle.state_defs.specs.Move.{move, has_near_numbers}
use Rattle.machine_defs.specs.Program.{Program, IsPoint, is_call, is_call_op, edge, is_local}
use Rattle.machine_defs.specs.Ways.{is_before_hint}
use Rattle.machine_defs.specs.MayReturn.{is_listed_by, code_may_return, target_may_return}
use Rattle.machine_defs.specs.Kept.{can_go, edges_of, moved, loses_stack, loosened, moved_at, brought_along, Kept, is_free}
use Rattle.machine_defs.specs.Broken.{IsAccepted, falls_through, refused}
use Rattle.machine_defs.specs.IsProgram.{IsProgram}
use Rattle.unwinding_law.proofs.Lists.{here, in_filter}
use Rattle.unwinding_law.proofs.Same.{owner_stable}
use Rattle.unwinding_law.proofs.WaysOn.{no_hint_behind}
use Rattle.unwinding_law.proofs.KeptStates.{kept_checked, carried, brings_along}

-- what isn't a call passes
pub not_a_call : (p : Program) (q : ℕ) → is_call (p.role q) ≡ false → target_may_return p q ≡ true
not_a_call p q e = subst (λ (x : Role). (not (not (p.marked_call q) && is_listed_by p (p.names q) x) && (p.marked_call q || code_may_return p x)) ≡ true) refl (passes (p.role q) (p.marked_call q) e)
  where
    passes : (x : Role) (marked : Bool) → is_call x ≡ false → (not (not marked && is_listed_by p (p.names q) x) && (marked || code_may_return p x)) ≡ true
    passes (CallIn entry) marked e = absurd (let k : ⊥ = cc in k)
    passes (CallEither entry sym) marked e = absurd (let k : ⊥ = cc in k)
    passes (CallOut sym) marked e = absurd (let k : ⊥ = cc in k)
    passes CallAny marked e = absurd (let k : ⊥ = cc in k)
    passes _ true e = refl
    passes _ false e = refl

-- a call leaves a state as it is, where it isn't refused
unless_refused : (x : Bool) (s t : State) → if◌then◌else◌ {A = Result State ℕ} x (Ok s) (Err 10) ≡ Ok t → if◌then◌else◌ {A = Result State ℕ} x (Ok s) (Err 10) ≡ Ok s
unless_refused true s t h = refl
unless_refused false s t h = absurd (let k : ⊥ = cc in k)

too_far : (x : Bool) (s : State) (rule : ℕ) → if◌then◌else◌ {A = Result State ℕ} x (Ok s) (Err 10) ≡ Err rule → loses_stack rule ≡ false
too_far true s rule h = absurd (let k : ⊥ = cc in k)
too_far false s rule h = let k : 10 ≡ rule = cc in subst (λ (n : ℕ). loses_stack n ≡ false) k refl

call_moves : (s t : State) (op : Op) → is_call_op op ≡ true → move s op ≡ Ok t → move s op ≡ Ok s
call_moves (Live d m b) t (Call rel) e h = unless_refused (has_near_numbers (Live d m b)) (Live d m b) t h
call_moves (Live d m b) t CallInd e h = unless_refused (has_near_numbers (Live d m b)) (Live d m b) t h
call_moves (Ended k) t op e h = refl
call_moves (Regs full d) t (Call rel) e h = unless_refused (has_near_numbers (Regs full d)) (Regs full d) t h
call_moves (Regs full d) t CallInd e h = unless_refused (has_near_numbers (Regs full d)) (Regs full d) t h
call_moves s t _ e h = absurd (let k : ⊥ = cc in k)

-- loose code or not: a call loses no stack
no_loss : (s : State) (op : Op) (rule : ℕ) → is_call_op op ≡ true → move s op ≡ Err rule → loses_stack rule ≡ false
no_loss (Live d m b) (Call rel) rule e h = too_far (has_near_numbers (Live d m b)) (Live d m b) rule h
no_loss (Live d m b) CallInd rule e h = too_far (has_near_numbers (Live d m b)) (Live d m b) rule h
no_loss (Ended k) op rule e h = absurd (let z : ⊥ = cc in z)
no_loss (Regs full d) (Call rel) rule e h = too_far (has_near_numbers (Regs full d)) (Regs full d) rule h
no_loss (Regs full d) CallInd rule e h = too_far (has_near_numbers (Regs full d)) (Regs full d) rule h
no_loss s _ rule e h = absurd (let k : ⊥ = cc in k)

call_moves_at : (loose : Bool) (s t : State) (op : Op) → is_call_op op ≡ true → loosened loose (move s op) ≡ Ok t → loosened loose (move s op) ≡ Ok s
call_moves_at false s t op e h = call_moves s t op e h
call_moves_at true s t op e h = go (move s op) refl h
  where
    go : (r : Result State ℕ) → move s op ≡ r → loosened true r ≡ Ok t → loosened true (move s op) ≡ Ok s
    go (Ok u) is k = let same : move s op ≡ Ok s = call_moves s u op e is in rw same refl
    go (Err rule) is k = let kept : loses_stack rule ≡ false = no_loss s op rule e is in absurd (let z : Err rule ≡ Ok t = rw kept at k in let y : ⊥ = cc in y)

pub local_brought : (s t : State) (after : Result State ℕ) (kind : EdgeKind) → is_local kind ≡ true → after ≡ Ok t → Contains (brought_along s after kind) t
local_brought s t after Next l e = subst (λ (r : Result State ℕ). Contains (moved r) t) (sym e) (here t [])
local_brought s t after Taken l e = subst (λ (r : Result State ℕ). Contains (moved r) t) (sym e) (here t [])
local_brought s t after Table l e = subst (λ (r : Result State ℕ). Contains (moved r) t) (sym e) (here t [])
local_brought s t after Fixup l e = absurd (let k : ⊥ = cc in k)
local_brought s t after Sibling l e = absurd (let k : ⊥ = cc in k)

-- what is no call's instruction has no call's role
pub plain_role : (p : Program) → IsProgram p → (q : ℕ) → IsPoint p q → (b : Bool) → is_call (p.role q) ≡ b → is_call_op (p.insn q).op ≡ false → is_call (p.role q) ≡ false
plain_role p is q point true e h = let k : is_call_op (p.insn q).op ≡ true = is.calls q point e in absurd (let m : ⊥ = cc in m)
plain_role p is q point false e h = e

-- its local edges may be gone along
pub may_go : (p : Program) (q : ℕ) (kind : EdgeKind) → is_local kind ≡ true → is_call (p.role q) ≡ false → can_go p q kind ≡ true
may_go p q Next l e = not_a_call p q e
may_go p q Taken l e = refl
may_go p q Fixup l e = refl
may_go p q Table l e = refl
may_go p q Sibling l e = refl

module _ (p : Program) (is : IsProgram p) (acc : IsAccepted p) where
  pub edge_in : (a q : ℕ) (kind : EdgeKind) → Contains (p.goes a) (edge q kind) → can_go p a kind ≡ true → Contains (edges_of p a) (edge q kind)
  edge_in a q kind c h = in_filter (λ (e : Edge). can_go p a e.kind) (p.goes a) (edge q kind) c h

  pub next_checked : (a q : ℕ) (s : State) → IsPoint p a → Kept p a s → Contains (p.goes a) (edge q Next) → can_go p a Next ≡ true → p.unchecked q ≡ false
  next_checked a q s pa kept c h = is.checked a (edge q Next) pa (kept_checked p a s kept) c (λ e. owner_stable (p.owner q) (p.owner a) (λ ne. acc _ _ _ _ (falls_through a q s kept (edge_in a q Next c h) ne)))

  -- an edge that isn't a Next leads to a checked point
  branch_checked : (a q : ℕ) (s : State) (kind : EdgeKind) → kind ≢ Next → IsPoint p a → Kept p a s → Contains (p.goes a) (edge q kind) → p.unchecked q ≡ false
  branch_checked a q s kind ne pa kept c = is.checked a (edge q kind) pa (kept_checked p a s kept) c (λ e. absurd (ne e))

  pub local_checked : (a q : ℕ) (s : State) (kind : EdgeKind) → is_local kind ≡ true → IsPoint p a → Kept p a s → Contains (p.goes a) (edge q kind) → can_go p a kind ≡ true → p.unchecked q ≡ false
  local_checked a q s Next l pa kept c h = next_checked a q s pa kept c h
  local_checked a q s Taken l pa kept c h = branch_checked a q s Taken (λ e. let k : ⊥ = cc in k) pa kept c
  local_checked a q s Table l pa kept c h = branch_checked a q s Table (λ e. let k : ⊥ = cc in k) pa kept c
  local_checked a q s Fixup l pa kept c h = absurd (let k : ⊥ = cc in k)
  local_checked a q s Sibling l pa kept c h = absurd (let k : ⊥ = cc in k)

  pub fixup_checked : (a q : ℕ) (s : State) → IsPoint p a → Kept p a s → Contains (p.goes a) (edge q Fixup) → p.unchecked q ≡ false
  fixup_checked a q s pa kept c = branch_checked a q s Fixup (λ e. let k : ⊥ = cc in k) pa kept c

  -- the operation of a kept point is not refused, unless a hint follows right behind
  pub moves : (a : ℕ) (s : State) → Kept p a s → is_before_hint p a ≡ false → (t : State) × (moved_at p a s ≡ Ok t)
  moves a s kept before = go (moved_at p a s) refl
    where
      go : (r : Result State ℕ) → moved_at p a s ≡ r → (t : State) × (moved_at p a s ≡ Ok t)
      go (Ok t) e = (t, e)
      go (Err rule) e = absurd (acc _ _ _ _ (refused a rule s kept e (λ _. before)))

  -- the moved state is kept along a local edge, and the state itself along that to a fixup
  pub local_kept : (a q : ℕ) (s t : State) (kind : EdgeKind) → is_local kind ≡ true → IsPoint p a → Kept p a s → Contains (p.goes a) (edge q kind) → can_go p a kind ≡ true → moved_at p a s ≡ Ok t → is_free (p.hint q) ≡ true → Kept p q t
  local_kept a q s t kind l pa kept c h e free = carried p acc a q s t pa kept (brings_along p a s (edge q kind) t (edge_in a q kind c h) (local_brought s t (moved_at p a s) kind l e)) (local_checked a q s kind l pa kept c h) free

  pub fixup_kept : (a q : ℕ) (s : State) → IsPoint p a → Kept p a s → Contains (p.goes a) (edge q Fixup) → is_free (p.hint q) ≡ true → Kept p q s
  fixup_kept a q s pa kept c free = carried p acc a q s s pa kept (brings_along p a s (edge q Fixup) s (edge_in a q Fixup c refl) (here s [])) (fixup_checked a q s pa kept c) free

  -- past a call that may return its state is kept
  pub call_next_in : (a q : ℕ) (s : State) → IsPoint p a → Kept p a s → is_call (p.role a) ≡ true → p.dead_end a ≡ false → Contains (p.after a) q → Contains (p.goes a) (edge q Next)
  call_next_in a q s pa kept call passed c = is.call_next a q pa (kept_checked p a s kept) call passed c

  pub past_call : (a q : ℕ) (s : State) → IsPoint p a → Kept p a s → is_call (p.role a) ≡ true → target_may_return p a ≡ true → Contains (p.goes a) (edge q Next) → is_free (p.hint q) ≡ true → Kept p q s
  past_call a q s pa kept call back c free =
      let m = moves a s kept (no_hint_behind p a q Next refl c back free) in
      local_kept a q s s Next refl pa kept c back (call_moves_at (p.loose a) s m.0 (p.insn a).op (is.calls a pa call) m.1) free
