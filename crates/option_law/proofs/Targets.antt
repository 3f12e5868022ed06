-- Where calls and jumps to other functions lead, with user access on.
use Rattle.std.proofs.Common.{◌≡◌, ℕ, Bool, true, false, Option, Some, None, Contains, ℤ, refl, sym, ap, subst, inl, inr}
use Rattle.ot_base.specs.declared.place.Place.{Place}
use Rattle.machine_defs.specs.declared.flow.Edge.{Edge}
use Rattle.machine_defs.specs.declared.flow.EdgeKind.TheVariants.{Sibling}
use Rattle.machine_defs.specs.declared.flow.Role.{Role}
use Rattle.machine_defs.specs.declared.flow.Role.TheVariants.{Plain, CallIn, CallEither, CallOut, CallAny, Return, JumpOut, JumpAny, Switch}
use Rattle.machine_defs.specs.Program.{Program, IsPoint, entry_points, edge}
use Rattle.machine_defs.specs.IsProgram.{IsCallee, IsProgram}
use Rattle.machine_defs.specs.Step.{may_go_back, IsTarget, JumpsTo, sibling, indirect}
use Rattle.machine_defs.specs.Kept.{can_go, edges_of}
use Rattle.machine_defs.specs.Broken.{LeavesByJump}
use Rattle.machine_defs.specs.Broken as broken
use Rattle.machine_defs.specs.Allowances.{Allowances, EntersFunctions, is_safe, is_safe_owner}
use Rattle.machine_defs.specs.Access.{Reached, entered, called}
use Rattle.machine_defs.specs.AccessRules.{CallsUnsafe, Leaves, by_return, by_jump, AccessWarns, call_with_access}
use Rattle.machine_defs.specs.AccessRules as rules
use Rattle.option_law.specs.Access.{HasSafeTarget}
use Rattle.unwinding_law.proofs.Lists.{in_filter}
use Rattle.option_law.proofs.Clean.{unless_false}

-- a tail call's edge may be gone along
pub sibling_edge : (p : Program) (q r : ℕ) → Contains (p.goes q) (edge r Sibling) → Contains (edges_of p q) (edge r Sibling)
sibling_edge p q r c = in_filter (λ (e : Edge). can_go p q e.kind) (p.goes q) (edge r Sibling) c refl

-- where control may return, the function is left
pub leaves_there : (p : Program) (q : ℕ) (x : Role) → p.role q ≡ x → may_go_back p x ≡ true → Leaves p q
leaves_there p q Return e l = by_return e
leaves_there p q JumpAny e l = by_jump (broken.anywhere e)
leaves_there p q (JumpOut sym) e l = by_jump (broken.outside sym e)
leaves_there p q _ e l = absurd (let k : ⊥ = cc in k)

module _ (p : Program) (is : IsProgram p) where
  -- a call in the program goes to an entry, or to what code of no function may call
  pub called_entry : (q entry : ℕ) → IsPoint p q → (x : Role) → p.role q ≡ x → IsTarget p x entry → IsCallee p q entry
  called_entry q entry point (CallIn e) h k = subst (λ (y : ℕ). IsCallee p q y) (sym k) (is.calls_entry q e point h)
  called_entry q entry point (CallEither e symbol) h k = subst (λ (y : ℕ). IsCallee p q y) (sym k) (is.calls_weak_entry q e symbol point h)
  called_entry q entry point CallAny h k = inl k
  called_entry q entry point _ h k = absurd k

  -- and so does a jump to another function, by which its own is left
  pub jump_entry : (q r : ℕ) → IsPoint p q → JumpsTo p q r → (entry : ℕ) × Contains p.entries entry × Contains (entry_points p entry) r
  jump_entry q r point (sibling r2 c) = is.siblings q r point c
  jump_entry q r point (indirect r2 entry role c d) = (entry, c, d)

  pub jump_leaves : (q r : ℕ) → JumpsTo p q r → Leaves p q
  jump_leaves q r (sibling r2 c) = by_jump (broken.sibling r (sibling_edge p q r c))
  jump_leaves q r (indirect r2 entry role c d) = by_jump (broken.anywhere role)

module _ (p : Program) (allowed : Allowances) (is : IsProgram p) (functions : EntersFunctions p) where
  -- control that comes to an entry stands in its function
  pub reached_entry : (entry q : ℕ) → Contains p.entries entry → Contains (entry_points p entry) q → allowed.lacks_smap q ≡ false → Reached p allowed q (is_safe p allowed q) (is_safe p allowed q)
  reached_entry entry q c d taken =
      let same : is_safe p allowed q ≡ is_safe p allowed entry = ap (is_safe_owner allowed) (functions.arrivals entry q c d).1 in
      subst (λ (x : Bool). Reached p allowed q x x) (sym same) (entered q entry c d taken)

  -- and so does what is called of code of no function, where a hint tells that it is reached with user access off
  none_is_safe : (o : Option ℕ) → o ≡ None → is_safe_owner allowed o ≡ false
  none_is_safe None e = refl
  none_is_safe (Some function) e = absurd (let k : ⊥ = cc in k)

  pub reached_callee : (a entry q : ℕ) → IsCallee p a entry → Contains (entry_points p entry) q → allowed.lacks_smap q ≡ false → Reached p allowed q (is_safe p allowed entry) (is_safe p allowed entry)
  reached_callee a entry q (inl c) d taken = entered q entry c d taken
  reached_callee a entry q (inr may) d taken =
      let off : is_safe p allowed entry ≡ false = none_is_safe (p.owner entry) may.of_none in
      let told = may.hinted q d in
      subst (λ (x : Bool). Reached p allowed q x x) (sym off) (called q (is.arrivals (p.place entry) q d) told.1 told.0 taken)

  module _ (fine : (place : Place) (rule : ℕ) (a b : ℤ) → AccessWarns p allowed place rule a b → ⊥) (q : ℕ) (home : Bool) (point : IsPoint p q) (on : Reached p allowed q true home) where
    none_unsafe : (callee : ℤ) → CallsUnsafe p allowed q callee → ⊥
    none_unsafe callee c = fine _ _ _ _ (call_with_access q home callee on c)

    -- a call, or a jump to code outside, goes to a safe function
    pub safe_target : (x : Role) → p.role q ≡ x → HasSafeTarget p allowed x
    safe_target Plain e = tt
    safe_target (CallIn entry) e = unless_false (is_safe p allowed entry) (λ n. none_unsafe _ (rules.inside entry e n))
    safe_target (CallEither entry symbol) e = (
      unless_false (is_safe p allowed entry) (λ n. none_unsafe _ (rules.weak_inside entry symbol e n)),
      unless_false (allowed.safe_name symbol) (λ n. none_unsafe _ (rules.weak_outside entry symbol e n)),
    )
    safe_target (CallOut symbol) e = unless_false (allowed.safe_name symbol) (λ n. none_unsafe _ (rules.outside symbol e n))
    safe_target CallAny e = none_unsafe _ (rules.indirect e)
    safe_target Return e = tt
    safe_target (JumpOut symbol) e = unless_false (allowed.safe_name symbol) (λ n. none_unsafe _ (rules.jumps_outside symbol e n))
    safe_target JumpAny e = none_unsafe _ (rules.jumps_anywhere e)
    safe_target Switch e = tt

    -- and so does a tail call
    pub safe_sibling : (r : ℕ) → Contains (p.goes q) (edge r Sibling) → is_safe p allowed r ≡ true
    safe_sibling r c = unless_false (is_safe p allowed r) (λ n. none_unsafe _ (rules.tail_call r (sibling_edge p q r c) n))

    pub safe_jump : (r : ℕ) → JumpsTo p q r → is_safe p allowed r ≡ true
    safe_jump r (sibling r2 c) = safe_sibling r c
    safe_jump r (indirect r2 entry role c d) = absurd (none_unsafe _ (rules.jumps_anywhere role))

    pub safe_call : (entry : ℕ) → IsTarget p (p.role q) entry → is_safe p allowed entry ≡ true
    safe_call entry h = go (p.role q) h (safe_target (p.role q) refl)
      where
        go : (x : Role) → IsTarget p x entry → HasSafeTarget p allowed x → is_safe p allowed entry ≡ true
        go (CallIn e) k safe = subst (λ (y : ℕ). is_safe p allowed y ≡ true) (sym k) safe
        go (CallEither e symbol) k safe = subst (λ (y : ℕ). is_safe p allowed y ≡ true) (sym k) safe.0
        go CallAny k safe = absurd safe
        go _ k safe = absurd k
