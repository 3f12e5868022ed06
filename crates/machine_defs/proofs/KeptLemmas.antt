-- Kept states stay, and are one for each point.
use Rattle.std.proofs.Common.{◌≡◌, ℕ, zero, suc, ◌+◌, Some, sym, subst, zero-add, add_comm, arith, refl}
use Rattle.state_defs.specs.declared.state.State.{State}
use Rattle.machine_defs.specs.Program.{Program}
use Rattle.machine_defs.specs.Kept.{state_at, Kept}

-- one level more
pub kept_next : (p : Program) (level q : ℕ) (s : State) → state_at p level q ≡ Some s → state_at p (suc level) q ≡ Some s
kept_next p level q s h = rw h refl

pub kept_stays : (p : Program) (level more q : ℕ) (s : State) → state_at p level q ≡ Some s → state_at p (more + level) q ≡ Some s
kept_stays p level zero q s h = subst (λ (n : ℕ). state_at p n q ≡ Some s) (sym (zero-add level)) h
kept_stays p level (suc more) q s h =
    let e : suc (more + level) ≡ suc more + level = omega arith in
    subst (λ (n : ℕ). state_at p n q ≡ Some s) e (kept_next p (more + level) q s (kept_stays p level more q s h))

pub kept_is_one : (p : Program) (q : ℕ) (s t : State) → Kept p q s → Kept p q t → s ≡ t
kept_is_one p q s t (n, h) (m, k) =
    let one : state_at p (m + n) q ≡ Some s = kept_stays p n m q s h in
    let other : state_at p (m + n) q ≡ Some t = subst (λ (l : ℕ). state_at p l q ≡ Some t) (add_comm n m) (kept_stays p m n q t k) in
    cc
