-- Rule 4 is broken somewhere exactly where two paths disagree.
use Rattle.std.proofs.Common.{◌≡◌, ℕ, ◌≤◌, zero, suc, ◌⊎◌, true, false, if◌then◌else◌, Option, Some, None, ℤ, Contains, refl, sym, ap, ◌∙◌, subst, inl, inr, arith}
use Rattle.ot_base.specs.declared.place.Place.{Place}
use Rattle.state_defs.specs.declared.state.State.{State}
use Rattle.state_defs.specs.declared.state.HintState.{HintState}
use Rattle.state_defs.specs.declared.state.HintState.TheVariants.{Set, Save, Restore}
use Rattle.state_defs.specs.Order.{least}
use Rattle.machine_defs.specs.Program.{Program, below}
use Rattle.machine_defs.specs.IsProgram.{IsProgram, HintsStandAtPoints}
use Rattle.machine_defs.specs.Kept.{brought_from, brought, later_state, kept_or, state_at, Kept, is_free, Path, begins, restored, goes_on}
use Rattle.machine_defs.specs.Broken.{Warns, HasTwoPaths, HasMismatch, MismatchIsTwoPaths}
use Rattle.machine_defs.specs.Broken as broken
use Rattle.machine_defs.proofs.KeptLemmas.{kept_is_one}
use Rattle.unwinding_law.proofs.Lists.{nowhere, from_flat_map}
use Rattle.unwinding_law.proofs.KeptStates.{least_member, unless_unchecked, kept_checked, brought_kept}
use Rattle.unwinding_law.proofs.Same.{same_state}
use Rattle.unwinding_law.proofs.KeptPoints.{kept_are_points}
use Rattle.table_law.proofs.Refusals.{refusal_at}

module _ (p : Program) where
  -- the least state that is brought comes along a path
  brought_path : (n q : ℕ) (s : State) → p.unchecked q ≡ false → is_free (p.hint q) ≡ true → least (brought p (state_at p n) q) ≡ Some s → ((a : ℕ) (t : State) → state_at p n a ≡ Some t → Path p a t) → Path p q s
  brought_path n q s u free e ih = from (from_flat_map (λ a. brought_from p a (state_at p n a) q) (below p.count) s (least_member (brought p (state_at p n) q) s e))
    where
      one : (a : ℕ) (o : Option State) → state_at p n a ≡ o → Contains (brought_from p a o q) s → Path p q s
      one a None h c = nowhere s c
      one a (Some t) h c = goes_on a q t s (ih a t h) c u free

      from : (a : ℕ) × Contains (below p.count) a × Contains (brought_from p a (state_at p n a) q) s → Path p q s
      from r = one r.0 (state_at p n r.0) refl r.2

  -- a state that is kept comes along a path
  level_path : (n q : ℕ) (s : State) → state_at p n q ≡ Some s → Path p q s
  level_path zero q s e = begins q s e
  level_path (suc n) q s e = go (state_at p n q) refl e (λ a t h. level_path n a t h)
    where
      later : (h : Option HintState) → p.hint q ≡ h → later_state p (state_at p n) q h ≡ Some s → ((a : ℕ) (t : State) → state_at p n a ≡ Some t → Path p a t) → Path p q s
      later (Some (Set t)) h k ih = absurd (let z : ⊥ = cc in z)
      later (Some Restore) h k ih = restored q s h (suc n, e)
      later (Some Save) h k ih = brought_path n q s (kept_checked p q s (suc n, e)) (ap is_free h) k ih
      later None h k ih = brought_path n q s (kept_checked p q s (suc n, e)) (ap is_free h) k ih

      go : (o : Option State) → state_at p n q ≡ o → kept_or o (if p.unchecked q then None else later_state p (state_at p n) q (p.hint q)) ≡ Some s → ((a : ℕ) (t : State) → state_at p n a ≡ Some t → Path p a t) → Path p q s
      go None h k ih = later (p.hint q) refl (unless_unchecked (p.unchecked q) (later_state p (state_at p n) q (p.hint q)) s k) ih
      go (Some t) h k ih = ih q s (h ∙ k)

  kept_path : (q : ℕ) (s : State) → Kept p q s → Path p q s
  kept_path q s (n, e) = level_path n q s e

  -- a warning of rule 4 is of two paths
  two_paths : (place : Place) (rule : ℕ) (a b : ℤ) → Warns p place rule a b → rule ≡ 4 → HasTwoPaths p
  two_paths place rule a b (broken.mismatch q r s t u kq brings kr free ne) e = record {
    point = r;
    one = t;
    other = u;
    checked = kept_checked p r u kr;
    free = free;
    one_path = goes_on q r s t (kept_path q s kq) brings (kept_checked p r u kr) free;
    other_path = kept_path r u kr;
    different = ne;
  }
  two_paths place rule a b (broken.refused q n s k e before) f = let h : 7 ≤ 4 = subst (λ (x : ℕ). 7 ≤ x) f (refusal_at p q s n e) in absurd (omega arith)
  two_paths place rule a b _ e = absurd (omega arith)

  module _ (is : IsProgram p) (hints : HintsStandAtPoints p) where
    -- what a path brings is kept, unless a rule is broken on its way
    along : (q : ℕ) (s : State) → Path p q s → HasMismatch p ⊎ Kept p q s
    along q s (begins q2 s2 e) = inr (0, e)
    along q s (restored q2 s2 h k) = inr k
    along q s (goes_on a q2 t s2 path brings u free) = elim (along a t path) [ inl m ↦ inl m | inr k ↦ arrived k ]
      where
        arrived : Kept p a t → HasMismatch p ⊎ Kept p q s
        arrived k =
            let w = brought_kept p a q t s (kept_are_points p is hints a t k) k brings u free in
            elim (same_state s w.0) [
              | yes e ↦ inr (subst (λ (x : State). Kept p q x) (sym e) w.1)
              | no ne ↦ inl (record { place = _; kept = _; found = _; warning = broken.mismatch a q t s w.0 k brings w.1 free ne })
            ]

    mismatch : HasTwoPaths p → HasMismatch p
    mismatch h = elim (along h.point h.one h.one_path) [
      | inl m ↦ m
      | inr k ↦ elim (along h.point h.other h.other_path) [
        | inl m ↦ m
        | inr l ↦ absurd (h.different (kept_is_one p h.point h.one h.other k l))
      ]
    ]

pub mismatch_is_two_paths : MismatchIsTwoPaths
mismatch_is_two_paths p is hints = (λ m. two_paths p m.place 4 m.kept m.found m.warning refl, mismatch p is hints)
