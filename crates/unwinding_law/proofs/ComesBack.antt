-- No return comes past a call whose target may not return, unless one may come from there.
use Rattle.std.proofs.lemmas.Bool.{and_parts}
use Rattle.std.proofs.Common.{◌≡◌, ℕ, ◌&&◌, ◌||◌, not, Bool, true, false, Contains, refl, sym, ap, ◌∙◌}
use Rattle.machine_defs.specs.declared.flow.EdgeKind.TheVariants.{Next}
use Rattle.machine_defs.specs.declared.flow.Role.{Role}
use Rattle.machine_defs.specs.declared.flow.Role.TheVariants.{CallIn, CallEither, CallOut, CallAny}
use Rattle.machine_defs.specs.Program.{Program, IsPoint, entry_points, is_call, edge}
use Rattle.machine_defs.specs.MayReturn.{MayReturn, calls_outside, may_return_outright, code_may_return, target_may_return, is_listed}
use Rattle.machine_defs.specs.MayReturn as may
use Rattle.machine_defs.specs.Ways.{comes_back_as_outside, may_call_out}
use Rattle.machine_defs.specs.IsProgram.{IsProgram}
use Rattle.unwinding_law.proofs.Lists.{find_one}

not_true : (b : Bool) → not b ≡ true → b ≡ false
not_true true e = absurd (let k : ⊥ = cc in k)
not_true false e = refl

-- a marked call may return, and so may one that may go outside and isn't listed
outright : (p : Program) (q : ℕ) → is_call (p.role q) ≡ true → (p.marked_call q || (calls_outside (p.role q) && not (is_listed p q))) ≡ true → may_return_outright p q ≡ true
outright p q call e = both (is_call (p.role q)) (p.marked_call q || (calls_outside (p.role q) && not (is_listed p q))) call e
  where
    both : (x y : Bool) → x ≡ true → y ≡ true → (x && y) ≡ true
    both true y e f = f
    both false y e f = absurd (let k : ⊥ = cc in k)

marked : (m x : Bool) → m ≡ true → (m || x) ≡ true
marked true x e = refl
marked false x e = absurd (let k : ⊥ = cc in k)

goes_outside : (m o l : Bool) → o ≡ true → l ≡ false → (m || (o && not l)) ≡ true
goes_outside true o l e f = refl
goes_outside false true false e f = refl
goes_outside false true true e f = absurd (let k : ⊥ = cc in k)
goes_outside false false l e f = absurd (let k : ⊥ = cc in k)

module _ (p : Program) (is : IsProgram p) (call q : ℕ) (point : IsPoint p call) (passed : p.dead_end call ≡ false) (next : Contains (p.goes call) (edge q Next)) where
  -- a call that isn't marked
  by_code : (x : Role) → p.role call ≡ x → is_call x ≡ true → is_listed p call ≡ false → code_may_return p x ≡ true → MayReturn p q → MayReturn p call
  by_code (CallIn entry) e c unlisted code m =
      let r = find_one p.may_return (entry_points p entry) code in
      may.comes_back_in call q entry r.0 e unlisted passed r.1 ((is.may_return r.0 (is.arrivals (p.place entry) r.0 r.1)).0 r.2) next m
  by_code (CallEither entry symbol) e c unlisted code m = may.comes_back call q (outright p call (ap is_call e) (goes_outside (p.marked_call call) (calls_outside (p.role call)) (is_listed p call) (ap calls_outside e) unlisted)) passed next m
  by_code (CallOut symbol) e c unlisted code m = may.comes_back call q (outright p call (ap is_call e) (goes_outside (p.marked_call call) (calls_outside (p.role call)) (is_listed p call) (ap calls_outside e) unlisted)) passed next m
  by_code CallAny e c unlisted code m = may.comes_back call q (outright p call (ap is_call e) (goes_outside (p.marked_call call) (calls_outside (p.role call)) (is_listed p call) (ap calls_outside e) unlisted)) passed next m
  by_code _ e c unlisted code m = absurd (let k : ⊥ = cc in k)

  -- any call
  pub call_comes_back : is_call (p.role call) ≡ true → target_may_return p call ≡ true → MayReturn p q → MayReturn p call
  call_comes_back c back m = go (p.marked_call call) refl
    where
      parts : (not (is_listed p call) ≡ true) × ((p.marked_call call || code_may_return p (p.role call)) ≡ true)
      parts = and_parts (not (is_listed p call)) (p.marked_call call || code_may_return p (p.role call)) back

      go : (b : Bool) → p.marked_call call ≡ b → MayReturn p call
      go true e = may.comes_back call q (outright p call c (marked (p.marked_call call) (calls_outside (p.role call) && not (is_listed p call)) e)) passed next m
      go false e = by_code (p.role call) refl c (not_true (is_listed p call) parts.0) (unmarked (p.marked_call call) (code_may_return p (p.role call)) e parts.1) m
        where
          unmarked : (b x : Bool) → b ≡ false → (b || x) ≡ true → x ≡ true
          unmarked false x e h = h
          unmarked true x e h = absurd (let k : ⊥ = cc in k)

-- a call that comes back as one of code outside is a call, whose target may return
pub out_calls : (p : Program) (q : ℕ) → may_call_out p q ≡ true → (is_call (p.role q) ≡ true) × (target_may_return p q ≡ true)
out_calls p q e =
    let both = and_parts (not (is_listed p q)) (calls_outside (p.role q) || comes_back_as_outside p q (p.role q)) e in
    by_role (p.role q) refl both.0 both.1
  where
    returns : (l m c : Bool) → not l ≡ true → c ≡ true → (not l && (m || c)) ≡ true
    returns false true c e f = refl
    returns false false true e f = refl
    returns false false false e f = absurd (let k : ⊥ = cc in k)
    returns true m c e f = absurd (let k : ⊥ = cc in k)

    outside : (x : Role) → p.role q ≡ x → is_call x ≡ true → code_may_return p x ≡ true → not (is_listed p q) ≡ true → (is_call (p.role q) ≡ true) × (target_may_return p q ≡ true)
    outside x is call code unlisted = (ap is_call is ∙ call, returns (is_listed p q) (p.marked_call q) (code_may_return p (p.role q)) unlisted (ap (code_may_return p) is ∙ code))

    by_role : (x : Role) → p.role q ≡ x → not (is_listed p q) ≡ true → (calls_outside x || comes_back_as_outside p q x) ≡ true → (is_call (p.role q) ≡ true) × (target_may_return p q ≡ true)
    by_role (CallOut sym) is unlisted h = outside (CallOut sym) is refl refl unlisted
    by_role (CallEither entry sym) is unlisted h = outside (CallEither entry sym) is refl refl unlisted
    by_role CallAny is unlisted h = outside CallAny is refl refl unlisted
    by_role (CallIn entry) is unlisted h = (ap is_call is, (and_parts _ (target_may_return p q) h).1)
    by_role _ is unlisted h = absurd (let k : ⊥ = cc in k)
