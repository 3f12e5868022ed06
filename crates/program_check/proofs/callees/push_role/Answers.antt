-- By the role.
use Rattle.std.proofs.Common.{◌≡◌, ◌⊎◌, inl, inr, ℕ, List, negsuc, sym, ◌∙◌, subst}
use Rattle.std.proofs.lemmas.Result.{on_ok_weaker}
use Rattle.ot_base.specs.declared.place.Place.{Place}
use Rattle.ot_base.specs.declared.warning.Warning.{Warning}
use Rattle.machine_defs.specs.declared.flow.Role.{Role}
use Rattle.machine_defs.specs.declared.flow.Role.TheVariants.{CallOut, CallAny, JumpOut, JumpAny}
use Rattle.machine_defs.specs.Program.{Program, IsPoint}
use Rattle.machine_defs.specs.IsProgram.{IsCallee}
use Rattle.machine_defs.specs.Allowances.{Allowances, EntersFunctions}
use Rattle.stack_rules.specs.Gains.{Gains}
use Rattle.stack_rules.proofs.GainsLemmas.{gains_both}
use Rattle.program_check.specs.PointWarns.{NameIsCalled, RoleCalls, callee_warning}
use Rattle.program_check.proofs.callees.push_role.Goals as goal

-- what is called is a point
callee_point : (p : Program) (q entry : ℕ) → EntersFunctions p → IsCallee p q entry → IsPoint p entry
callee_point p q entry functions (inl listed) = functions.points entry listed
callee_point p q entry functions (inr may) = may.point

module _ (p : Program) (allowed : Allowances) (place : Place) (old new : List Warning) where
  as_role : (r role : Role) → role ≡ r → Gains old new (RoleCalls p allowed place r) → Gains old new (RoleCalls p allowed place role)
  as_role r role e h = subst (λ (x : Role). Gains old new (RoleCalls p allowed place x)) (sym e) h

  anywhere : (role : Role) → role ≡ CallAny ⊎ role ≡ JumpAny → Gains old new (λ w. w ≡ callee_warning place (negsuc 0)) → Gains old new (RoleCalls p allowed place role)
  anywhere role (inl e) h = as_role CallAny role e h
  anywhere role (inr e) h = as_role JumpAny role e h

  outside : (role : Role) (s : ℕ) → role ≡ CallOut s ⊎ role ≡ JumpOut s → Gains old new (NameIsCalled allowed place s) → Gains old new (RoleCalls p allowed place role)
  outside role s (inl e) h = as_role (CallOut s) role e h
  outside role s (inr e) h = as_role (JumpOut s) role e h

pub returns-in-CallIn : goal.returns-in-CallIn
returns-in-CallIn c = on_ok_weaker c.push_point.result (λ h p allowed q t point role.
    as_role p allowed c.args.place c.args.into.now.items c.push_point.new.into.items _ c.args.role c.in-CallIn.is
    (h p allowed t (callee_point p q c.in-CallIn.entry t.functions (t.is_program.calls_entry q c.in-CallIn.entry point (role ∙ c.in-CallIn.is))))) c.push_point.ensures

pub returns-in_ok-push_point-in-CallEither : goal.returns-in_ok-push_point-in-CallEither
returns-in_ok-push_point-in-CallEither c = on_ok_weaker c.push_name.result (λ h p allowed q t point role.
    let entry = c.in-CallEither.entry in
    let s = c.in-CallEither.sym in
    as_role p allowed c.args.place c.args.into.now.items c.push_name.new.into.items _ c.args.role c.in-CallEither.is
    (gains_both _ _ _ _ _ (c.in_ok-push_point-in-CallEither.ensures p allowed t (callee_point p q entry t.functions (t.is_program.calls_weak_entry q entry s point (role ∙ c.in-CallEither.is)))) (h allowed p.count t.allows))) c.push_name.ensures

pub returns-in-CallAny : goal.returns-in-CallAny
returns-in-CallAny c = on_ok_weaker c.push.result (λ h p allowed q t point role.
    anywhere p allowed c.args.place c.args.into.now.items c.push.new.into.items c.args.role c.in-CallAny.is
    (subst (λ (x : Warning). Gains c.args.into.now.items c.push.new.into.items (λ w. w ≡ x)) c.callee_warning.ensures h)) c.push.ensures

pub returns-in-CallOut : goal.returns-in-CallOut
returns-in-CallOut c = on_ok_weaker c.push_name-in-CallOut.result (λ h p allowed q t point role.
    outside p allowed c.args.place c.args.into.now.items c.push_name-in-CallOut.new.into.items c.args.role c.in-CallOut.sym c.in-CallOut.is (h allowed p.count t.allows)) c.push_name-in-CallOut.ensures
