-- What the role has, as a return and as a way to another function.
use Rattle.std.proofs.Common.{◌≡◌, ℕ, ◌⊎◌, inl, inr, sym, subst}
use Rattle.std.proofs.lemmas.Result.{on_ok_weaker}
use Rattle.machine_defs.specs.declared.flow.Role.{Role}
use Rattle.machine_defs.specs.declared.flow.Role.TheVariants.{JumpOut, JumpAny}
use Rattle.stack_rules.specs.Gains.{Gains}
use Rattle.stack_rules.specs.PointWarns.{RoleWarns, SiblingWarns}
use Rattle.stack_rules.proofs.exits.push_role.Goals as goal

pub returns-in-Return : goal.returns-in-Return
returns-in-Return c = on_ok_weaker c.push_return.result (λ h consistent. subst (λ (r : Role). Gains c.args.into.now.items c.push_return.new.into.items (RoleWarns c.args.place c.args.op c.args.state c.args.may_leave r)) (sym c.in-Return.is) (h consistent)) c.push_return.ensures

pub returns-in-JumpOut : goal.returns-in-JumpOut
returns-in-JumpOut c = on_ok_weaker c.push_sibling.result (λ h consistent. jump c.args.role c.in-JumpOut.is (h consistent)) c.push_sibling.ensures
  where
    jump : (role : Role) → ((sym : ℕ) × (role ≡ JumpOut sym)) ⊎ (role ≡ JumpAny) → Gains c.args.into.now.items c.push_sibling.new.into.items (SiblingWarns c.args.place c.args.state c.args.may_leave) → Gains c.args.into.now.items c.push_sibling.new.into.items (RoleWarns c.args.place c.args.op c.args.state c.args.may_leave role)
    jump role (inl (symbol, e)) h = subst (λ (r : Role). Gains c.args.into.now.items c.push_sibling.new.into.items (RoleWarns c.args.place c.args.op c.args.state c.args.may_leave r)) (sym e) h
    jump role (inr e) h = subst (λ (r : Role). Gains c.args.into.now.items c.push_sibling.new.into.items (RoleWarns c.args.place c.args.op c.args.state c.args.may_leave r)) (sym e) h
