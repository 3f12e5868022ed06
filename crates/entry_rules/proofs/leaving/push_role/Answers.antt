use Rattle.std.proofs.Common.{◌≡◌, ◌⊎◌, ℕ, ℤ, List, inl, inr, pos, rules, sym, ◌∙◌, subst, w64}
use Rattle.std.proofs.lemmas.Int.{ints, to_z-of_z}
use Rattle.ot_base.specs.declared.warning.Warning.{Warning}
use Rattle.machine_defs.specs.declared.flow.Role.{Role}
use Rattle.machine_defs.specs.Program.{IsPoint, Program}
use Rattle.machine_defs.specs.IsProgram.{IsCallee}
use Rattle.machine_defs.specs.Allowances.{EntersFunctions}
use Rattle.stack_rules.specs.Gains.{Gains}
use Rattle.entry_rules.specs.PointWarns.{PointIsLeftFor, RoleLeaves, callee_warning}
use Rattle.std.proofs.lemmas.Result.{on_ok_weaker}
use Rattle.entry_rules.proofs.leaving.push_role.Goals as goal

-- what is called is a point
callee_point : (p : Program) (q entry : ℕ) → EntersFunctions p → IsCallee p q entry → IsPoint p entry
callee_point p q entry functions (inl listed) = functions.points entry listed
callee_point p q entry functions (inr may) = may.point

-- what is gained one behind the other
both_gains : (old mid new : List Warning) (P Q : Warning → Type 0) → Gains old mid P → Gains mid new Q → Gains old new (λ w. P w ⊎ Q w)
both_gains old mid new P Q one other w = (
  λ has. elim ((other w).0 has) [
    | inl there ↦ elim ((one w).0 there) [ inl before ↦ inl before | inr h ↦ inr (inl h) ]
    | inr h ↦ inr (inr h)
  ],
  λ either. elim either [
    | inl before ↦ (other w).1 (inl ((one w).1 (inl before)))
    | inr h ↦ elim h [ inl first ↦ (other w).1 (inl ((one w).1 (inr first))) | inr second ↦ (other w).1 (inr second) ]
  ],
)

pub returns-in-CallIn : goal.returns-in-CallIn
returns-in-CallIn c = on_ok_weaker c.push_point.result (λ gains. λ p facts q knows point role.
    subst (λ (r : Role). Gains c.args.into.now.items c.push_point.new.into.items (RoleLeaves p facts c.args.place r)) (sym c.in-CallIn.is)
    (gains p facts knows (callee_point p q c.in-CallIn.entry knows.functions (knows.is_program.calls_entry q c.in-CallIn.entry point (role ∙ c.in-CallIn.is))))) c.push_point.ensures

pub returns-in-CallOut : goal.returns-in-CallOut
returns-in-CallOut c = on_ok_weaker c.push_callee-in-CallOut.result (λ gains. λ p facts q knows point role.
    let named : Gains c.args.into.now.items c.push_callee-in-CallOut.new.into.items (λ w. w ≡ callee_warning c.args.place (pos c.in-CallOut.sym)) =
    subst (λ (z : ℤ). Gains c.args.into.now.items c.push_callee-in-CallOut.new.into.items (λ w. w ≡ callee_warning c.args.place z)) (to_z-of_z w64 c.from-in-CallOut.result (search (rules, ints)) ∙ c.from-in-CallOut.ensures) gains in
    elim c.in-CallOut.is [
      | inl call ↦ subst (λ (r : Role). Gains c.args.into.now.items c.push_callee-in-CallOut.new.into.items (RoleLeaves p facts c.args.place r)) (sym call) named
      | inr jump ↦ subst (λ (r : Role). Gains c.args.into.now.items c.push_callee-in-CallOut.new.into.items (RoleLeaves p facts c.args.place r)) (sym jump) named
    ]) c.push_callee-in-CallOut.ensures

pub returns-in-CallAny : goal.returns-in-CallAny
returns-in-CallAny c = on_ok_weaker c.push_callee-in-CallAny.result (λ gains. λ p facts q knows point role. elim c.in-CallAny.is [
  | inl call ↦ subst (λ (r : Role). Gains c.args.into.now.items c.push_callee-in-CallAny.new.into.items (RoleLeaves p facts c.args.place r)) (sym call) gains
  | inr jump ↦ subst (λ (r : Role). Gains c.args.into.now.items c.push_callee-in-CallAny.new.into.items (RoleLeaves p facts c.args.place r)) (sym jump) gains
]) c.push_callee-in-CallAny.ensures

pub returns-in_ok-push_point-in-CallEither : goal.returns-in_ok-push_point-in-CallEither
returns-in_ok-push_point-in-CallEither c = on_ok_weaker c.push_callee.result (λ gains. λ p facts q knows point role.
    let entry : ℕ = c.in-CallEither.entry in
    let mid : List Warning = c.push_point-in-CallEither.new.into.items in
    let named : Gains mid c.push_callee.new.into.items (λ w. w ≡ callee_warning c.args.place (pos c.in-CallEither.sym)) =
    subst (λ (z : ℤ). Gains mid c.push_callee.new.into.items (λ w. w ≡ callee_warning c.args.place z)) (to_z-of_z w64 c.from.result (search (rules, ints)) ∙ c.from.ensures) gains in
    let own : Gains c.args.into.now.items mid (PointIsLeftFor p facts c.args.place entry) =
    c.in_ok-push_point-in-CallEither.ensures p facts knows (callee_point p q entry knows.functions (knows.is_program.calls_weak_entry q entry c.in-CallEither.sym point (role ∙ c.in-CallEither.is))) in
    subst (λ (r : Role). Gains c.args.into.now.items c.push_callee.new.into.items (RoleLeaves p facts c.args.place r)) (sym c.in-CallEither.is)
    (both_gains c.args.into.now.items mid c.push_callee.new.into.items (PointIsLeftFor p facts c.args.place entry) (λ w. w ≡ callee_warning c.args.place (pos c.in-CallEither.sym)) own named)) c.push_callee.ensures
