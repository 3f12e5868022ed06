-- The worked program is clean under its options.
use Rattle.std.proofs.Common.{◌≡◌, ℕ, suc, ◌⊎◌, Bool, true, false, [], ◌∷◌, slice_index_or, None, IfSome, All, ℤ, refl, sym, ap, ◌∙◌, subst, inl, inr}
use Rattle.ot_base.specs.declared.place.Place.{Place}
use Rattle.operation_defs.specs.declared.op.Op.{Op}
use Rattle.operation_defs.specs.declared.op.Op.TheVariants.{Stac, Clac, Popf}
use Rattle.machine_defs.specs.declared.flow.Edge.{Edge}
use Rattle.machine_defs.specs.declared.flow.EdgeKind.TheVariants.{Next, Sibling}
use Rattle.machine_defs.specs.declared.flow.Role.TheVariants.{CallIn, CallEither, CallOut, CallAny}
use Rattle.state_defs.specs.Rules.{call_rule}
use Rattle.machine_defs.specs.Program.{edge, is_call_op}
use Rattle.machine_defs.specs.Kept.{can_go}
use Rattle.machine_defs.specs.Broken.{IsBroken, always, unreachable, without_frame}
use Rattle.machine_defs.specs.Allowances.{is_safe}
use Rattle.machine_defs.specs.Access.{access_along, Reached, entered, hinted, called}
use Rattle.machine_defs.specs.Access as access
use Rattle.machine_defs.specs.AccessRules.{CallsUnsafe, Leaves, by_return, by_jump, AccessWarns}
use Rattle.machine_defs.specs.AccessRules as rules
use Rattle.machine_defs.specs.Asked.{is_indirect_branch, IsWarned, of_stack, indirect_branch, naked_return, of_access, IsClean}
use Rattle.machine_defs.specs.Asked as asked
use Rattle.unwinding_law.proofs.Elements.{each, none, one, two}
use Rattle.unwinding_law.proofs.Lists.{from_filter}
use Rattle.unwinding_law.proofs.WorkedProgram.{never, is_return, is_jump}
use Rattle.option_law.specs.Worked.{worked, allowed, options, state_of}
use Rattle.option_law.proofs.WorkedProgram.{along, role_there, no_jump, no_tail, which_entry, at_entry}
use Rattle.option_law.proofs.WorkedStates.{accepted, of_state, no_rule, no_leaving}

-- access where control comes to a point, and the home there
abbrev access_at : ℕ → Bool
access_at q = slice_index_or (false ∷ false ∷ true ∷ true ∷ true ∷ false ∷ false ∷ true ∷ []) q false

abbrev home_at : ℕ → Bool
home_at q = slice_index_or (false ∷ false ∷ false ∷ false ∷ false ∷ false ∷ false ∷ true ∷ []) q false

record IsThere (q : ℕ) (now home : Bool) : Type 0 where
  access : now ≡ access_at q
  at_home : home ≡ home_at q

-- along each edge that is followed
abbrev Follows : ℕ → Edge → Type 0
Follows q e = allowed.lacks_smap e.to ≡ false → (access_along e.kind (worked.insn q).op (access_at q) ≡ access_at e.to) × (home_at q ≡ home_at e.to)

follows : (q : ℕ) → All (Follows q) (worked.goes q)
follows = each (λ q. All (Follows q) (worked.goes q))
    (one (Follows 0) (edge 1 Next) (λ _. (refl, refl)))
    (two (Follows 1) (edge 2 Next) (edge 9 Next) (λ e. absurd (let k : ⊥ = cc in k)) (λ _. (refl, refl)))
    (one (Follows 2) (edge 3 Next) (λ _. (refl, refl)))
    (one (Follows 3) (edge 4 Next) (λ _. (refl, refl)))
    (one (Follows 4) (edge 5 Next) (λ _. (refl, refl)))
    (one (Follows 5) (edge 6 Next) (λ _. (refl, refl)))
    (none (Follows 6)) (none (Follows 7)) (none (Follows 8))
    (one (Follows 9) (edge 3 Next) (λ _. (refl, refl)))
    (none (Follows 10))
    (λ q. none (Follows (suc (suc (suc (suc (suc (suc (suc (suc (suc (suc (suc q)))))))))))))

reached : (q : ℕ) (now home : Bool) → Reached worked allowed q now home → IsThere q now home
reached q now home (entered q2 entry c d taken) = subst (λ (x : ℕ). IsThere x (is_safe worked allowed entry) (is_safe worked allowed entry)) (at_entry entry q c d) (at (which_entry entry c))
  where
    at : (0 ≡ entry) ⊎ (7 ≡ entry) → IsThere entry (is_safe worked allowed entry) (is_safe worked allowed entry)
    at (inl e) = subst (λ (x : ℕ). IsThere x (is_safe worked allowed x) (is_safe worked allowed x)) e (record { access = refl; at_home = refl })
    at (inr e) = subst (λ (x : ℕ). IsThere x (is_safe worked allowed x) (is_safe worked allowed x)) e (record { access = refl; at_home = refl })
reached q now home (hinted q2 point own free) = absurd (let k : ⊥ = cc in k)
reached q now home (called q2 point hint free taken) = absurd (let k : ⊥ = cc in k)
reached q now home (access.along a before home2 e r c other taken) =
    let h = reached a before home r in
    let f = along (Follows a) a (follows a) e (from_filter (λ (e : Edge). can_go worked a e.kind) (worked.goes a) e c).0 taken in
    record { access = ap (λ (x : Bool). access_along e.kind (worked.insn a).op x) h.access ∙ f.0; at_home = h.at_home ∙ f.1 }

-- what is called is safe
calls_safe : (q : ℕ) (callee : ℤ) → CallsUnsafe worked allowed q callee → ⊥
calls_safe q callee (rules.inside entry e n) = let k : CallIn entry ≡ CallIn 7 = role_there q (CallIn entry) refl e in let m : 7 ≡ entry = cc in let safe : is_safe worked allowed entry ≡ true = subst (λ (x : ℕ). is_safe worked allowed x ≡ true) m refl in cc
calls_safe q callee (rules.weak_inside entry symbol e n) = let k : CallEither entry symbol ≡ CallIn 7 = role_there q (CallEither entry symbol) refl e in cc
calls_safe q callee (rules.weak_outside entry symbol e n) = let k : CallEither entry symbol ≡ CallIn 7 = role_there q (CallEither entry symbol) refl e in cc
calls_safe q callee (rules.outside symbol e n) = let k : CallOut symbol ≡ CallIn 7 = role_there q (CallOut symbol) refl e in cc
calls_safe q callee (rules.jumps_outside symbol e n) = no_jump q (ap is_jump e)
calls_safe q callee (rules.tail_call r c n) = no_tail q r (from_filter (λ (e : Edge). can_go worked q e.kind) (worked.goes q) (edge r Sibling) c).0
calls_safe q callee (rules.indirect e) = let k : CallAny ≡ CallIn 7 = role_there q CallAny refl e in cc
calls_safe q callee (rules.jumps_anywhere e) = no_jump q (ap is_jump e)

-- where it leaves, access is as at home
left : (q : ℕ) → is_return (worked.role q) ≡ true → access_at q ≡ home_at q
left = each (λ q. is_return (worked.role q) ≡ true → access_at q ≡ home_at q) never never never never never never (λ _. refl) (λ _. refl) never never never (λ q. never)

leaves : (q : ℕ) → Leaves worked q → access_at q ≡ home_at q
leaves q (by_return e) = left q (ap is_return e)
leaves q (by_jump l) = absurd (no_leaving q l)

-- which instructions change it
abbrev is_stac : Op → Bool
is_stac Stac = true
is_stac _ = false

abbrev is_clac : Op → Bool
is_clac Clac = true
is_clac _ = false

abbrev is_popf : Op → Bool
is_popf Popf = true
is_popf _ = false

at_stac : (q : ℕ) → is_stac (worked.insn q).op ≡ true → access_at q ≡ false
at_stac = each (λ q. is_stac (worked.insn q).op ≡ true → access_at q ≡ false) never never never never never never never never (λ _. refl) (λ _. refl) never (λ q. never)

at_clac : (q : ℕ) → is_clac (worked.insn q).op ≡ true → (access_at q ≡ true) × (home_at q ≡ false)
at_clac = each (λ q. is_clac (worked.insn q).op ≡ true → (access_at q ≡ true) × (home_at q ≡ false)) never never never never (λ _. (refl, refl)) never never never never never never (λ q. never)

no_popf : (q : ℕ) → is_popf (worked.insn q).op ≡ true → ⊥
no_popf = each (λ q. is_popf (worked.insn q).op ≡ true → ⊥) never never never never never never never never never never never (λ q. never)

-- so no rule of user access is broken
keeps_access : (place : Place) (rule : ℕ) (a b : ℤ) → AccessWarns worked allowed place rule a b → ⊥
keeps_access place rule a b (rules.call_with_access q home callee r c) = calls_safe q callee c
keeps_access place rule a b (rules.return_with_access q r l) = let h = reached q true false r in let e : true ≡ false = h.access ∙ (leaves q l ∙ sym h.at_home) in cc
keeps_access place rule a b (rules.return_without_access q r l) = let h = reached q false true r in let e : false ≡ true = h.access ∙ (leaves q l ∙ sym h.at_home) in cc
keeps_access place rule a b (rules.on_twice q home r e) = let h = reached q true home r in let k : true ≡ false = h.access ∙ at_stac q (ap is_stac e) in cc
keeps_access place rule a b (rules.off_twice q owner r owned e) = let h = reached q false false r in let k : false ≡ true = h.access ∙ (at_clac q (ap is_clac e)).0 in cc
keeps_access place rule a b (rules.safe_turns_off q now r e) = let h = reached q now true r in let k : true ≡ false = h.at_home ∙ (at_clac q (ap is_clac e)).1 in cc
keeps_access place rule a b (rules.popf q home r e) = no_popf q (ap is_popf e)

-- its call has a frame, there is no indirect branch, and its returns are listed
call_framed : (q : ℕ) → is_call_op (worked.insn q).op ≡ true → IfSome (state_of q) (λ s. call_rule s ≡ None)
call_framed = each (λ q. is_call_op (worked.insn q).op ≡ true → IfSome (state_of q) (λ s. call_rule s ≡ None)) never never never (λ _. refl) never never never never never never never (λ q. never)

no_indirect : (q : ℕ) → is_indirect_branch (worked.insn q).op ≡ true → ⊥
no_indirect = each (λ q. is_indirect_branch (worked.insn q).op ≡ true → ⊥) never never never never never never never never never never never (λ q. never)

listed : (q : ℕ) → asked.is_return (worked.insn q).op ≡ true → allowed.safe_branch q ≡ true
listed = each (λ q. asked.is_return (worked.insn q).op ≡ true → allowed.safe_branch q ≡ true) never never never never never never (λ _. refl) (λ _. refl) never never never (λ q. never)

keeps_stack : (place : Place) (rule : ℕ) (a b : ℤ) → IsBroken worked options place rule a b → ⊥
keeps_stack place rule a b (always place2 rule2 a2 b2 w) = accepted _ _ _ _ w
keeps_stack place rule a b (unreachable q asked acc u) = cc
keeps_stack place rule a b (without_frame q s asked kept call other h) = no_rule 21 (call_rule s) (of_state (λ s. call_rule s ≡ None) q s kept (call_framed q call)) h

pub clean : IsClean worked allowed options
clean place rule a b (of_stack place2 rule2 a2 b2 broken) = keeps_stack place rule a b broken
clean place rule a b (indirect_branch q asked point branch n early) = no_indirect q branch
clean place rule a b (naked_return q asked point return n early) = let e = listed q return in cc
clean place rule a b (of_access place2 rule2 a2 b2 asked w) = keeps_access place rule a b w
