-- The warnings that are found at points are those of user access.
use Rattle.std.proofs.Common.{◌≡◌, ◌↔◌, ℕ, ◌⊎◌, inl, inr, Bool, true, false, ◌||◌, List, Option, Some, None, IsSome, Contains, ℤ, pos, negsuc, refl, sym, subst}
use Rattle.std.specs.List.{list_any}
use Rattle.ot_base.specs.declared.place.Place.{Place}
use Rattle.ot_base.specs.declared.warning.Warning.{Warning}
use Rattle.ot_base.specs.Warnings.{numbered_warning}
use Rattle.machine_defs.specs.declared.flow.Edge.{Edge}
use Rattle.machine_defs.specs.declared.flow.EdgeKind.{EdgeKind}
use Rattle.machine_defs.specs.declared.flow.EdgeKind.TheVariants.{Next, Taken, Fixup, Table, Sibling}
use Rattle.machine_defs.specs.declared.flow.Role.{Role}
use Rattle.machine_defs.specs.declared.flow.Role.TheVariants.{Plain, CallIn, CallEither, CallOut, CallAny, Return, JumpOut, JumpAny, Switch}
use Rattle.machine_defs.specs.Program.{Program, edge}
use Rattle.machine_defs.specs.Kept.{edges_of}
use Rattle.machine_defs.specs.Broken.{LeavesByJump}
use Rattle.unwinding_law.proofs.Lists.{find_one, found}
use Rattle.machine_defs.specs.Allowances.{Allowances}
use Rattle.machine_defs.specs.AccessRules.{function_number, AccessWarns, CallsUnsafe, Leaves}
use Rattle.program_graph.specs.declared.parts.GraphParts.{GraphParts}
use Rattle.program_check.specs.declared.allowance_table.AllowanceTable.{AllowanceTable}
use Rattle.stack_rules.proofs.GainsLemmas.{OfBelow}
use Rattle.program_check.specs.declared.access_ways.Ways.{Ways}
use Rattle.program_check.specs.Tracks.{Tracks}
use Rattle.program_check.specs.Ways.{ways_at}
use Rattle.program_check.specs.Search.{AreReached, visit}
use Rattle.program_check.specs.Exits.{is_sibling, is_way_out}
use Rattle.program_check.specs.PointWarns.{CallWarns, EdgeCalls, EdgesCall, ExitWarns, IsAccessWarning, OperationWarns, PointWarns, RoleCalls, callee_warning}
use Rattle.program_check.proofs.Following.{reached_point}

-- what a point calls, by its role and by its edges
module _ (p : Program) (allowed : Allowances) (q : ℕ) (w : Warning) where
  role_calls : (role : Role) → p.role q ≡ role → RoleCalls p allowed (p.place q) role w → CallWarns p allowed q w
  role_calls Plain r h = absurd h
  role_calls (CallIn entry) r (unsafe, e) = (function_number (p.function entry), CallsUnsafe.inside entry r unsafe, e)
  role_calls (CallEither entry sym) r (inl (unsafe, e)) = (function_number (p.function entry), CallsUnsafe.weak_inside entry sym r unsafe, e)
  role_calls (CallEither entry sym) r (inr (unsafe, e)) = (pos sym, CallsUnsafe.weak_outside entry sym r unsafe, e)
  role_calls (CallOut sym) r (unsafe, e) = (pos sym, CallsUnsafe.outside sym r unsafe, e)
  role_calls CallAny r e = (negsuc 0, CallsUnsafe.indirect r, e)
  role_calls Return r h = absurd h
  role_calls (JumpOut sym) r (unsafe, e) = (pos sym, CallsUnsafe.jumps_outside sym r unsafe, e)
  role_calls JumpAny r e = (negsuc 0, CallsUnsafe.jumps_anywhere r, e)
  role_calls Switch r h = absurd h

  edge_calls : (e : Edge) → Contains (edges_of p q) e → EdgeCalls p allowed (p.place q) e w → CallWarns p allowed q w
  edge_calls e c (kind, (unsafe, same)) = (function_number (p.function e.to), CallsUnsafe.tail_call e.to (subst (λ (k : EdgeKind). Contains (edges_of p q) (edge e.to k)) kind c) unsafe, same)

  by_role : (role : Role) → p.role q ≡ role → RoleCalls p allowed (p.place q) role w → RoleCalls p allowed (p.place q) (p.role q) w ⊎ EdgesCall p allowed q w
  by_role role r h = inl (subst (λ (x : Role). RoleCalls p allowed (p.place q) x w) (sym r) h)

  calls_unsafe : (callee : ℤ) → CallsUnsafe p allowed q callee → w ≡ callee_warning (p.place q) callee → RoleCalls p allowed (p.place q) (p.role q) w ⊎ EdgesCall p allowed q w
  calls_unsafe _ (CallsUnsafe.inside entry r unsafe) e = by_role (CallIn entry) r (unsafe, e)
  calls_unsafe _ (CallsUnsafe.weak_inside entry sym r unsafe) e = by_role (CallEither entry sym) r (inl (unsafe, e))
  calls_unsafe _ (CallsUnsafe.weak_outside entry sym r unsafe) e = by_role (CallEither entry sym) r (inr (unsafe, e))
  calls_unsafe _ (CallsUnsafe.outside sym r unsafe) e = by_role (CallOut sym) r (unsafe, e)
  calls_unsafe _ (CallsUnsafe.jumps_outside sym r unsafe) e = by_role (JumpOut sym) r (unsafe, e)
  calls_unsafe _ (CallsUnsafe.tail_call r c unsafe) e = inr (edge r Sibling, c, (refl, (unsafe, e)))
  calls_unsafe _ (CallsUnsafe.indirect r) e = by_role CallAny r e
  calls_unsafe _ (CallsUnsafe.jumps_anywhere r) e = by_role JumpAny r e

  pub calls_are : (RoleCalls p allowed (p.place q) (p.role q) w ⊎ EdgesCall p allowed q w) ↔ CallWarns p allowed q w
  calls_are = (λ k. elim k [ inl h ↦ role_calls (p.role q) refl h | inr h ↦ edge_calls h.0 h.1 h.2 ], λ h. calls_unsafe h.0 h.1 h.2)

-- how a point leaves its function
module _ (p : Program) (q : ℕ) where
  sibling_kind : (k : EdgeKind) → is_sibling k ≡ true → k ≡ Sibling
  sibling_kind Next e = absurd (let z : ⊥ = cc in z)
  sibling_kind Taken e = absurd (let z : ⊥ = cc in z)
  sibling_kind Fixup e = absurd (let z : ⊥ = cc in z)
  sibling_kind Table e = absurd (let z : ⊥ = cc in z)
  sibling_kind Sibling e = refl

  by_way_out : (role : Role) → p.role q ≡ role → is_way_out role ≡ true → Leaves p q
  by_way_out Plain r e = absurd (let z : ⊥ = cc in z)
  by_way_out (CallIn entry) r e = absurd (let z : ⊥ = cc in z)
  by_way_out (CallEither entry sym) r e = absurd (let z : ⊥ = cc in z)
  by_way_out (CallOut sym) r e = absurd (let z : ⊥ = cc in z)
  by_way_out CallAny r e = absurd (let z : ⊥ = cc in z)
  by_way_out Return r e = Leaves.by_return r
  by_way_out (JumpOut sym) r e = Leaves.by_jump (LeavesByJump.outside sym r)
  by_way_out JumpAny r e = Leaves.by_jump (LeavesByJump.anywhere r)
  by_way_out Switch r e = absurd (let z : ⊥ = cc in z)

  by_edge : list_any (λ (e : Edge). is_sibling e.kind) (edges_of p q) ≡ true → Leaves p q
  by_edge h =
      let e = find_one (λ (e : Edge). is_sibling e.kind) (edges_of p q) h in
      Leaves.by_jump (LeavesByJump.sibling (e.0).to (subst (λ (k : EdgeKind). Contains (edges_of p q) (edge (e.0).to k)) (sibling_kind (e.0).kind e.2) e.1))

  one_holds : (a b : Bool) → (a || b) ≡ true → a ≡ true ⊎ b ≡ true
  one_holds true b e = inl refl
  one_holds false b e = inr e

  first_holds : (a b : Bool) → a ≡ true → (a || b) ≡ true
  first_holds true b e = refl
  first_holds false b e = absurd (let z : ⊥ = cc in z)

  second_holds : (a b : Bool) → b ≡ true → (a || b) ≡ true
  second_holds true b e = refl
  second_holds false b e = e

  abbrev leaves_by : Bool
  leaves_by = is_way_out (p.role q) || list_any (λ (e : Edge). is_sibling e.kind) (edges_of p q)

  role_leaves : (role : Role) → p.role q ≡ role → is_way_out role ≡ true → is_way_out (p.role q) ≡ true
  role_leaves role r h = subst (λ (x : Role). is_way_out x ≡ true) (sym r) h

  leaving : Leaves p q → leaves_by ≡ true
  leaving (Leaves.by_return r) = first_holds _ _ (role_leaves Return r refl)
  leaving (Leaves.by_jump (LeavesByJump.sibling r c)) = second_holds (is_way_out (p.role q)) _ (found (λ (e : Edge). is_sibling e.kind) (edges_of p q) (edge r Sibling) c refl)
  leaving (Leaves.by_jump (LeavesByJump.outside sym r)) = first_holds _ _ (role_leaves (JumpOut sym) r refl)
  leaving (Leaves.by_jump (LeavesByJump.anywhere r)) = first_holds _ _ (role_leaves JumpAny r refl)

  leaves_are : (leaves_by ≡ true) ↔ Leaves p q
  leaves_are = (λ h. elim (one_holds _ _ h) [ inl a ↦ by_way_out (p.role q) refl a | inr b ↦ by_edge b ], leaving)

  -- by what is known of its role and of its edges
  pub leaves_by_tests : (a b : Bool) → is_way_out (p.role q) ≡ a → list_any (λ (e : Edge). is_sibling e.kind) (edges_of p q) ≡ b → ((a || b) ≡ true) ↔ Leaves p q
  leaves_by_tests a b one two = subst (λ (x : Bool). ((x || b) ≡ true) ↔ Leaves p q) one (subst (λ (x : Bool). ((is_way_out (p.role q) || x) ≡ true) ↔ Leaves p q) two leaves_are)

-- what is there is something
owned : (owner : Option ℕ) → IsSome owner → (function : ℕ) × (owner ≡ Some function)
owned (Some function) some = (function, refl)
owned None some = absurd (let z : ⊥ = cc in z)

-- what is found at all points
module _ (p : Program) (allowed : Allowances) (parts : GraphParts) (table : AllowanceTable) (tracks : Tracks p allowed parts table) (ways : List Ways) (are : AreReached p allowed ways) where
  abbrev pub IsFoundAtPoint : Warning → Type 0
  IsFoundAtPoint w = OfBelow p.count (λ q. PointWarns p allowed (ways_at ways q) q) w

  as_one : (v w : Warning) → w ≡ v → IsAccessWarning p allowed v → IsAccessWarning p allowed w
  as_one v w e h = subst (λ (x : Warning). IsAccessWarning p allowed x) (sym e) h

  exit_warns : (q : ℕ) (w : Warning) → ExitWarns p (ways_at ways q) q w → IsAccessWarning p allowed w
  exit_warns q w (inl ((f, leaves), e)) = as_one _ w e (AccessWarns.return_with_access q ((are (visit q true false)).0 f) leaves)
  exit_warns q w (inr ((f, leaves), e)) = as_one _ w e (AccessWarns.return_without_access q ((are (visit q false true)).0 f) leaves)

  operation_warns : (q : ℕ) (w : Warning) → OperationWarns (p.place q) (p.insn q).op (p.owner q) (ways_at ways q) w → IsAccessWarning p allowed w
  operation_warns q w (inl ((op, (home, f)), e)) = as_one _ w e (AccessWarns.on_twice q home ((are (visit q true home)).0 f) op)
  operation_warns q w (inr (inl ((op, f, some), e))) = let of = owned (p.owner q) some in as_one _ w e (AccessWarns.off_twice q of.0 ((are (visit q false false)).0 f) of.1 op)
  operation_warns q w (inr (inr (inl ((op, (access, f)), e)))) = as_one _ w e (AccessWarns.safe_turns_off q access ((are (visit q access true)).0 f) op)
  operation_warns q w (inr (inr (inr ((op, (home, f)), e)))) = as_one _ w e (AccessWarns.popf q home ((are (visit q true home)).0 f) op)

  point_warns : (q : ℕ) (w : Warning) → PointWarns p allowed (ways_at ways q) q w → IsAccessWarning p allowed w
  point_warns q w (inl ((home, f), (callee, calls, e))) = as_one _ w e (AccessWarns.call_with_access q home callee ((are (visit q true home)).0 f) calls)
  point_warns q w (inr (inl h)) = exit_warns q w h
  point_warns q w (inr (inr h)) = operation_warns q w h

  access_found : (place : Place) (rule : ℕ) (a b : ℤ) → AccessWarns p allowed place rule a b → IsFoundAtPoint (numbered_warning place rule a b)
  access_found _ _ _ _ (AccessWarns.call_with_access q home callee r calls) = (q, reached_point p allowed parts table tracks q true home r, inl ((home, (are (visit q true home)).1 r), (callee, calls, refl)))
  access_found _ _ _ _ (AccessWarns.return_with_access q r leaves) = (q, reached_point p allowed parts table tracks q true false r, inr (inl (inl (((are (visit q true false)).1 r, leaves), refl))))
  access_found _ _ _ _ (AccessWarns.return_without_access q r leaves) = (q, reached_point p allowed parts table tracks q false true r, inr (inl (inr (((are (visit q false true)).1 r, leaves), refl))))
  access_found _ _ _ _ (AccessWarns.on_twice q home r op) = (q, reached_point p allowed parts table tracks q true home r, inr (inr (inl ((op, (home, (are (visit q true home)).1 r)), refl))))
  access_found _ _ _ _ (AccessWarns.off_twice q owner r of op) = (q, reached_point p allowed parts table tracks q false false r, inr (inr (inr (inl ((op, (are (visit q false false)).1 r, subst IsSome (sym of) refl), refl)))))
  access_found _ _ _ _ (AccessWarns.safe_turns_off q access r op) = (q, reached_point p allowed parts table tracks q access true r, inr (inr (inr (inr (inl ((op, (access, (are (visit q access true)).1 r)), refl))))))
  access_found _ _ _ _ (AccessWarns.popf q home r op) = (q, reached_point p allowed parts table tracks q true home r, inr (inr (inr (inr (inr ((op, (home, (are (visit q true home)).1 r)), refl))))))

  pub found_are_warned : (w : Warning) → IsFoundAtPoint w ↔ IsAccessWarning p allowed w
  found_are_warned w = (λ (q, l, h). point_warns q w h, λ h. access_found w.place w.rule w.a w.b h)
