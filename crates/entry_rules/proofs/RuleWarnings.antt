-- The warnings of all rules together are those that the definition tells.
use Rattle.std.proofs.Common.{◌≡◌, ◌↔◌, ℕ, true, List, [], ◌⊎◌, inl, inr, Contains, ℤ, refl, sym, ap, subst}
use Rattle.ot_base.specs.declared.place.Place.{Place}
use Rattle.ot_base.specs.declared.warning.Warning.{Warning}
use Rattle.ot_base.specs.Warnings.{numbered_warning}
use Rattle.machine_defs.specs.declared.flow.Edge.{Edge}
use Rattle.machine_defs.specs.declared.flow.EdgeKind.{EdgeKind}
use Rattle.machine_defs.specs.declared.flow.EdgeKind.TheVariants.{Sibling}
use Rattle.machine_defs.specs.declared.flow.Role.{Role}
use Rattle.machine_defs.specs.declared.flow.Role.TheVariants as roles
use Rattle.machine_defs.specs.Program.{Program, edge}
use Rattle.machine_defs.specs.IsProgram.{IsProgram}
use Rattle.machine_defs.specs.Kept.{edges_of}
use Rattle.unwinding_law.proofs.Lists.{nowhere}
use Rattle.stack_rules.specs.Gains.{Gains}
use Rattle.entry_rules.specs.declared.options.EntryOptions.{EntryOptions}
use Rattle.entry_rules.specs.EntryWarns.{EntryWarns, IsClean, LeavesNoinstr, bare_jump, bare_return, calls, calls_anywhere, calls_outside, calls_weak, calls_weak_outside, jumps, jumps_anywhere, jumps_outside, leaves_noinstr, taken_bare}
use Rattle.entry_rules.specs.Facts.{EntryFacts}
use Rattle.entry_rules.specs.PointWarns.{BareWarns, EdgesLeave, LeavingWarns, RoleLeaves, TakenWarns, callee_warning}

module _ (p : Program) (facts : EntryFacts) (q : ℕ) where
  -- Rule 51 at a point, by its role and its edges.

  ByParts : Warning → Type 0
  ByParts w = RoleLeaves p facts (p.place q) (p.role q) w ⊎ EdgesLeave p facts q w

  leaves_by : (callee : ℤ) (w : Warning) → LeavesNoinstr p facts q callee → w ≡ callee_warning (p.place q) callee → ByParts w
  unfolding ByParts
  leaves_by _ w (calls entry role out) e = inl (subst (λ (r : Role). RoleLeaves p facts (p.place q) r w) (sym role) (out, e))
  leaves_by _ w (calls_weak entry s role out) e = inl (subst (λ (r : Role). RoleLeaves p facts (p.place q) r w) (sym role) (inl (out, e)))
  leaves_by _ w (calls_weak_outside entry s role) e = inl (subst (λ (r : Role). RoleLeaves p facts (p.place q) r w) (sym role) (inr e))
  leaves_by _ w (calls_outside s role) e = inl (subst (λ (r : Role). RoleLeaves p facts (p.place q) r w) (sym role) e)
  leaves_by _ w (calls_anywhere role) e = inl (subst (λ (r : Role). RoleLeaves p facts (p.place q) r w) (sym role) e)
  leaves_by _ w (jumps r along out) e = inr (edge r Sibling, along, (refl, (out, e)))
  leaves_by _ w (jumps_outside s role) e = inl (subst (λ (r : Role). RoleLeaves p facts (p.place q) r w) (sym role) e)
  leaves_by _ w (jumps_anywhere role) e = inl (subst (λ (r : Role). RoleLeaves p facts (p.place q) r w) (sym role) e)

  Leaves : Warning → Type 0
  Leaves w = (callee : ℤ) × LeavesNoinstr p facts q callee × w ≡ callee_warning (p.place q) callee

  by_role : (role : Role) (w : Warning) → p.role q ≡ role → RoleLeaves p facts (p.place q) role w → Leaves w
  unfolding Leaves
  by_role (roles.CallIn entry) w e h = (_, calls entry e h.0, h.1)
  by_role (roles.CallEither entry s) w e (inl h) = (_, calls_weak entry s e h.0, h.1)
  by_role (roles.CallEither entry s) w e (inr h) = (_, calls_weak_outside entry s e, h)
  by_role (roles.CallOut s) w e h = (_, calls_outside s e, h)
  by_role roles.CallAny w e h = (_, calls_anywhere e, h)
  by_role (roles.JumpOut s) w e h = (_, jumps_outside s e, h)
  by_role roles.JumpAny w e h = (_, jumps_anywhere e, h)
  by_role roles.Plain w e h = absurd h
  by_role roles.Return w e h = absurd h
  by_role roles.Switch w e h = absurd h

  by_edge : (w : Warning) → EdgesLeave p facts q w → Leaves w
  unfolding Leaves
  by_edge w (e, along, (kind, h)) =
      let is : e ≡ edge e.to Sibling = ap (λ (k : EdgeKind). edge e.to k) kind in
      (_, jumps e.to (subst (λ (x : Edge). Contains (edges_of p q) x) is along) h.0, h.1)

  pub point_leaves : (w : Warning) → (RoleLeaves p facts (p.place q) (p.role q) w ⊎ EdgesLeave p facts q w) ↔ ((callee : ℤ) × LeavesNoinstr p facts q callee × w ≡ callee_warning (p.place q) callee)
  unfolding ByParts Leaves
  point_leaves w = (λ h. from h, λ (callee, h, e). leaves_by callee w h e)
    where
      from : RoleLeaves p facts (p.place q) (p.role q) w ⊎ EdgesLeave p facts q w → (callee : ℤ) × LeavesNoinstr p facts q callee × w ≡ callee_warning (p.place q) callee
      from (inl h) = by_role (p.role q) w refl h
      from (inr h) = by_edge w h

module _ (p : Program) (facts : EntryFacts) (options : EntryOptions) where
  -- the warnings of each rule that is asked for
  abbrev pub AskedWarns : Warning → Type 0
  AskedWarns w =
      (options.noinstr ≡ true × LeavingWarns p facts w)
      ⊎ ((options.sls ≡ true × BareWarns p w)
      ⊎ (options.ibt ≡ true × TakenWarns p facts w))

  abbrev IsWarned : Warning → Type 0
  IsWarned w = EntryWarns p facts options w.place w.rule w.a w.b

  from_rules : (w : Warning) → AskedWarns w → IsWarned w
  from_rules w (inl (asked, (q, point, (inside, (callee, h, e))))) = subst (λ (x : Warning). IsWarned x) (sym e) (leaves_noinstr q callee asked point inside h)
  from_rules w (inr (inl (asked, (q, point, inl ((op, none), e))))) = subst (λ (x : Warning). IsWarned x) (sym e) (bare_return q asked point op none)
  from_rules w (inr (inl (asked, (q, point, inr ((op, none), e))))) = subst (λ (x : Warning). IsWarned x) (sym e) (bare_jump q asked point op none)
  from_rules w (inr (inr (asked, (q, point, (entry, comes, taken, other, e))))) = subst (λ (x : Warning). IsWarned x) (sym e) (taken_bare entry q asked comes.0 taken comes.1 other)

  by_rules : IsProgram p → (place : Place) (rule : ℕ) (a b : ℤ) → EntryWarns p facts options place rule a b → AskedWarns (numbered_warning place rule a b)
  by_rules is _ _ _ _ (leaves_noinstr q callee asked point inside h) = inl (asked, (q, point, (inside, (callee, h, refl))))
  by_rules is _ _ _ _ (bare_return q asked point op none) = inr (inl (asked, (q, point, inl ((op, none), refl))))
  by_rules is _ _ _ _ (bare_jump q asked point op none) = inr (inl (asked, (q, point, inr ((op, none), refl))))
  by_rules is _ _ _ _ (taken_bare entry q asked listed taken arrives other) = inr (inr (asked, (q, is.arrivals (p.place entry) q arrives, (entry, (listed, arrives), taken, other, refl))))

  pub all_warned : (all : List Warning) → IsProgram p → Gains [] all AskedWarns → (w : Warning) → Contains all w ↔ IsWarned w
  all_warned all is gains w = (λ c. from ((gains w).0 c), λ h. (gains w).1 (inr (by_rules is w.place w.rule w.a w.b h)))
    where
      from : Contains [] w ⊎ AskedWarns w → IsWarned w
      from (inl c) = absurd (nowhere w c)
      from (inr h) = from_rules w h

  pub none_is_clean : (all : List Warning) → all ≡ [] → ((w : Warning) → Contains all w ↔ IsWarned w) → IsClean p facts options
  none_is_clean all e are place rule a b h =
      let w = numbered_warning place rule a b in
      nowhere w (subst (λ (xs : List Warning). Contains xs w) e ((are w).1 h))
