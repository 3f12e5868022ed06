-- Each reason for a warning that an option asks for.
use Rattle.std.proofs.Common.{◌≢◌, true, false, ◌≡◌, ℕ, zero, suc, ◌∷◌, [], None, Contains, pos, refl, subst, inr, arith, lit<}
use Rattle.ot_base.specs.declared.rules.TheConstants.{ACCESS_OFF_TWICE, POPF_WITH_ACCESS_TRACKED}
use Rattle.machine_defs.specs.declared.flow.EdgeKind.TheVariants.{Next, Sibling}
use Rattle.machine_defs.specs.Program.{Site, in_site, edge}
use Rattle.machine_defs.specs.Ways.{is_call_hint, MayCall}
use Rattle.machine_defs.specs.Worked.{at}
use Rattle.machine_defs.specs.Access.{Reached, entered, called, along}
use Rattle.machine_defs.specs.AccessRules.{by_return, inside}
use Rattle.machine_defs.specs.AccessRules as rules
use Rattle.machine_defs.specs.Asked.{indirect_branch, naked_return}
use Rattle.machine_defs.proofs.WorkedAccessOff.{off_in_no_function, popf_off}
use Rattle.machine_defs.specs.WorkedAccess.{site, accessed, one_safe, WarnsWhereAsked}

next_is_within : Next ≢ Sibling
next_is_within e = cc

-- the first function turns user access on
at_first : Reached accessed one_safe 0 false false
at_first = entered 0 0 (0, lit< tt, refl) (0, lit< tt, refl) refl

turned_on : Reached accessed one_safe 1 true false
turned_on = along 0 false false (edge 1 Next) at_first (0, lit< tt, refl) next_is_within refl

at_popf : Reached accessed one_safe 2 true false
at_popf = along 1 true false (edge 2 Next) turned_on (0, lit< tt, refl) next_is_within refl

at_call : Reached accessed one_safe 3 true false
at_call = along 2 true false (edge 3 Next) at_popf (0, lit< tt, refl) next_is_within refl

at_return : Reached accessed one_safe 4 true false
at_return = along 3 true false (edge 4 Next) at_call (0, lit< tt, refl) next_is_within refl

-- the second is entered with user access on, and turns it off
at_second : Reached accessed one_safe 5 true true
at_second = entered 5 5 (1, lit< tt, refl) (0, lit< tt, refl) refl

turned_off : Reached accessed one_safe 6 false true
turned_off = along 5 true true (edge 6 Next) at_second (0, lit< tt, refl) next_is_within refl

at_third : Reached accessed one_safe 7 false false
at_third = entered 7 7 (2, lit< tt, refl) (0, lit< tt, refl) refl

-- a place of no function may be called by a symbol's name, at a site's start
at_start : (one : Site) → Contains (site ∷ []) one → in_site one (at 11) ≡ true → one.start ≡ at 11
at_start one (zero, below, is) within = subst (λ (x : Site). x.start ≡ at 11) is refl
at_start one (suc k, below, is) within = absurd (omega (arith, below))

told_there : (r : ℕ) → Contains (11 ∷ 12 ∷ []) r → (accessed.owner r ≡ None) × (is_call_hint (accessed.hint r) ≡ true)
told_there r (zero, below, is) = subst (λ (q : ℕ). (accessed.owner q ≡ None) × (is_call_hint (accessed.hint q) ≡ true)) is (refl, refl)
told_there r (suc zero, below, is) = subst (λ (q : ℕ). (accessed.owner q ≡ None) × (is_call_hint (accessed.hint q) ≡ true)) is (refl, refl)
told_there r (suc (suc k), below, is) = absurd (omega (arith, below))

may_call : MayCall accessed 3 11
may_call = record { point = lit< tt; plain = refl; caller = inr (refl, refl); of_none = refl; at_start = at_start; hinted = told_there }

-- control that comes there turns it on in the replacement
turned_on_there : Reached accessed one_safe 13 true false
turned_on_there = along 12 false false (edge 13 Next) (called 12 (lit< tt) refl refl refl) (0, lit< tt, refl) next_is_within refl

pub warns_where_asked : WarnsWhereAsked
warns_where_asked = record {
  on_twice = rules.on_twice 1 false turned_on refl;
  may_call = may_call;
  on_twice_called = rules.on_twice 13 false turned_on_there refl;
  call_with_access = rules.call_with_access 3 false _ at_call (inside 7 refl refl);
  return_with_access = rules.return_with_access 4 at_return (by_return refl);
  safe_turns_off = rules.safe_turns_off 5 true at_second refl;
  return_without_access = rules.return_without_access 6 turned_off (by_return refl);
  off_twice = rules.off_twice 7 7 at_third refl refl;
  off_in_no_function = off_in_no_function (at 11) ACCESS_OFF_TWICE (pos 0) (pos 0) refl refl;
  popf = rules.popf 2 false at_popf refl;
  popf_off = popf_off (at 8) POPF_WITH_ACCESS_TRACKED (pos 0) (pos 0) refl refl;
  indirect_branch = indirect_branch 9 refl (lit< tt) refl refl refl;
  naked_return = naked_return 10 refl (lit< tt) refl refl refl;
}
