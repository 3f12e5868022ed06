-- The ways that lead on from a point: what stands right before a hint, and what code of no function may call, and how it may leave.
use Rattle.std.specs.Prelude.{◌≡◌, ℕ, ◌⊎◌, ◌&&◌, ◌||◌, not, Bool, true, false, Option, Some, None, is_none, is_some, Contains}
use Rattle.std.specs.List.{list_any, list_all}
use Rattle.operation_defs.specs.declared.op.Op.{Op}
use Rattle.operation_defs.specs.declared.op.Op.TheVariants.{RetImm}
use Rattle.machine_defs.specs.declared.flow.EdgeKind.{EdgeKind}
use Rattle.machine_defs.specs.declared.flow.EdgeKind.TheVariants.{Next, Taken, Fixup, Table, Sibling}
use Rattle.machine_defs.specs.declared.flow.Role.{Role}
use Rattle.machine_defs.specs.declared.flow.Role.TheVariants.{CallIn, Return, JumpOut, JumpAny}
use Rattle.state_defs.specs.declared.state.HintState.{HintState}
use Rattle.state_defs.specs.declared.state.HintState.TheVariants.{Set, Save, Restore}
use Rattle.state_defs.specs.Rules.{may_be_called}
use Rattle.machine_defs.specs.Program.{Program, IsPoint, Site, in_site, entry_points}
use Rattle.machine_defs.specs.MayReturn.{calls_outside, is_listed, target_may_return}
use Rattle.machine_defs.specs.Kept.{edges_of, is_free}

abbrev pub is_fixup : EdgeKind → Bool
is_fixup Next = false
is_fixup Taken = false
is_fixup Fixup = true
is_fixup Table = false
is_fixup Sibling = false

abbrev pub is_next : EdgeKind → Bool
is_next Next = true
is_next Taken = false
is_next Fixup = false
is_next Table = false
is_next Sibling = false

abbrev pub is_sibling : EdgeKind → Bool
is_sibling Next = false
is_sibling Taken = false
is_sibling Fixup = false
is_sibling Table = false
is_sibling Sibling = true

-- A point is right before a hint: it has edges besides those to fixups, and at each point to which these lead a hint sets or
-- restores the state. No instruction comes in between, so what the point leaves in rsp is what the hint tells.
abbrev pub is_before_hint : Program → ℕ → Bool
is_before_hint p q =
    list_any (λ e. not (is_fixup e.kind)) (edges_of p q)
    && list_all (λ e. is_fixup e.kind || not (is_free (p.hint e.to))) (edges_of p q)

-- whether a hint tells a call frame, or ends the stack
abbrev pub is_call_hint : Option HintState → Bool
is_call_hint None = false
is_call_hint (Some (Set state)) = may_be_called state
is_call_hint (Some Save) = false
is_call_hint (Some Restore) = false

-- A point may call a place, though no function starts there: the point is of no function, or of a checked one and names what it
-- calls; the place is in no site, past its start; and wherever control may stand that comes to it, there is code of no function,
-- and a hint tells a call frame, or ends the stack (CALL, FUNC, UNDEFINED or END_OF_STACK).
pub record MayCall (p : Program) (q entry : ℕ) : Type 0 where
  pub point : IsPoint p entry
  pub plain : p.variant entry ≡ 0
  pub caller : (p.owner q ≡ None) ⊎ ((p.unchecked q ≡ false) × (is_some (p.names q) ≡ true))
  pub of_none : p.owner entry ≡ None
  pub at_start : (site : Site) → Contains p.sites site → in_site site (p.place entry) ≡ true → site.start ≡ p.place entry
  pub hinted : (r : ℕ) → Contains (entry_points p entry) r → (p.owner r ≡ None) × (is_call_hint (p.hint r) ≡ true)

-- Whether a call of the program's own code may come back as one of code outside does: a call of loose code, or a function's call of
-- code of no function, whose target may return. Premise *calls of loose code come back*: such a call comes back right behind
-- itself with rsp, rbp, user access and protected slots as they were; of code of no function the same is asked as of code outside.
abbrev pub comes_back_as_outside : Program → ℕ → Role → Bool
comes_back_as_outside p q (CallIn entry) = (p.loose entry || (is_some (p.owner q) && is_none (p.owner entry))) && target_may_return p q
comes_back_as_outside p q _ = false

-- whether control may come back behind a call without a return of the program's own: from code outside, or as from there
abbrev pub may_call_out : Program → ℕ → Bool
may_call_out p q = not (is_listed p q) && (calls_outside (p.role q) || comes_back_as_outside p q (p.role q))

-- whether a role leads out of a function: back to the caller, or to code outside
abbrev pub leads_out : Role → Bool
leads_out Return = true
leads_out (JumpOut sym) = true
leads_out JumpAny = true
leads_out _ = false

abbrev pub drops_bytes : Op → Bool
drops_bytes RetImm = true
drops_bytes _ = false

-- A jump is joined: it names a symbol, leads to the entry of another function, and nowhere else but to what follows it. Before
-- objects were joined it was a jump to code outside.
abbrev pub is_joined : Program → ℕ → Bool
is_joined p q =
    is_some (p.names q)
    && (list_any (λ e. is_sibling e.kind) (edges_of p q)
    && list_all (λ e. is_sibling e.kind || is_next e.kind) (edges_of p q))

-- a point returns or jumps outside; it drops no bytes as it returns; and it jumps to no function of the program
abbrev pub leads_outside : Program → ℕ → Bool
leads_outside p q =
    leads_out (p.role q)
    && (not (drops_bytes (p.insn q).op)
    && not (list_any (λ e. is_sibling e.kind) (edges_of p q)))

-- Code may leave, whatever its stack is: it is of no function, or loose; and it leads outside, or is a joined jump.
abbrev pub may_leave : Program → ℕ → Bool
may_leave p q = (is_none (p.owner q) || p.loose q) && (leads_outside p q || is_joined p q)
