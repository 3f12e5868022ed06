-- From which points of a program a return may come, by levels.
use Rattle.std.specs.Prelude.{ℕ, zero, suc, ◌&&◌, ◌||◌, not, Bool, false}
use Rattle.std.specs.List.{list_any}
use Rattle.machine_defs.specs.Step.{may_go_back}
use Rattle.machine_defs.specs.declared.flow.Edge.{Edge}
use Rattle.machine_defs.specs.declared.flow.Role.{Role}
use Rattle.machine_defs.specs.declared.flow.Role.TheVariants.{CallIn}
use Rattle.machine_defs.specs.Program.{Program, entry_points, is_call}
use Rattle.machine_defs.specs.MayReturn.{is_listed, may_return_outright}
use Rattle.machine_defs.specs.Ways.{is_next}

-- a call goes to code of the program from which a return may come, where some points are known from which one may
abbrev pub callee_returns : Program → (ℕ → Bool) → Role → Bool
callee_returns p known (CallIn entry) = list_any known (entry_points p entry)
callee_returns p known role = false

-- the call may return: whatever the code of the program does, or by its callee, where it isn't listed
abbrev pub call_returns : Program → (ℕ → Bool) → ℕ → Bool
call_returns p known q = may_return_outright p q || (callee_returns p known (p.role q) && not (is_listed p q))

-- execution goes along the edge to a point from which a return may come: by any edge but a call's Next, and by that where the
-- call is no dead end and its target may return
abbrev pub leads_to_return : Program → (ℕ → Bool) → ℕ → Edge → Bool
leads_to_return p known q e =
    known e.to
    && (not (is_next e.kind)
    || (not (is_call (p.role q))
    || (not (p.dead_end q) && call_returns p known q)))

abbrev pub returns_by : Program → (ℕ → Bool) → ℕ → Bool
returns_by p known q = may_go_back p (p.role q) || list_any (leads_to_return p known q) (p.goes q)

-- within this many levels: at first none; then each point that may go back to the caller, or leads to one of the level before
abbrev pub returns_within : Program → ℕ → ℕ → Bool
returns_within p zero q = false
returns_within p (suc n) q = returns_by p (returns_within p n) q

-- at last: there are no more levels than points
unfoldable pub returns_at_last : Program → ℕ → Bool
returns_at_last p q = returns_within p p.count q
