-- What is known of a program that a check may be asked of.
use Rattle.std.proofs.Common.{◌≡◌, ◌||◌, Bool, true, false, List, Option, Some, None, IfSome, length, ◌∙◌, refl, inl, inr}
use Rattle.ot_base.specs.declared.options.Options.{Options}
use Rattle.ot_base.specs.declared.warning.Warning.{Warning}
use Rattle.state_defs.specs.declared.state.State.{State}
use Rattle.machine_defs.specs.Program.{Program}
use Rattle.machine_defs.specs.Allowances.{Allowances}
use Rattle.program_graph.specs.declared.parts.GraphParts.{GraphParts}
use Rattle.program_check.specs.declared.allowance_table.AllowanceTable.{AllowanceTable}
use Rattle.program_check.specs.Tracks.{Tracks}
use Rattle.program_check.specs.AskedRules.{AskedWarns, HasLengths, IsTracked, needs_allowances}
use Rattle.program_check.specs.OptionVerdict.{IsAskable}

pub tracked : (p : Program) (allowed : Allowances) (parts : GraphParts) (states : List (Option State)) (table : Option AllowanceTable) → IsAskable p allowed parts states table → IsTracked p allowed parts table
tracked p allowed parts states table is = record { tells = is.checkable.tells; is_program = is.checkable.is_program; functions = is.functions; allows = is.allows }

-- a table that tells what is allowed has something for each point
pub lengths : (p : Program) (allowed : Allowances) (parts : GraphParts) (table : Option AllowanceTable) → IsTracked p allowed parts table → IfSome table (λ t. HasLengths t (length parts.points.items))
lengths p allowed parts None is = is.allows
lengths p allowed parts (Some table) is = (is.allows.branches_long ∙ is.tells.count, is.allows.before_long ∙ is.tells.count, is.allows.smap_long ∙ is.tells.count)

pub tracks : (p : Program) (allowed : Allowances) (parts : GraphParts) (table : AllowanceTable) → IsTracked p allowed parts (Some table) → Tracks p allowed parts table
tracks p allowed parts table is = record { tells = is.tells; is_program = is.is_program; functions = is.functions; allows = is.allows }

-- where nothing is asked for that looks at what is allowed, nothing is warned of
none_asked : (x y : Bool) → (x || y) ≡ false → (x ≡ false) × (y ≡ false)
none_asked true y e = absurd (let z : ⊥ = cc in z)
none_asked false y e = (refl, e)

pub nothing_asked : (p : Program) (allowed : Allowances) (options : Options) → needs_allowances options ≡ false → (w : Warning) → AskedWarns p allowed options w → ⊥
nothing_asked p allowed options none w h =
    let first = none_asked options.retpoline (options.rethunk || options.uaccess) none in
    let others = none_asked options.rethunk options.uaccess first.1 in
    told first.0 others.0 others.1 h
  where
    told : options.retpoline ≡ false → options.rethunk ≡ false → options.uaccess ≡ false → AskedWarns p allowed options w → ⊥
    told x y z (inl (q, point, inl ((asked, op, unsafe, later), e))) = let k : ⊥ = cc in k
    told x y z (inl (q, point, inr ((asked, op, unsafe, later), e))) = let k : ⊥ = cc in k
    told x y z (inr (asked, h)) = let k : ⊥ = cc in k
