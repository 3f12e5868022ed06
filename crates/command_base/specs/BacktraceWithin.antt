-- Numbers of points that are points.
use Rattle.std.specs.Prelude.{ℕ, ◌<◌, List, All, IfSome}
use Rattle.state_ways.specs.declared.steps.WayStep.{WayStep}
use Rattle.state_ways.specs.Ways.{turns_at}
use Rattle.command_base.specs.declared.backtrace_cases.Case.{Case}

-- each step of a way is at a point below a bound
abbrev pub AreStepsWithin : ℕ → List (List WayStep) → Type 0
AreStepsWithin bound ways = (q : ℕ) → All (λ s. s.point < bound) (turns_at ways q)

-- so are the points that are found of a warning
pub record IsCaseWithin (bound : ℕ) (c : Case) : Type 0 where
  pub first : IfSome c.first (λ n. n < bound)
  pub kept : IfSome c.kept (λ n. n < bound)
  pub from : IfSome c.clash (λ clash. clash.from < bound)
  pub to : IfSome c.clash (λ clash. clash.edge.to < bound)
