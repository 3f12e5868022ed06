-- What is known where there is an accepted program.
use Rattle.std.proofs.Common.{◌≡◌, List, Option, Some, None, ℤ, inl, inr}
use Rattle.std.proofs.Math.Logic.{∥∥₁_elim}
use Rattle.state_defs.specs.declared.state.State.{State}
use Rattle.state_defs.specs.Row.{unfit_offset}
use Rattle.machine_defs.specs.Program.{Program}
use Rattle.machine_defs.specs.Broken.{IsAccepted}
use Rattle.table_law.proofs.Lists.{some_or_none}
use Rattle.program_graph.specs.declared.parts.GraphParts.{GraphParts}
use Rattle.kept_states.specs.LevelStates.{at}
use Rattle.stack_rules.specs.Checks.{Checks}
use Rattle.program_check.specs.Checked.{IsCheckedBy}
use Rattle.program_check.specs.Fit.{Fit}
use Rattle.program_check.proofs.Kept.{accepted_fit}
use Rattle.program_check.specs.Checkable.{AreOfSomeAccepted, IsPrepared}

-- what rules are checked over, and rows are made of
pub checks : (p : Program) (parts : GraphParts) (states : List (Option State)) → IsPrepared p parts states → Checks p parts states
checks p parts states c = record { tells = c.tells; is_program = c.is_program; hints = c.laid.hint_points; kept = c.kept; points = c.points }

pub is_checked_by : (p : Program) (parts : GraphParts) (states : List (Option State)) → IsPrepared p parts states → IsAccepted p → IsCheckedBy p parts (at states)
is_checked_by p parts states c accepted = record { tells = c.tells; laid = c.laid; ascending = c.ascending; kept = c.kept; accepted = accepted }

module _ (parts : GraphParts) (states : List (Option State)) (some : AreOfSomeAccepted parts states) where
  -- the row of each state fits
  pub all_fit : Fit (at states)
  all_fit q s e = elim (some_or_none (unfit_offset s)) [ inl none ↦ none | inr a ↦ absurd (unfit a.0 a.1) ]
    where
      unfit : (a : ℤ) → unfit_offset s ≡ Some a → ⊥
      unfit a f = ∥∥₁_elim {P = ⊥} some (λ x y. absurd x) (λ h. let none : unfit_offset s ≡ None = accepted_fit h.0 (at states) h.1.kept h.2 q s e in let z : ⊥ = cc in z)
