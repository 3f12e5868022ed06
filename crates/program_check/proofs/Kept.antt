-- What is kept is a point, and has a row that fits.
use Rattle.std.proofs.Common.{◌≡◌, ℕ, ◌<◌, List, Option, length, inl, inr, arith}
use Rattle.state_defs.specs.declared.state.State.{State}
use Rattle.state_defs.specs.Row.{unfit_offset}
use Rattle.machine_defs.specs.Program.{Program, IsPoint}
use Rattle.machine_defs.specs.Kept.{Kept, AreKeptStates}
use Rattle.machine_defs.specs.Broken.{IsAccepted, unfit}
use Rattle.table_law.proofs.Lists.{some_or_none}
use Rattle.kept_states.specs.LevelStates.{at}
use Rattle.kept_states.proofs.Rounds.{at_some}
use Rattle.program_check.specs.Fit.{Fit}

pub kept_is_point : (p : Program) (kept : List (Option State)) → AreKeptStates p (at kept) → p.count ≡ length kept → (q : ℕ) (s : State) → Kept p q s → IsPoint p q
kept_is_point p kept states count q s k = let l : q < length kept = at_some kept q s ((states q s).1 k) in omega (arith, l, count)

-- where no rule is broken each offset fits
pub accepted_fit : (p : Program) (states : ℕ → Option State) → AreKeptStates p states → IsAccepted p → Fit states
accepted_fit p states kept acc q s e = elim (some_or_none (unfit_offset s)) [ inl none ↦ none | inr a ↦ absurd (acc _ _ _ _ (unfit q s a.0 ((kept q s).0 e) a.1)) ]
