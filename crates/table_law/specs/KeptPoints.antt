-- Only points are kept.
use Rattle.std.specs.Prelude.{ℕ}
use Rattle.state_defs.specs.declared.state.State.{State}
use Rattle.machine_defs.specs.Program.{Program, IsPoint}
use Rattle.machine_defs.specs.Kept.{Kept}
use Rattle.machine_defs.specs.IsProgram.{IsProgram, HintsStandAtPoints}

-- In a program only points are kept, since hints stand at points, and control comes to points alone.
abbrev pub KeptArePoints : Type 0
KeptArePoints = (p : Program) → IsProgram p → HintsStandAtPoints p → (q : ℕ) (s : State) → Kept p q s → IsPoint p q
