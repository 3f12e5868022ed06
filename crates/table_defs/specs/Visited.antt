-- The points to which runs come.
use Rattle.std.specs.Prelude.{◌≡◌, ℕ}
use Rattle.machine_defs.specs.Program.{Program}
use Rattle.machine_defs.specs.Machine.{Bases, Standing, At}
use Rattle.machine_defs.specs.Run.{Run}

-- in some state of some run the machine stands at the point
pub record IsVisited (p : Program) (bases : Bases) (q : ℕ) : Type 0 where
  pub standing : Standing
  pub run : Run p bases (At standing)
  pub here : standing.point ≡ q
