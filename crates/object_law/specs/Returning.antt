-- The points from which a return may come are found by levels.
use Rattle.std.specs.Prelude.{◌≡◌, ◌↔◌, ℕ, true, Contains}
use Rattle.machine_defs.specs.declared.flow.Edge.{Edge}
use Rattle.machine_defs.specs.Program.{Program, IsPoint, entry_points}
use Rattle.machine_defs.specs.MayReturn.{MayReturn}
use Rattle.flow_defs.specs.Returning.{returns_at_last}

-- control goes from points to points, also by entries
pub record StaysAtPoints (p : Program) : Type 0 where
  pub edges : (q : ℕ) (e : Edge) → IsPoint p q → Contains (p.goes q) e → IsPoint p e.to
  pub entries : (entry q : ℕ) → Contains (entry_points p entry) q → IsPoint p q

-- in such a program the test of levels is the least set
abbrev pub LevelsAreEnough : Type 0
LevelsAreEnough = (p : Program) → StaysAtPoints p → (q : ℕ) → IsPoint p q → (returns_at_last p q ≡ true) ↔ MayReturn p q
