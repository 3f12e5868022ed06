-- States that spread from one batch of points of level 0 after another.
use Rattle.std.specs.Prelude.{◌≡◌, ◌⊎◌, ℕ, ◌≤◌, false, List, Some, None, Contains, IsSome}
use Rattle.state_defs.specs.declared.state.State.{State}
use Rattle.machine_defs.specs.Program.{Program, IsPoint}
use Rattle.machine_defs.specs.Kept.{state_at}
use Rattle.kept_states.specs.LevelStates.{LevelStates, Offers, at, is_settled}
use Rattle.kept_states.specs.Ranks.{AreRanked}

-- Within a batch, at some level: the points in front are kept and of this level, and so far no point that is kept in this batch
-- is of a later one. Some points of level 0 wait for their batch.
pub record InBatch (p : Program) (levels : LevelStates) (waiting : List ℕ) : Type 0 where
  pub level : ℕ
  pub rank : ℕ → ℕ
  pub source : ℕ → List ℕ
  pub ranked : AreRanked p (at levels.kept) rank source levels.front waiting
  pub front : (a : ℕ) → Contains levels.front a → IsSome (at levels.kept a) × (rank a ≡ level)
  pub recent : (q : ℕ) (s : State) → IsPoint p q → at levels.kept q ≡ Some s → state_at p 0 q ≡ None → is_settled levels.next q ≡ false → rank q ≤ level

-- no settled point was met, or there is none
abbrev pub MetNoSettled : Offers → Type 0
MetNoSettled next = (next.met ≡ false) ⊎ ((q : ℕ) → is_settled next q ≡ false)

-- these points are of level 0
abbrev pub AreFirst : Program → List ℕ → Type 0
AreFirst p firsts = (q : ℕ) → Contains firsts q → IsSome (state_at p 0 q)
