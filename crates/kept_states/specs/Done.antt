-- The points that have given in a batch.
use Rattle.std.specs.Prelude.{◌≡◌, ℕ, ◌++◌, ◌⊎◌, true, false, List, [], Some, Contains, IsSome, drop, take, if◌then◌else◌, nat_lt}
use Rattle.state_defs.specs.declared.state.State.{State}
use Rattle.machine_defs.specs.Program.{Program, IsPoint}
use Rattle.machine_defs.specs.Kept.{Brings, is_free}
use Rattle.kept_states.specs.declared.done.Batch.{Batch}
use Rattle.kept_states.specs.Gives.{Gives, IsGiven}
use Rattle.kept_states.specs.LevelStates.{LevelStates, at, is_settled}

-- of the points that are reached, in order, those that have given in the batch, where those in front begin at such a place: none,
-- as long as those of level 0 are in front; else these, and those behind the settled ones
abbrev pub done_of : ℕ → ℕ → Batch → List ℕ → List ℕ
done_of settled front batch reached = if nat_lt front settled then [] else drop batch.from (take batch.to reached) ++ drop settled (take front reached)

-- a state that is offered to the point is left aside, and where no settled point was met the point isn't settled
abbrev pub IsLeftAside : LevelStates → ℕ → Type 0
IsLeftAside levels q = IsSome (at levels.kept q) × (levels.next.met ≡ false → is_settled levels.next q ≡ false)

-- The points that have given in the batch are kept, and what any of them gives would be left aside.
pub record HaveGivenAll (p : Program) (levels : LevelStates) : Type 0 where
  pub kept : (a : ℕ) → Contains levels.done a → IsSome (at levels.kept a)
  pub aside : (a q : ℕ) (s t : State) → Contains levels.done a → IsPoint p q → at levels.kept a ≡ Some s → Gives p a s q t → IsLeftAside levels q

-- what point a brings along its edges, with the state that it has, would be left aside, or the first i points in front gave it already
abbrev pub IsBroughtInVain : Program → LevelStates → ℕ → ℕ → Type 0
IsBroughtInVain p levels i a = (q : ℕ) (s t : State) → IsPoint p q → at levels.kept a ≡ Some s → p.unchecked q ≡ false → is_free (p.hint q) ≡ true → Brings p a s q t → IsLeftAside levels q ⊎ IsGiven p (at levels.kept) (take i levels.front) q t
