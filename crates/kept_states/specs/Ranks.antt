-- On which level points were kept, and from which points each of them came.
use Rattle.std.specs.Prelude.{◌≡◌, ◌⊎◌, ℕ, suc, ◌≤◌, List, Option, Some, None, Contains, IsSome}
use Rattle.state_defs.specs.declared.state.State.{State}
use Rattle.machine_defs.specs.Program.{Program, IsPoint}
use Rattle.machine_defs.specs.Kept.{state_at}
use Rattle.kept_states.specs.Gives.{Gives, IsGiven}
use Rattle.kept_states.specs.Least.{IsLeast}

-- a point that gets something from a is of level 0, was kept no later than a, or came from it
abbrev pub IsEarly : Program → (ℕ → ℕ) → (ℕ → List ℕ) → ℕ → ℕ → Type 0
IsEarly p rank source a q = IsSome (state_at p 0 q) ⊎ ((rank q ≤ rank a) ⊎ Contains (source q) a)

-- The points of level 0 are kept, with rank 0. Each other that is kept has the least of what the points of the rank below gave
-- it from which it came. And what a kept point gives that is neither in front nor waits is kept already, and early.
pub record AreRanked (p : Program) (states : ℕ → Option State) (rank : ℕ → ℕ) (source : ℕ → List ℕ) (front waiting : List ℕ) : Type 0 where
  pub first : (q : ℕ) (s : State) → IsPoint p q → state_at p 0 q ≡ Some s → (states q ≡ Some s) × (rank q ≡ 0)
  pub from : (q : ℕ) (s : State) (a : ℕ) → IsPoint p q → states q ≡ Some s → state_at p 0 q ≡ None → Contains (source q) a → IsSome (states a) × (rank q ≡ suc (rank a))
  pub later : (q : ℕ) (s : State) → IsPoint p q → states q ≡ Some s → state_at p 0 q ≡ None → IsLeast (IsGiven p states (source q) q) (Some s)
  pub closed : (a q : ℕ) (s t : State) → IsPoint p a → IsPoint p q → states a ≡ Some s → (Contains front a → ⊥) → (Contains waiting a → ⊥) → Gives p a s q t → IsSome (states q) × IsEarly p rank source a q

-- some ranks and sources show that the points are ranked so
abbrev pub AreSpread : Program → (ℕ → Option State) → List ℕ → List ℕ → Type 0
AreSpread p states front waiting = (rank : ℕ → ℕ) × (source : ℕ → List ℕ) × AreRanked p states rank source front waiting
