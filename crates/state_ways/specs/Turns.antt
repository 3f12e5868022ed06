-- Turns that name the one before.
use Rattle.std.specs.Prelude.{◌≡◌, ◌⊎◌, ℕ, ◌+◌, ◌^◌, ◌<◌, ◌≤◌, ◌==◌, List, [], ◌∷◌, ◌++◌, Option, Some, None, All, fold, if◌then◌else◌, length, slice_get, slice_index_or, sum_by}
use Rattle.state_ways.specs.declared.steps.WayStep.{WayStep}
use Rattle.state_ways.specs.declared.ways.Turn.{Turn}

-- in place of the number of a turn, where there is none
abbrev pub nowhere : ℕ
nowhere = 4294967295

-- 1 where there is none
abbrev pub is_vacant : ℕ → ℕ
is_vacant last = if last == nowhere then 1 else 0

-- the turns up to the one that is named, if one is
abbrev pub up_to : List (List WayStep) → Option ℕ → List WayStep
up_to chains None = []
up_to chains (Some i) = slice_index_or chains i []

-- one turn more: those up to the one before it, and itself
abbrev pub with_turn : List (List WayStep) → Turn → List (List WayStep)
with_turn chains turn = chains ++ (up_to chains turn.before ++ turn.step ∷ []) ∷ []

-- by turn, the turns up to it
abbrev pub chains_of : List Turn → List (List WayStep)
chains_of turns = fold with_turn [] turns

-- the turns up to the last one on the way to a point, by its number
abbrev pub chain_at : List (List WayStep) → ℕ → List WayStep
chain_at chains last = slice_index_or chains last []

-- a turn names one before it
abbrev pub AreInOrder : List Turn → Type 0
AreInOrder turns = (i j : ℕ) (turn : Turn) → slice_get turns i ≡ Some turn → turn.before ≡ Some j → j < i

-- Points name turns, and a turn one before it. There are fewer turns than points with a way.
pub record AreTurns (last : List ℕ) (turns : List Turn) : Type 0 where
  pub few : length last < 2 ^ 32
  pub counted : length turns + sum_by is_vacant last ≤ length last
  pub named : All (λ i. (i ≡ nowhere) ⊎ (i < length turns)) last
  pub before : AreInOrder turns
