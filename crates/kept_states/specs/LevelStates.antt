-- The states of points by levels, as contracts see them.
use Rattle.std.specs.Prelude.{◌≡◌, ℕ, ◌+◌, Bool, false, ◌||◌, List, [], ◌∷◌, Option, Some, None, slice_index_or, slice_set}
use Rattle.state_defs.specs.declared.state.State.{State}
use Rattle.kept_states.specs.Least.{lesser_of}

-- by point, the least of the states that were offered to it for the next level, and whether it is settled: kept in an earlier
-- batch, and not of level 0; and whether a state was offered to a settled point
pub record Offers : Type 0 where
  pub states : List (Option State)
  pub settled : List Bool
  pub met : Bool

-- by point, the state that it keeps, and what was offered; the points that give next, those that have given in this batch, and
-- those of level 0 in order
pub record LevelStates : Type 0 where
  pub kept : List (Option State)
  pub next : Offers
  pub front : List ℕ
  pub done : List ℕ
  pub firsts : List ℕ

-- what a list has at a point
abbrev pub at : List (Option State) → ℕ → Option State
at states q = slice_index_or states q None

-- what is offered to a point that is kept is left aside
abbrev pub after_offer : Option State → Option State → State → Option State
after_offer (Some s) next offered = next
after_offer None next offered = Some (lesser_of next offered)

-- whether a point is settled
abbrev pub is_settled : Offers → ℕ → Bool
is_settled next q = slice_index_or next.settled q false

-- one offer
abbrev pub offered : List (Option State) → Offers → ℕ → State → Offers
offered kept next n t = record { states = slice_set next.states n (after_offer (at kept n) (at next.states n) t); settled = next.settled; met = next.met || is_settled next n }

-- the points of level 0 and the settled ones are the same, and what was met stays so
abbrev pub StaysSame : LevelStates → LevelStates → Type 0
StaysSame old new = (new.firsts ≡ old.firsts) × (new.next.settled ≡ old.next.settled) × (new.next.met ≡ false → old.next.met ≡ false)

-- how many points have a state, and how many have none
abbrev pub is_one : Option State → ℕ
is_one None = 0
is_one (Some s) = 1

abbrev pub is_open : Option State → ℕ
is_open None = 1
is_open (Some s) = 0

abbrev pub count_some : List (Option State) → ℕ
count_some [] = 0
count_some (o ∷ states) = is_one o + count_some states

abbrev pub count_open : List (Option State) → ℕ
count_open [] = 0
count_open (o ∷ states) = is_open o + count_open states
