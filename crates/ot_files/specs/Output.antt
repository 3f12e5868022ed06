-- What was written to an output.
use Rattle.std.specs.Prelude.{◌≡◌, ℕ, List, ◌++◌, Option, option_map}

-- what was written, where it is told, and then these bytes; what isn't told isn't told after it
abbrev pub appending : Option (List ℕ) → List ℕ → Option (List ℕ)
appending told bytes = option_map (λ written. written ++ bytes) told

-- some bytes were written: they and what is left are the line
pub record Sends (before now : Option (List ℕ)) (line left : List ℕ) : Type 0 where
  pub sent : List ℕ
  pub parts : line ≡ sent ++ left
  pub appended : now ≡ appending before sent

-- a beginning of the line was written, and nothing else
abbrev pub AppendsPrefix : Option (List ℕ) → Option (List ℕ) → List ℕ → Type 0
AppendsPrefix before now line = (left : List ℕ) × Sends before now line left
