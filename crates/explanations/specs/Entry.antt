-- What is told of topics.
use Rattle.std.specs.Prelude.{ℕ, List, [], ◌∷◌, ◌++◌, map, Option, option_map}
use Rattle.std.specs.Borrow.{Bor}
use Rattle.std.specs.List.{find}
use Rattle.std.specs.Str.{bytes_eq}

-- a topic, its title and the text on it
pub record Entry : Type 0 where
  pub topic : List ℕ
  pub title : List ℕ
  pub text : List ℕ

-- what a row says
abbrev pub entry_of : Bor (List ℕ) × Bor (List ℕ) × Bor (List ℕ) → Entry
entry_of row = record { topic = row.0.now; title = row.1.now; text = row.2.now }

-- what the rows of several tables say
abbrev pub told : List (Bor (List (Bor (List ℕ) × Bor (List ℕ) × Bor (List ℕ)))) → List Entry
told [] = []
told (rows ∷ tables) = map entry_of rows.now ++ told tables

-- the entry on a topic
abbrev pub entry_on : List Entry → List ℕ → Option Entry
entry_on entries topic = find (λ e. bytes_eq e.topic topic) entries

-- the text on a topic
abbrev pub text_on : List Entry → List ℕ → Option (List ℕ)
text_on entries topic = option_map (λ e. e.text) (entry_on entries topic)
