-- How states pass points, as far as that doesn't depend on them.
use Rattle.std.specs.Prelude.{◌≡◌, ◌≢◌, ◌⊎◌, ℕ, ◌+◌, ◌<◌, ◌^◌, ◌∷◌, [], ◌&&◌, Bool, not, true, false, List, None, length, slice_index_or}
use Rattle.machine_defs.specs.declared.flow.Edge.{Edge}
use Rattle.machine_defs.specs.declared.flow.EdgeKind.TheVariants.{Next}
use Rattle.machine_defs.specs.Program.{Program}
use Rattle.machine_defs.specs.Kept.{edges_of, is_at_entry, is_free, state_at}
use Rattle.program_graph.specs.Tells.{Means}
use Rattle.kept_states.specs.Neutral.{is_neutral}
use Rattle.kept_states.specs.declared.passages.Passage.{Passage}
use Rattle.kept_states.specs.declared.passages.Passage.TheVariants.{LastsStraight, MovesStraight, LastsAlongEdges, MovesAlongEdges, LastsSpecial, MovesSpecial, Closed}

-- a Next to the next point
abbrev pub next_edge : ℕ → Edge
next_edge n = record { to = n + 1; kind = Next }

-- the point isn't of level 0, and no RESTORE means it
pub record IsOrdinary (p : Program) (n : ℕ) : Type 0 where
  pub first : state_at p 0 n ≡ None
  pub meant : (r : ℕ) → Means p n r → ⊥

-- the point has a hint, a RESTORE means it, or control stands there that comes to an entry
abbrev pub IsSpecial : Program → ℕ → Type 0
IsSpecial p n = (p.hint n ≢ None) ⊎ ((r : ℕ) × Means p n r) ⊎ (is_at_entry p n ≡ true)

-- whether states come in there along edges, whether they do and the operation is neutral, and whether what the point gives is
-- told to go to the next one alone
abbrev pub comes_in : Passage → Bool
comes_in LastsStraight = true
comes_in MovesStraight = true
comes_in LastsAlongEdges = true
comes_in MovesAlongEdges = true
comes_in LastsSpecial = true
comes_in MovesSpecial = true
comes_in Closed = false

abbrev pub lasts : Passage → Bool
lasts LastsStraight = true
lasts MovesStraight = false
lasts LastsAlongEdges = true
lasts MovesAlongEdges = false
lasts LastsSpecial = true
lasts MovesSpecial = false
lasts Closed = false

abbrev pub goes_straight_on : Passage → Bool
goes_straight_on LastsStraight = true
goes_straight_on MovesStraight = true
goes_straight_on LastsAlongEdges = false
goes_straight_on MovesAlongEdges = false
goes_straight_on LastsSpecial = false
goes_straight_on MovesSpecial = false
goes_straight_on Closed = false

-- to such points a point gives something
abbrev pub GivesSo : Program → ℕ → Passage → Type 0
GivesSo p n LastsStraight = IsOrdinary p n × (edges_of p n ≡ next_edge n ∷ [])
GivesSo p n MovesStraight = IsOrdinary p n × (edges_of p n ≡ next_edge n ∷ [])
GivesSo p n LastsAlongEdges = IsOrdinary p n
GivesSo p n MovesAlongEdges = IsOrdinary p n
GivesSo p n LastsSpecial = IsSpecial p n
GivesSo p n MovesSpecial = IsSpecial p n
GivesSo p n Closed = Unit {0}

-- so states pass a point
pub record IsPassage (p : Program) (n : ℕ) (passage : Passage) : Type 0 where
  pub takes : comes_in passage ≡ (not (p.unchecked n) && is_free (p.hint n))
  pub neutral : lasts passage ≡ (comes_in passage && is_neutral (p.insn n).op)
  pub giving : GivesSo p n passage

-- so they pass those below a number, of the points from 0 on that the list has
abbrev pub AreToldBelow : Program → List Passage → ℕ → Type 0
AreToldBelow p passages n = (k : ℕ) (d : Passage) → k < n → IsPassage p k (slice_index_or passages k d)

-- so they pass each of them
abbrev pub ArePassages : Program → List Passage → Type 0
ArePassages p passages = (n : ℕ) (d : Passage) → n < length passages → IsPassage p n (slice_index_or passages n d)

-- Each of the points below a number that gives to the next one alone has it, and states come in there, as far as that is told of.
abbrev pub AreLinked : List Passage → ℕ → Type 0
AreLinked passages n = (k : ℕ) (d : Passage) → k < n → goes_straight_on (slice_index_or passages k d) ≡ true → (k + 1 < 2 ^ 32) × (k + 1 < length passages) × (k + 1 < n → comes_in (slice_index_or passages (k + 1) d) ≡ true)

-- What a point gives is what it brings to the next point along its one edge, where states come in.
pub record IsStraight (p : Program) (n : ℕ) : Type 0 where
  pub edges : edges_of p n ≡ next_edge n ∷ []
  pub meant : (r : ℕ) → Means p n r → ⊥
  pub takes : (not (p.unchecked (n + 1)) && is_free (p.hint (n + 1))) ≡ true
