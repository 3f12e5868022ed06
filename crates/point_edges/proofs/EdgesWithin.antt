-- The edges of a jump inside its replacement.
use Rattle.std.proofs.Common.{◌≡◌, ℕ, Bool, List, [], ◌∷◌, if◌then◌else◌, Option, Some, ap, ◌∙◌}
use Rattle.std.specs.List.{cons_option}
use Rattle.flow_defs.specs.Coded.{Coded}
use Rattle.machine_defs.specs.declared.flow.Edge.{Edge}
use Rattle.machine_defs.specs.declared.flow.EdgeKind.TheVariants.{Taken}
use Rattle.machine_defs.specs.Program.{edge}
use Rattle.alternatives.specs.declared.point.Point.{Point}
use Rattle.flow_defs.specs.Tables.{same_owner}
use Rattle.flow_defs.specs.declared.destination.Destination.TheVariants.{ToOwnPoint}
use Rattle.flow_defs.specs.Code.{number_of, point_at}
use Rattle.flow_defs.specs.Edges.{edges_to, jump_edges}
use Rattle.flow_defs.specs.Owners.{owner_of_point}
use Rattle.point_edges.proofs.Numbered.{numbered}

-- the edges by the number that the other point has, and by whether its owner is the same
abbrev by_number : Bool → Option ℕ → List Edge
by_number same number = if same then edges_to Taken (cons_option number []) else []

-- those to a point with this number
pub with_number : (o : Coded) (point other : Point) (n : ℕ) (same : Bool) → number_of o other ≡ Some n → same_owner (owner_of_point o point) (owner_of_point o (point_at o n)) ≡ same → jump_edges o point (ToOwnPoint other) ≡ (if same then edge n Taken ∷ [] else [])
with_number o point other n same is owners =
    ap (by_number (same_owner (owner_of_point o point) (owner_of_point o other))) is
    ∙ ap (λ b. by_number b (Some n)) (ap (λ (p : Point). same_owner (owner_of_point o point) (owner_of_point o p)) (numbered o other n is).1 ∙ owners)
