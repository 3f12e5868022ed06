-- Edges to other functions, one by one and as a list.
use Rattle.std.proofs.Common.{◌≡◌, ℕ, true, List, refl, subst}
use Rattle.std.specs.Prelude.{All, Contains}
use Rattle.std.proofs.lemmas.List.Elements.{All-contains, All-contains_itself, All-weaker}
use Rattle.machine_defs.specs.declared.flow.Edge.{Edge}
use Rattle.machine_defs.specs.declared.flow.EdgeKind.{EdgeKind}
use Rattle.machine_defs.specs.declared.flow.EdgeKind.TheVariants.{Sibling}
use Rattle.machine_defs.specs.Program.{Program, edge}
use Rattle.machine_defs.specs.Allowances.{Allowances, is_safe}
use Rattle.machine_model.specs.Promise.{IsSafeSibling}

pub each_safe : (p : Program) (allowed : Allowances) (edges : List Edge) → All (IsSafeSibling p allowed) edges → (r : ℕ) → Contains edges (edge r Sibling) → is_safe p allowed r ≡ true
each_safe p allowed edges all r held = All-contains (IsSafeSibling p allowed) edges (edge r Sibling) all held refl

pub all_safe : (p : Program) (allowed : Allowances) (edges : List Edge) → ((r : ℕ) → Contains edges (edge r Sibling) → is_safe p allowed r ≡ true) → All (IsSafeSibling p allowed) edges
all_safe p allowed edges h =
    All-weaker (Contains edges) (IsSafeSibling p allowed) (λ e held kind. h e.to (subst (λ (k : EdgeKind). Contains edges (edge e.to k)) kind held)) edges (All-contains_itself edges)
