-- Points and their numbers.
use Rattle.std.proofs.Common.{◌≡◌, ℕ, ◌<◌, true, List, [], ◌∷◌, Some, length, Contains, sym, ap, ◌∙◌, subst, inl, inr}
use Rattle.std.proofs.lemmas.Bool.{eqb-true}
use Rattle.std.proofs.lemmas.List.Quantifiers.{position-Some}
use Rattle.ot_base.specs.declared.place.Place.{Place}
use Rattle.flow_defs.specs.Coded.{Coded}
use Rattle.alternatives.specs.declared.point.Point.{Point}
use Rattle.machine_defs.specs.declared.flow.Edge.{Edge}
use Rattle.machine_defs.specs.declared.flow.EdgeKind.{EdgeKind}
use Rattle.machine_defs.specs.Program.{edge}
use Rattle.unwinding_law.proofs.Lists.{cases, here, nowhere, there}
use Rattle.table_law.proofs.Equal.{same_place_is}
use Rattle.table_law.proofs.Lists.{from_filter_map}
use Rattle.flow_defs.specs.Code.{number_of, numbers_of, no_point, point_at, points_of_object, same_point}
use Rattle.flow_defs.specs.Edges.{edges_to}
use Rattle.object_law.proofs.Levels.{and_true}

pub points_equal : (a b : Point) → same_point a b ≡ true → a ≡ b
points_equal a b same =
    let parts = and_true _ _ same in
    let place : a.place ≡ b.place = same_place_is a.place b.place parts.0 in
    let variant : a.variant ≡ b.variant = eqb-true a.variant b.variant parts.1 in
    let one : ◌≡◌ {A = Point} a (record { place = a.place; variant = b.variant }) = ap (λ (v : ℕ). let x : Point = record { place = a.place; variant = v } in x) variant in
    one ∙ ap (λ (p : Place). let x : Point = record { place = p; variant = b.variant } in x) place

-- how many points an object has
abbrev pub point_count : Coded → ℕ
point_count o = length (points_of_object o)

-- a number is that of its point
pub numbered : (o : Coded) (point : Point) (n : ℕ) → number_of o point ≡ Some n → (n < point_count o) × (point_at o n ≡ point)
numbered o point n is =
    let at = position-Some (same_point point) (points_of_object o) n no_point is in
    (at.0, sym (points_equal point (point_at o n) at.1))

-- the numbers of points are below their count, and are the points' own
pub numbers_are : (o : Coded) (points : List Point) (n : ℕ) → Contains (numbers_of o points) n → (n < point_count o) × Contains points (point_at o n)
numbers_are o points n listed =
    let one = from_filter_map (number_of o) points n listed in
    let own = numbered o one.0 n one.2 in
    (own.0, subst (λ (p : Point). Contains points p) (sym own.1) one.1)

-- an edge of a kind to some points leads to one of them
pub edges_lead : (kind : EdgeKind) (points : List ℕ) (e : Edge) → Contains (edges_to kind points) e → Contains points e.to × (e.kind ≡ kind)
edges_lead kind [] e listed = nowhere e listed
edges_lead kind (q ∷ points) e listed = elim (cases (edge q kind) (edges_to kind points) e listed) [
  | inl same ↦ (subst (λ (x : Edge). Contains (q ∷ points) x.to) same (here q points), ap (λ (x : Edge). x.kind) (sym same))
  | inr rest ↦ let r = edges_lead kind points e rest in (there q points e.to r.0, r.1)
]
