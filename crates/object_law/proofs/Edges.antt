-- Where the edges of the points of an object lead.
use Rattle.std.proofs.Common.{◌≡◌, ℕ, ◌<◌, Bool, true, false, cond, List, [], ◌∷◌, ◌++◌, Option, Some, None, Contains, refl, sym, subst, inl, inr}
use Rattle.std.specs.Prelude.{◌≢◌, is_some}
use Rattle.std.proofs.lemmas.List.Elements.{Contains-append_cases}
use Rattle.ot_base.specs.declared.place.Place.{Place}
use Rattle.operation_defs.specs.declared.op.Op.{Op}
use Rattle.operation_defs.specs.declared.op.Op.TheVariants as ops
use Rattle.flow_defs.specs.Coded.{Coded}
use Rattle.machine_defs.specs.declared.flow.Edge.{Edge}
use Rattle.machine_defs.specs.declared.flow.EdgeKind.{EdgeKind}
use Rattle.machine_defs.specs.declared.flow.EdgeKind.TheVariants.{Next, Taken, Fixup, Table, Sibling}
use Rattle.alternatives.specs.declared.point.Point.{Point}
use Rattle.alternatives.specs.Points.{first_points}
use Rattle.flow_defs.specs.Tables.{same_owner}
use Rattle.unwinding_law.proofs.Lists.{from_flat_map, nowhere}
use Rattle.flow_defs.specs.declared.destination.Crossing.{Crossing}
use Rattle.flow_defs.specs.declared.destination.Destination.{Destination}
use Rattle.flow_defs.specs.declared.destination.Destination.TheVariants.{ToPlace, ToOwnPoint, ToOutside, ToIndirectThunk, ToReturnThunk, ToNowhere}
use Rattle.flow_defs.specs.declared.destination.Way.{Way}
use Rattle.flow_defs.specs.declared.destination.Way.TheVariants as ways
use Rattle.flow_defs.specs.Code.{alternatives_of, numbers_of, point_at, texts_of}
use Rattle.flow_defs.specs.Owners.{is_unchecked_point, owner_of_point}
use Rattle.flow_defs.specs.Sites.{is_into_site}
use Rattle.flow_defs.specs.Arrival.{after, after_by, arrive, insn_of_object, next_of_replacement, place_behind}
use Rattle.flow_defs.specs.Targets.{destination_of}
use Rattle.flow_defs.specs.Ways.{hop_way, jump_way, listed_way, taken_only}
use Rattle.flow_defs.specs.Roles.{returns_through, table_of_point}
use Rattle.flow_defs.specs.Edges.{branch_edges, branch_edges_by, edges_to, fixups, goes, goes_on, hop_edges, jump_edges, listed_edges, next_edges, static_targets, table_edges, way_edges}
use Rattle.object_law.proofs.Numbers.{edges_lead, numbers_are, point_count}

-- how an edge comes about that leads to a place, and what the way to that place is
pub record ComesTo (o : Coded) (point : Point) (e : Edge) (place : Place) (kind : EdgeKind) : Type 0 where
  pub outside_sites : is_into_site o point place ≡ false
  pub arrives : Contains (arrive o place) e.to
  pub is_kind : e.kind ≡ kind

-- where an edge of a point comes from
pub data Comes (o : Coded) (point : Point) (e : Edge) : Type 0 where
  next : goes_on o point ≡ true → Contains (after o point) e.to → e.kind ≡ Next → Comes o point e
  branch : (crossing : Crossing) (place : Place) (kind : EdgeKind) → jump_way o point crossing place ≡ ways.Along kind → ComesTo o point e place kind → Comes o point e
  within : (other : Point) → same_owner (owner_of_point o point) (owner_of_point o other) ≡ true → Contains (numbers_of o (other ∷ [])) e.to → e.kind ≡ Taken → Comes o point e
  listed : (of_kind : EdgeKind) → of_kind ≢ Sibling → (place : Place) (kind : EdgeKind) → listed_way o of_kind (owner_of_point o point) place ≡ ways.Along kind → ComesTo o point e place kind → Comes o point e
  table : (place : Place) → Contains (table_of_point o point) place → ComesTo o point e place Table → Comes o point e

way_comes : (o : Coded) (point : Point) (place : Place) (way : Way) (e : Edge) → Contains (way_edges o point place way) e → (kind : EdgeKind) × (way ≡ ways.Along kind) × ComesTo o point e place kind
way_comes o point place ways.Bad e c = nowhere e c
way_comes o point place (ways.Outside f) e c = nowhere e c
way_comes o point place (ways.Along kind) e c = go (is_into_site o point place) refl c
  where
    go : (b : Bool) → is_into_site o point place ≡ b → Contains (cond b [] (edges_to kind (arrive o place))) e → (k : EdgeKind) × (◌≡◌ {A = Way} (ways.Along kind) (ways.Along k)) × ComesTo o point e place k
    go true is c = nowhere e c
    go false is c = let lead = edges_lead kind (arrive o place) e c in (kind, refl, record { outside_sites = is; arrives = lead.0; is_kind = lead.1 })

jump_comes : (o : Coded) (point : Point) (to : Destination) (e : Edge) → Contains (jump_edges o point to) e → Comes o point e
jump_comes o point (ToPlace place weak crossing) e c =
    let w = way_comes o point place (jump_way o point crossing place) e c in
    Comes.branch crossing place w.0 w.1 w.2
jump_comes o point (ToOwnPoint other) e c = go (same_owner (owner_of_point o point) (owner_of_point o other)) refl c
  where
    go : (b : Bool) → same_owner (owner_of_point o point) (owner_of_point o other) ≡ b → Contains (cond b (edges_to Taken (numbers_of o (other ∷ []))) []) e → Comes o point e
    go true is c = let lead = edges_lead Taken (numbers_of o (other ∷ [])) e c in Comes.within other is lead.0 lead.1
    go false is c = nowhere e c
jump_comes o point (ToOutside sym) e c = nowhere e c
jump_comes o point ToIndirectThunk e c = nowhere e c
jump_comes o point ToReturnThunk e c = nowhere e c
jump_comes o point ToNowhere e c = nowhere e c

-- the way of a call within a function is a jump's
hop_is : (o : Coded) (point : Point) (weak : Option ℕ) (crossing : Crossing) (place : Place) (kind : EdgeKind) → hop_way o point weak crossing place ≡ ways.Along kind → jump_way o point crossing place ≡ ways.Along kind
hop_is o point (Some sym) crossing place kind is = absurd (let k : ⊥ = cc in k)
hop_is o point None crossing place kind is = go (jump_way o point crossing place) is
  where
    go : (way : Way) → taken_only way ≡ ways.Along kind → way ≡ ways.Along kind
    go (ways.Along Taken) is = is
    go (ways.Along Next) is = absurd (let k : ⊥ = cc in k)
    go (ways.Along Fixup) is = absurd (let k : ⊥ = cc in k)
    go (ways.Along Table) is = absurd (let k : ⊥ = cc in k)
    go (ways.Along Sibling) is = absurd (let k : ⊥ = cc in k)
    go ways.Bad is = absurd (let k : ⊥ = cc in k)
    go (ways.Outside f) is = absurd (let k : ⊥ = cc in k)

hop_comes : (o : Coded) (point : Point) (to : Destination) (e : Edge) → Contains (hop_edges o point to) e → Comes o point e
hop_comes o point (ToPlace place weak crossing) e c =
    let w = way_comes o point place (hop_way o point weak crossing place) e c in
    Comes.branch crossing place w.0 (hop_is o point weak crossing place w.0 w.1) w.2
hop_comes o point (ToOwnPoint other) e c = jump_comes o point (ToOwnPoint other) e c
hop_comes o point _ e c = nowhere e c

branch_comes : (o : Coded) (point : Point) (op : Op) (e : Edge) → Contains (branch_edges_by o point op) e → Comes o point e
branch_comes o point (ops.Jmp rel wide) e c = jump_comes o point (destination_of o point) e c
branch_comes o point (ops.Jcc rel wide) e c = jump_comes o point (destination_of o point) e c
branch_comes o point ops.Hop e c = hop_comes o point (destination_of o point) e c
branch_comes o point _ e c = nowhere e c

-- through code that returns for its caller none leads
branches_come : (o : Coded) (point : Point) (e : Edge) → Contains (branch_edges o point) e → Comes o point e
branches_come o point e c = go (is_some (returns_through o point)) c
  where
    go : (b : Bool) → Contains (cond b [] (branch_edges_by o point (insn_of_object o point).op)) e → Comes o point e
    go true c = nowhere e c
    go false c = branch_comes o point (insn_of_object o point).op e c

listed_comes : (o : Coded) (kind : EdgeKind) → kind ≢ Sibling → (point : Point) (places : List Place) (e : Edge) → Contains (listed_edges o kind point places) e → Comes o point e
listed_comes o kind other point places e c =
    let one = from_flat_map (λ place. way_edges o point place (listed_way o kind (owner_of_point o point) place)) places e c in
    let w = way_comes o point one.0 (listed_way o kind (owner_of_point o point) one.0) e one.2 in
    Comes.listed kind other one.0 w.0 w.1 w.2

table_comes : (o : Coded) (point : Point) (e : Edge) → Contains (table_edges o point) e → Comes o point e
table_comes o point e c =
    let one = from_flat_map (λ place. way_edges o point place (ways.Along Table)) (table_of_point o point) e c in
    let w = way_comes o point one.0 (ways.Along Table) e one.2 in
    Comes.table one.0 one.1 (subst (ComesTo o point e one.0) (sym (same_kind w.1)) w.2)
  where
    same_kind : {a b : EdgeKind} → ◌≡◌ {A = Way} (ways.Along a) (ways.Along b) → a ≡ b
    same_kind is = cc

next_comes : (o : Coded) (point : Point) (e : Edge) → Contains (next_edges o point) e → Comes o point e
next_comes o point e c = go (goes_on o point) refl c
  where
    go : (b : Bool) → goes_on o point ≡ b → Contains (cond b (edges_to Next (after o point)) []) e → Comes o point e
    go true is c = let lead = edges_lead Next (after o point) e c in Comes.next is lead.0 lead.1
    go false is c = nowhere e c

-- the edges of a checked point
abbrev pub checked_edges : Coded → Point → List Edge
checked_edges o point = next_edges o point ++ (branch_edges o point ++ (listed_edges o Taken point (static_targets o point) ++ (listed_edges o Fixup point (fixups o point) ++ table_edges o point)))

part_comes : (o : Coded) (point : Point) (e : Edge) → Contains (checked_edges o point) e → Comes o point e
part_comes o point e c = elim (Contains-append_cases (next_edges o point) _ e c) [
  | inl d ↦ next_comes o point e d
  | inr c2 ↦ elim (Contains-append_cases (branch_edges o point) _ e c2) [
    | inl d ↦ branches_come o point e d
    | inr c3 ↦ elim (Contains-append_cases (listed_edges o Taken point (static_targets o point)) _ e c3) [
      | inl d ↦ listed_comes o Taken (λ is. let k : ⊥ = cc in k) point (static_targets o point) e d
      | inr c4 ↦ elim (Contains-append_cases (listed_edges o Fixup point (fixups o point)) _ e c4) [
        | inl d ↦ listed_comes o Fixup (λ is. let k : ⊥ = cc in k) point (fixups o point) e d
        | inr d ↦ table_comes o point e d
      ]
    ]
  ]
]

-- each edge of a point comes about so, and the point is checked
pub edge_comes : (o : Coded) (point : Point) (e : Edge) → Contains (goes o point) e → (is_unchecked_point o point ≡ false) × Comes o point e
unfolding goes
edge_comes o point e c = go (is_unchecked_point o point) refl c
  where
    go : (b : Bool) → is_unchecked_point o point ≡ b → Contains (cond b [] (checked_edges o point)) e → (b ≡ false) × Comes o point e
    go true is c = nowhere e c
    go false is c = (refl, part_comes o point e c)

-- the points at which control arrives, and those after a point, are points
pub arrive_points : (o : Coded) (place : Place) (q : ℕ) → Contains (arrive o place) q → (q < point_count o) × Contains (first_points (texts_of o) (alternatives_of o) place) (point_at o q)
unfolding arrive
arrive_points o place q c = numbers_are o (first_points (texts_of o) (alternatives_of o) place) q c

pub after_points : (o : Coded) (point : Point) (q : ℕ) → Contains (after o point) q → q < point_count o
unfolding after
after_points o point q c = go (next_of_replacement o point) c
  where
    go : (next : Option Point) → Contains (after_by o point next) q → q < point_count o
    go (Some behind) c = (numbers_are o (behind ∷ []) q c).0
    go None c = (arrive_points o (place_behind o point) q c).0

comes_inside : (o : Coded) (point : Point) (e : Edge) → Comes o point e → e.to < point_count o
comes_inside o point e (Comes.next on c kind) = after_points o point e.to c
comes_inside o point e (Comes.branch crossing place kind way to) = (arrive_points o place e.to to.arrives).0
comes_inside o point e (Comes.within other same c kind) = (numbers_are o (other ∷ []) e.to c).0
comes_inside o point e (Comes.listed of_kind other place kind way to) = (arrive_points o place e.to to.arrives).0
comes_inside o point e (Comes.table place c to) = (arrive_points o place e.to to.arrives).0

pub edges_inside : (o : Coded) (point : Point) (e : Edge) → Contains (goes o point) e → e.to < point_count o
edges_inside o point e c = comes_inside o point e (edge_comes o point e c).1
