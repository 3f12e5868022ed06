-- The edges of the points of an object lead to points.
use Rattle.std.proofs.Common.{ℕ, ◌<◌, Bool, true, false, List, [], ◌∷◌, ◌++◌, length, All, Option, Some, None, if◌then◌else◌}
use Rattle.std.specs.Prelude.{is_some}
use Rattle.std.specs.List.{flat_map}
use Rattle.std.proofs.lemmas.List.Elements.{All-append, All-map, All-nil}
use Rattle.ot_base.specs.declared.place.Place.{Place}
use Rattle.operation_defs.specs.declared.op.Op.{Op}
use Rattle.operation_defs.specs.declared.op.Op.TheVariants.{Hop, Jcc, Jmp}
use Rattle.flow_defs.specs.Coded.{Coded}
use Rattle.machine_defs.specs.declared.flow.Edge.{Edge}
use Rattle.machine_defs.specs.declared.flow.EdgeKind.{EdgeKind}
use Rattle.machine_defs.specs.declared.flow.EdgeKind.TheVariants.{Fixup, Next, Table, Taken}
use Rattle.machine_defs.specs.Program.{edge}
use Rattle.alternatives.specs.declared.point.Point.{Point}
use Rattle.flow_defs.specs.Tables.{same_owner}
use Rattle.flow_defs.specs.declared.destination.Destination.{Destination}
use Rattle.flow_defs.specs.declared.destination.Destination.TheVariants.{ToPlace, ToOwnPoint}
use Rattle.flow_defs.specs.declared.destination.Way.{Way}
use Rattle.flow_defs.specs.declared.destination.Way.TheVariants.{Along}
use Rattle.flow_defs.specs.Arrival.{after, arrive, insn_of_object}
use Rattle.flow_defs.specs.Code.{numbers_of, points_of_object}
use Rattle.flow_defs.specs.Edges.{branch_edges, branch_edges_by, edges_to, fixups, goes, goes_on, hop_edges, jump_edges, listed_edges, next_edges, static_targets, table_edges, way_edges}
use Rattle.flow_defs.specs.Owners.{is_unchecked_point, owner_of_point}
use Rattle.flow_defs.specs.Roles.{returns_through, table_of_point}
use Rattle.flow_defs.specs.Sites.{is_into_site}
use Rattle.flow_defs.specs.Targets.{destination_of}
use Rattle.flow_defs.specs.Ways.{hop_way, jump_way, listed_way}
use Rattle.point_arrivals.proofs.Arriving.{arrive_inside}
use Rattle.point_arrivals.proofs.Following.{after_inside}
use Rattle.point_arrivals.proofs.Numbers.{numbers_inside, IsNumber}

-- edges lead to points
abbrev pub LeadInside : Coded → List Edge → Type 0
LeadInside o edges = All (λ e. e.to < length (points_of_object o)) edges

none : (o : Coded) → LeadInside o []
none o = All-nil (λ (e : Edge). e.to < length (points_of_object o))

both : (o : Coded) (edges others : List Edge) → LeadInside o edges → LeadInside o others → LeadInside o (edges ++ others)
both o edges others here there = All-append (λ (e : Edge). e.to < length (points_of_object o)) edges others here there

to_points : (o : Coded) (kind : EdgeKind) (numbers : List ℕ) → All (IsNumber o) numbers → LeadInside o (edges_to kind numbers)
to_points o kind numbers points = All-map (λ (e : Edge). e.to < length (points_of_object o)) (λ q. edge q kind) numbers points

way_inside : (o : Coded) (point : Point) (place : Place) (way : Way) → LeadInside o (way_edges o point place way)
way_inside o point place (Along kind) = by (is_into_site o point place)
  where
    by : (b : Bool) → LeadInside o (if b then [] else edges_to kind (arrive o place))
    by true = none o
    by false = to_points o kind (arrive o place) (arrive_inside o place)
way_inside o point place _ = none o

jump_inside : (o : Coded) (point : Point) (to : Destination) → LeadInside o (jump_edges o point to)
jump_inside o point (ToPlace place weak crossing) = way_inside o point place (jump_way o point crossing place)
jump_inside o point (ToOwnPoint other) = by (same_owner (owner_of_point o point) (owner_of_point o other))
  where
    by : (b : Bool) → LeadInside o (if b then edges_to Taken (numbers_of o (other ∷ [])) else [])
    by true = to_points o Taken (numbers_of o (other ∷ [])) (numbers_inside o (other ∷ []))
    by false = none o
jump_inside o point _ = none o

hop_inside : (o : Coded) (point : Point) (to : Destination) → LeadInside o (hop_edges o point to)
hop_inside o point (ToPlace place weak crossing) = way_inside o point place (hop_way o point weak crossing place)
hop_inside o point (ToOwnPoint other) = jump_inside o point (ToOwnPoint other)
hop_inside o point _ = none o

branch_inside : (o : Coded) (point : Point) (op : Op) → LeadInside o (branch_edges_by o point op)
branch_inside o point (Jmp rel wide) = jump_inside o point (destination_of o point)
branch_inside o point (Jcc rel wide) = jump_inside o point (destination_of o point)
branch_inside o point Hop = hop_inside o point (destination_of o point)
branch_inside o point _ = none o

through_inside : (o : Coded) (point : Point) → LeadInside o (branch_edges o point)
through_inside o point = by (returns_through o point)
  where
    by : (through : Option ℕ) → LeadInside o (if is_some through then [] else branch_edges_by o point (insn_of_object o point).op)
    by None = branch_inside o point (insn_of_object o point).op
    by (Some sym) = none o

places_inside : (o : Coded) (edges_of : Place → List Edge) → ((place : Place) → LeadInside o (edges_of place)) → (places : List Place) → LeadInside o (flat_map edges_of places)
places_inside o edges_of each [] = none o
places_inside o edges_of each (place ∷ places) = both o (edges_of place) (flat_map edges_of places) (each place) (places_inside o edges_of each places)

listed_inside : (o : Coded) (kind : EdgeKind) (point : Point) (places : List Place) → LeadInside o (listed_edges o kind point places)
listed_inside o kind point places =
    places_inside o (λ place. way_edges o point place (listed_way o kind (owner_of_point o point) place)) (λ place. way_inside o point place (listed_way o kind (owner_of_point o point) place)) places

table_inside : (o : Coded) (point : Point) → LeadInside o (table_edges o point)
table_inside o point = places_inside o (λ place. way_edges o point place (Along Table)) (λ place. way_inside o point place (Along Table)) (table_of_point o point)

next_inside : (o : Coded) (point : Point) → LeadInside o (next_edges o point)
next_inside o point = by (goes_on o point)
  where
    by : (b : Bool) → LeadInside o (if b then edges_to Next (after o point) else [])
    by true = to_points o Next (after o point) (after_inside o point)
    by false = none o

pub goes_inside : (o : Coded) (point : Point) → LeadInside o (goes o point)
unfolding goes
goes_inside o point = by (is_unchecked_point o point)
  where
    parts : LeadInside o (next_edges o point ++ (branch_edges o point ++ (listed_edges o Taken point (static_targets o point) ++ (listed_edges o Fixup point (fixups o point) ++ table_edges o point))))
    parts =
        both o (next_edges o point) _ (next_inside o point)
        (both o (branch_edges o point) _ (through_inside o point)
        (both o (listed_edges o Taken point (static_targets o point)) _ (listed_inside o Taken point (static_targets o point))
        (both o (listed_edges o Fixup point (fixups o point)) _ (listed_inside o Fixup point (fixups o point))
        (table_inside o point))))

    by : (b : Bool) → LeadInside o (if b then [] else next_edges o point ++ (branch_edges o point ++ (listed_edges o Taken point (static_targets o point) ++ (listed_edges o Fixup point (fixups o point) ++ table_edges o point))))
    by true = none o
    by false = parts
