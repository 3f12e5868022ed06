-- The edges of the points of an object.
use Rattle.std.specs.Prelude.{ℕ, ◌&&◌, ◌||◌, not, Bool, true, false, List, [], ◌∷◌, ◌++◌, map, filter, flat_map, is_some, if◌then◌else◌}
use Rattle.ot_base.specs.declared.place.Place.{Place}
use Rattle.ot_base.specs.Places.{same_place}
use Rattle.operation_defs.specs.declared.op.Op.{Op}
use Rattle.operation_defs.specs.declared.op.Op.TheVariants.{Jmp, Jcc, JmpInd, Hop, Ret, RetImm, Iret, Switch}
use Rattle.flow_defs.specs.Coded.{Coded}
use Rattle.machine_defs.specs.declared.flow.Edge.{Edge}
use Rattle.machine_defs.specs.declared.flow.EdgeKind.{EdgeKind}
use Rattle.machine_defs.specs.declared.flow.EdgeKind.TheVariants.{Next, Taken, Fixup, Table}
use Rattle.machine_defs.specs.Program.{edge}
use Rattle.special_sections.specs.Special.{special_of}
use Rattle.alternatives.specs.declared.point.Point.{Point}
use Rattle.flow_defs.specs.Tables.{same_owner}
use Rattle.flow_defs.specs.declared.destination.Destination.{Destination}
use Rattle.flow_defs.specs.declared.destination.Destination.TheVariants.{ToPlace, ToOwnPoint}
use Rattle.flow_defs.specs.declared.destination.Way.{Way}
use Rattle.flow_defs.specs.declared.destination.Way.TheVariants.{Along}
use Rattle.flow_defs.specs.Code.{numbers_of}
use Rattle.flow_defs.specs.Owners.{owner_of_point, is_unchecked_point}
use Rattle.flow_defs.specs.Sites.{is_into_site}
use Rattle.flow_defs.specs.Arrival.{arrive, after, insn_of_object, is_dead_end, is_padding}
use Rattle.flow_defs.specs.Targets.{destination_of}
use Rattle.flow_defs.specs.Ways.{hop_way, jump_way, listed_way}
use Rattle.flow_defs.specs.Roles.{returns_through, table_of_point}

-- edges of a kind to points
abbrev pub edges_to : EdgeKind → List ℕ → List Edge
edges_to kind points = map (λ q. edge q kind) points

-- The edges along a way to a place: one to each point where control may stand that comes there, and none where it would
-- come into a site past its start.
abbrev pub way_edges : Coded → Point → Place → Way → List Edge
way_edges o point place (Along kind) = if is_into_site o point place then [] else edges_to kind (arrive o place)
way_edges o point place _ = []

-- where the static branches at a point lead, and the exception entries at it
abbrev pub static_targets : Coded → Point → List Place
static_targets o point =
    if is_padding o point then []
    else map (λ b. b.target) (filter (λ b. same_place b.code point.place) (special_of o.elf).branches)

abbrev pub fixups : Coded → Point → List Place
fixups o point =
    if is_padding o point then []
    else map (λ f. f.fixup) (filter (λ f. same_place f.insn point.place) (special_of o.elf).fixes)

abbrev pub is_some_place : List Place → Bool
is_some_place [] = false
is_some_place (place ∷ places) = true

-- operations behind which execution doesn't go on: unconditional and indirect jumps, calls within a function, returns, and ways
-- out of the code
abbrev pub ends_flow : Op → Bool
ends_flow (Jmp rel wide) = true
ends_flow (JmpInd table) = true
ends_flow Hop = true
ends_flow Ret = true
ends_flow RetImm = true
ends_flow Iret = true
ends_flow Switch = true
ends_flow _ = false

-- Execution goes on behind the point: always behind the code of a static branch, which may be a jump or none, and else
-- where the operation lets it and the point is no dead end. So it does behind each call: of one that can't come back
-- `edges_of` of the checker leaves out the edge, and `comes_back` the mark `past_end`.
unfoldable pub goes_on : Coded → Point → Bool
goes_on o point = is_some_place (static_targets o point) || (not (ends_flow (insn_of_object o point).op) && not (is_dead_end o point))

abbrev pub next_edges : Coded → Point → List Edge
next_edges o point = if goes_on o point then edges_to Next (after o point) else []

-- the edges of a direct jump by where it goes; inside a replacement it stays with its owner
abbrev pub jump_edges : Coded → Point → Destination → List Edge
jump_edges o point (ToPlace place weak crossing) = way_edges o point place (jump_way o point crossing place)
jump_edges o point (ToOwnPoint other) =
    if same_owner (owner_of_point o point) (owner_of_point o other) then edges_to Taken (numbers_of o (other ∷ [])) else []
jump_edges o point _ = []

-- those of a call within a function
abbrev pub hop_edges : Coded → Point → Destination → List Edge
hop_edges o point (ToPlace place weak crossing) = way_edges o point place (hop_way o point weak crossing place)
hop_edges o point (ToOwnPoint other) = jump_edges o point (ToOwnPoint other)
hop_edges o point _ = []

abbrev pub branch_edges_by : Coded → Point → Op → List Edge
branch_edges_by o point (Jmp rel wide) = jump_edges o point (destination_of o point)
branch_edges_by o point (Jcc rel wide) = jump_edges o point (destination_of o point)
branch_edges_by o point Hop = hop_edges o point (destination_of o point)
branch_edges_by o point _ = []

-- those of a branch; through code that returns for its caller control leaves, and has none
abbrev pub branch_edges : Coded → Point → List Edge
branch_edges o point = if is_some (returns_through o point) then [] else branch_edges_by o point (insn_of_object o point).op

-- the edges of the static branches at a point, and of its exception entries
abbrev pub listed_edges : Coded → EdgeKind → Point → List Place → List Edge
listed_edges o kind point places = flat_map (λ place. way_edges o point place (listed_way o kind (owner_of_point o point) place)) places

-- those of the jump table of an indirect jump, whose entries have the point's owner
abbrev pub table_edges : Coded → Point → List Edge
table_edges o point = flat_map (λ place. way_edges o point place (Along Table)) (table_of_point o point)

-- all edges of a point; one of an unchecked function has none
unfoldable pub goes : Coded → Point → List Edge
goes o point =
    if is_unchecked_point o point then []
    else next_edges o point
    ++ (branch_edges o point
    ++ (listed_edges o Taken point (static_targets o point)
    ++ (listed_edges o Fixup point (fixups o point)
    ++ table_edges o point)))
