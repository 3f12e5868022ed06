-- How a jump gets to where it goes.
use Rattle.std.specs.Prelude.{List, [], ◌∷◌, if◌then◌else◌}
use Rattle.ot_base.specs.declared.place.Place.{Place}
use Rattle.operation_defs.specs.declared.op.Op.{Op}
use Rattle.operation_defs.specs.declared.op.Op.TheVariants.{Hop, Jcc, Jmp}
use Rattle.alternatives.specs.declared.point.Point.{Point}
use Rattle.flow_defs.specs.Coded.{Coded}
use Rattle.flow_defs.specs.declared.destination.Destination.{Destination}
use Rattle.flow_defs.specs.declared.destination.Destination.TheVariants.{ToOwnPoint, ToPlace}
use Rattle.flow_defs.specs.declared.destination.Way.{Way}
use Rattle.flow_defs.specs.declared.destination.Way.TheVariants.{Bad}
use Rattle.flow_defs.specs.Edges.{jump_edges, way_edges}
use Rattle.flow_defs.specs.Targets.{destination_of}
use Rattle.flow_defs.specs.Ways.{hop_way, is_along, jump_way}
use Rattle.machine_defs.specs.declared.flow.Edge.{Edge}

-- the way of a jump to the place that it goes to; one that goes to no place of the text, or inside its replacement, has none
abbrev pub destination_way : Coded → Point → Destination → Way
destination_way o point (ToPlace place weak crossing) = jump_way o point crossing place
destination_way o point _ = Bad

-- that of a call within a function
abbrev pub within_way : Coded → Point → Destination → Way
within_way o point (ToPlace place weak crossing) = hop_way o point weak crossing place
within_way o point _ = Bad

-- what is no direct jump, and no call within a function, has none
abbrev pub direct_way : Coded → Point → Op → Way
direct_way o point (Jmp rel wide) = destination_way o point (destination_of o point)
direct_way o point (Jcc rel wide) = destination_way o point (destination_of o point)
direct_way o point Hop = within_way o point (destination_of o point)
direct_way o point _ = Bad

-- the edges to where a jump goes, along this way where that is a place
abbrev pub edges_along : Coded → Point → Way → Destination → List Edge
edges_along o point way (ToPlace place weak crossing) = way_edges o point place way
edges_along o point way (ToOwnPoint other) = jump_edges o point (ToOwnPoint other)
edges_along o point way _ = []

-- the place where it goes, where this way leads along an edge
abbrev pub places_along : Way → Destination → List Place
places_along way (ToPlace place weak crossing) = if is_along way then place ∷ [] else []
places_along way _ = []
