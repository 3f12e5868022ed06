-- The edges to the entries of a jump table.
use Rattle.std.specs.Prelude.{List}
use Rattle.std.specs.List.{flat_map}
use Rattle.ot_base.specs.declared.place.Place.{Place}
use Rattle.flow_defs.specs.Coded.{Coded}
use Rattle.machine_defs.specs.declared.flow.Edge.{Edge}
use Rattle.machine_defs.specs.declared.flow.EdgeKind.TheVariants.{Table}
use Rattle.alternatives.specs.declared.point.Point.{Point}
use Rattle.flow_defs.specs.declared.destination.Way.TheVariants.{Along}
use Rattle.flow_defs.specs.Edges.{way_edges}

-- the edges of an indirect jump to some entries of its table
abbrev pub entry_edges : Coded → Point → List Place → List Edge
entry_edges o point places = flat_map (λ place. way_edges o point place (Along Table)) places
