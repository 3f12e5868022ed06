-- The displacements that code holds.
use Rattle.point_arrivals.specs.declared.displacement.Displacement as held
use Rattle.flow_defs.specs.Targets.{Displacement}

-- the displacement that is meant
abbrev pub meant : held.Displacement → Displacement
meant d = record { bytes = d.bytes; value = d.value }
