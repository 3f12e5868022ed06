-- From which of an object's points a return may come, as its edges tell.
use Rattle.std.specs.Prelude.{ℕ, List}
use Rattle.ot_base.specs.NameLists.{NameLists}
use Rattle.flow_defs.specs.Coded.{Coded}
use Rattle.machine_defs.specs.declared.flow.Edge.{Edge}
use Rattle.control_flow.specs.Listed.{AreEdges, count_of}
use Rattle.control_flow.specs.Returns.{AreReturns}
use Rattle.return_search.specs.declared.found_returns.Returns.{Returns}

-- from which points a return may come is told of the object's edges: these are listed, where the points `alike` have the
-- edges of another point, and it follows from them
pub record AreReturnsOfEdges (o : Coded) (lists : NameLists) (returns : Returns) (alike : List ℕ) : Type 0 where
  pub starts : List ℕ
  pub edges : List Edge
  pub listed : AreEdges o starts edges alike (count_of o)
  pub told : AreReturns o lists starts edges returns
