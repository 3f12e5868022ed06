use Rattle.std.proofs.Common.{refl}
use Rattle.flow_defs.specs.Coded.{Coded}
use Rattle.return_search.specs.declared.searched_flow.Flow.{Flow}
use Rattle.control_flow.specs.Listed.{AreEntered, count_of}
use Rattle.control_flow.proofs.Told.{flow_count, has_shape, tells_flow}
use Rattle.control_flow.proofs.returning.flow_of.Goals as goal

pub returns : goal.returns
returns c =
    let o : Coded = c.args.points.now in
    let lists = c.args.lists.now in
    let flow : Flow = record {
      starts = c.args.list.starts;
      edges = c.args.list.edges;
      exits = c.args.exits;
      dead_ends = c.args.dead_ends;
      entered = c.in_ok-entered.entered;
    } in
    let entered : AreEntered o c.in_ok-entered.entered.items (count_of o) = c.in_ok-entered.ensures in
    record {
      listed = (refl, refl);
      told = tells_flow o lists flow c.requires.edges.0 c.requires.edges.1 c.requires.exits c.requires.dead_ends entered c.program_is_right.ensures;
      shape = has_shape o lists flow c.requires.edges.0 c.requires.edges.1 c.requires.exits c.requires.dead_ends entered c.program_is_right.ensures c.requires.few;
      count = flow_count o lists flow c.requires.edges.0 c.requires.edges.1 c.requires.exits c.requires.dead_ends entered c.program_is_right.ensures;
      entered = entered;
    }
