use Rattle.flow_defs.specs.Coded.{Coded}
use Rattle.control_flow.proofs.Told.{exit_calls_point}
use Rattle.control_flow.proofs.outgoing.look_around.Goals as goal

pub returns-clause-found : goal.returns-clause-found
returns-clause-found c =
    let o : Coded = c.args.points.now in (
      record {
        is = c.exit.ensures.is;
        known = exit_calls_point o c.args.lists.now c.args.n c.role-role.result c.exit.result c.role-role.ensures.value c.exit.ensures.is (record { inside = c.role-role.ensures.known; weak = c.role-role.ensures.known_by_weak });
      },
      c.transfer_of.ensures,
    )
