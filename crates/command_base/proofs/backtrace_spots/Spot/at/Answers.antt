use Rattle.command_base.proofs.SpotLemmas.{new_spot}
use Rattle.command_base.proofs.backtrace_spots.Spot.at.Goals as goal

pub returns-clause-new : goal.returns-clause-new
returns-clause-new c p states = new_spot p states c.args.place
