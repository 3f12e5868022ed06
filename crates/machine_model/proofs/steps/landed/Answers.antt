use Rattle.std.proofs.Common.{refl}
use Rattle.machine_defs.specs.Hint.{Lands}
use Rattle.machine_model.specs.declared.standing.Standing.{Standing}
use Rattle.program_model.specs.Program.{program_of}
use Rattle.machine_model.specs.Standing.{standing_of}
use Rattle.machine_model.proofs.Chosen.{at_some}
use Rattle.machine_model.proofs.steps.landed.Goals as goal

pub returns-in-Some : goal.returns-in-Some
returns-in-Some c = λ set. record {
  after = standing_of c.in-Some.u;
  at = refl;
  lands = at_some (λ (u : Standing). Lands (program_of c.args.p.now set) (standing_of c.args.t) (standing_of u)) _ _ c.in-Some.is (c.in_ok-lands.ensures set);
}
