use Rattle.std.proofs.Common.{refl}
use Rattle.program_model.specs.Placement.{bases_of}
use Rattle.program_model.specs.Program.{program_of}
use Rattle.machine_model.specs.Standing.{standing_of}
use Rattle.machine_model.proofs.Lines.{calls_in_holds}
use Rattle.machine_model.proofs.calls.calls_in.Goals as goal

pub returns-in_ok-called-in-Some : goal.returns-in_ok-called-in-Some
returns-in_ok-called-in-Some c = λ set high.
    calls_in_holds (program_of c.args.p.now set) (bases_of c.args.placement.now) (standing_of c.args.s) (standing_of c.in_ok-called-in-Some.field-0) c.in-Some.ra c.args.entry c.args.at c.role.result
    c.role.ensures (c.if-not-may_call.ensures set refl) (c.if-not-enters.ensures set refl) (c.in-Some.ensures set) c.in_ok-called-in-Some.ensures high
