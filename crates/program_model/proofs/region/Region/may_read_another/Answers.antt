use Rattle.std.proofs.Common.{sym}
use Rattle.program_model.specs.Region.{region_of}
use Rattle.program_model.proofs.Writes.{another_outside}
use Rattle.program_model.proofs.region.Region.may_read_another.Goals as goal

-- where the word isn't in the region, 0 or 1 may be read
pub returns-in-None : goal.returns-in-None
returns-in-None c = λ h. another_outside (region_of c.args.self.now) c.args.address c.args.word (sym c.in-None.ensures)
