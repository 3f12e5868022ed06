use Rattle.std.proofs.Common.{refl}
use Rattle.machine_defs.proofs.EndLemmas.{end_is_told}
use Rattle.machine_defs.proofs.machine_laws.end_is_told.Goals as goal

pub returns : goal.returns
returns c p states told s t = let e = end_is_told p s t states told (p.loose s.point) refl in (e.0, e.1.0, e.1.1)
