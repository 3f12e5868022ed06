use Rattle.x86_decode.proofs.Exact.{map-exact}
use Rattle.x86_decode.proofs.map_is_exact.Goals as goal

pub returns : goal.returns
returns c = map-exact
