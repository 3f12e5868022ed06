use Rattle.orc_bytes.proofs.OneList.{one_list_fits}
use Rattle.orc_output.specs.OrcOutput.{with_orc_object}
use Rattle.orc_output.proofs.Held.{held}
use Rattle.orc_output.proofs.Known.{known}
use Rattle.composition_law.proofs.rows_are_read_back.Goals as goal

pub returns : goal.returns
returns c = λ o rows other is can. let done = held o rows (known o.bytes o is) can in (done, λ holds. one_list_fits (with_orc_object o rows) other rows holds done)
