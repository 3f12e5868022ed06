use Rattle.std.proofs.Common.{◌≡◌, ◌<◌, ℕ, List, Some, true, length, refl, subst, arith}
use Rattle.std.specs.Prelude.{slice_get, slice_index}
use Rattle.std.proofs.lemmas.Option.{slice_get_read}
use Rattle.flow_defs.specs.Coded.{Coded}
use Rattle.flow_defs.specs.Code.{point_at}
use Rattle.program_graph.specs.declared.parts.Transfer.{Transfer}
use Rattle.control_flow.specs.Found.{IsFound}
use Rattle.control_flow.specs.Lone.{GoAlike}
use Rattle.control_flow.specs.Transfers.{IsTransfer, IsTransferIfBack}
use Rattle.control_flow.proofs.Going.{kept_alike}
use Rattle.control_flow.proofs.Numbering.{numbered_at, numbered_inside}
use Rattle.control_flow.proofs.outgoing.keep.Goals as goal

pub index-known-requires : goal.index-known-requires
index-known-requires c =
    let o : Coded = c.args.points.now in
    let n : ℕ = c.args.n in
    let r : ℕ = c.in-Alike.first in
    let numbers : List ℕ = c.args.numbers.now in
    let found : (r < n) × GoAlike o (point_at o n) (point_at o r) = subst (IsFound o c.args.lists.now n) c.in-Alike.is c.requires.found in
    let there : slice_index numbers r < length c.args.transfers.now.items = numbered_inside (IsTransferIfBack o) c.args.transfers.now.items numbers n r (slice_index numbers r) c.requires.numbered.have found.0 refl in
    omega (arith, there, c.args.transfers.now.ok)

pub returns-in_ok-number-in-Alike : goal.returns-in_ok-number-in-Alike
returns-in_ok-number-in-Alike c =
    let o : Coded = c.args.points.now in
    let n : ℕ = c.args.n in
    let r : ℕ = c.in-Alike.first in
    let numbers : List ℕ = c.args.numbers.now in
    let m : ℕ = slice_index numbers r in
    let before : List Transfer = c.args.transfers.now.items in
    let found : (r < n) × GoAlike o (point_at o n) (point_at o r) = subst (IsFound o c.args.lists.now n) c.in-Alike.is c.requires.found in
    let there : m < length before = numbered_inside (IsTransferIfBack o) before numbers n r m c.requires.numbered.have found.0 refl in
    let at : slice_get before m ≡ Some c.index-known.result.now = slice_get_read before (length before) m c.index-known.result.now refl there c.index-known.ensures in
    let is : IsTransfer o r true c.index-known.result.now = numbered_at (IsTransferIfBack o) before numbers n r m c.index-known.result.now c.requires.numbered.have found.0 refl at in
    rw c.passing.ensures (kept_alike o c.args.lists.now before c.number_transfer-in-Alike.new.transfers.items n r c.alike_transfer.result c.in_ok-number-in-Alike.number found.1 (c.alike_transfer.ensures r found.1 is) c.in_ok-number-in-Alike.ensures)
