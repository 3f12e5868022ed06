-- The table of a program from the rows that begin in it.
use Rattle.std.proofs.Common.{◌≡◌, ℕ, ◌<◌, List, [], Option, flat_map, ap, ◌∙◌}
use Rattle.std.specs.List.{AllPairs}
use Rattle.ot_base.specs.declared.row.PlacedRow.{PlacedRow}
use Rattle.state_defs.specs.declared.state.State.{State}
use Rattle.state_defs.specs.Row.{zero_row}
use Rattle.machine_defs.specs.Program.{Program}
use Rattle.machine_defs.specs.Rows.{all_rows, rows_of}
use Rattle.table_law.proofs.Compress.{left_in as left_is_in}
use Rattle.program_check.specs.Changes.{add_all}
use Rattle.program_check.specs.Ends.{with_ends}
use Rattle.program_check.proofs.Whole.{in_section}
use Rattle.program_check.proofs.Compressed.{left_in, added}
use Rattle.program_check.proofs.Ended.{ended}

pub table_is : (p : Program) (states : ℕ → Option State) (all : List PlacedRow) → AllPairs (λ one other. one.sec < other.sec) p.texts → all ≡ flat_map (all_rows p states) p.texts → with_ends p.texts (add_all [] all) ≡ rows_of p states
table_is p states all up is =
    ap (λ (xs : List PlacedRow). with_ends p.texts (add_all [] xs)) is
    ∙ ap (with_ends p.texts) (added (all_rows p states) (in_section p states) p.texts up)
    ∙ ended (left_in (all_rows p states) (in_section p states)) (λ text x c. in_section p states text x (left_is_in zero_row (all_rows p states text) x c)) p.texts up
