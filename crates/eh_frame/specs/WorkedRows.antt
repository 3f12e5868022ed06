-- The rows of worked examples, in section 1.
use Rattle.std.specs.Prelude.{List, [], ◌∷◌}
use Rattle.ot_base.specs.declared.row.PlacedRow.{PlacedRow}
use Rattle.table_defs.specs.Worked.{at_place, call_row, saved_row, frame_pointer_row, zero_row}

-- `ret`
abbrev pub leaf_rows : List PlacedRow
leaf_rows = at_place 1 0 (call_row 8) ∷ at_place 1 1 zero_row ∷ []

-- `push rbp; mov rbp, rsp; pop rbp; ret`
abbrev pub frame_rows : List PlacedRow
frame_rows = at_place 1 0 (call_row 8) ∷ at_place 1 1 (saved_row 16) ∷ at_place 1 4 frame_pointer_row ∷ at_place 1 5 (call_row 8) ∷ at_place 1 6 zero_row ∷ []
