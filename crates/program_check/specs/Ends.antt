-- The rows that end sections.
use Rattle.std.specs.Prelude.{ℕ, ◌==◌, List, [], ◌∷◌, ◌++◌, length, drop, if◌then◌else◌}
use Rattle.ot_base.specs.declared.row.PlacedRow.{PlacedRow}
use Rattle.machine_defs.specs.Program.{TextSection}
use Rattle.machine_defs.specs.Rows.{with_end}

-- the rows of a section in front of all others
abbrev pub in_front : ℕ → List PlacedRow → List PlacedRow
in_front sec [] = []
in_front sec (x ∷ rows) = if x.place.sec == sec then x ∷ in_front sec rows else []

-- the rows of sections, one section after another, each with a row at its end where it has a row
abbrev pub with_ends : List TextSection → List PlacedRow → List PlacedRow
with_ends [] rows = []
with_ends (text ∷ texts) rows = with_end text (in_front text.sec rows) ++ with_ends texts (drop (length (in_front text.sec rows)) rows)
