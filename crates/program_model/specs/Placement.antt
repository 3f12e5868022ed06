-- Where the model places sections, as the definitions have it: a section that has no range begins at 0.
use Rattle.std.specs.Prelude.{ℕ, List, [], ◌∷◌, ◌==◌, if◌then◌else◌}
use Rattle.table_defs.specs.declared.range.Range.{Range}

abbrev pub bases_of : List Range → ℕ → ℕ
bases_of [] sec = 0
bases_of (range ∷ ranges) sec = if range.sec == sec then range.base else bases_of ranges sec
