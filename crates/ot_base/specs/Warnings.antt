-- Warnings by what their rules tell.
use Rattle.std.specs.Prelude.{ℕ, ℤ, pos}
use Rattle.ot_base.specs.declared.place.Place.{Place}
use Rattle.ot_base.specs.declared.warning.Warning.{Warning}

-- a warning that tells two numbers
abbrev pub numbered_warning : Place → ℕ → ℤ → ℤ → Warning
numbered_warning place rule x y = record { place = place; rule = rule; a = x; b = y }

-- a warning that tells none
abbrev pub bare_warning : Place → ℕ → Warning
bare_warning place rule = numbered_warning place rule (pos 0) (pos 0)
