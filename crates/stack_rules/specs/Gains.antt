-- How a list of warnings grows.
use Rattle.std.specs.Prelude.{◌⊎◌, ◌↔◌, List, Contains}
use Rattle.ot_base.specs.declared.warning.Warning.{Warning}

-- the list has the warnings that it had, and those with the property
abbrev pub Gains : List Warning → List Warning → (Warning → Type 0) → Type 0
Gains old new P = (w : Warning) → Contains new w ↔ (Contains old w ⊎ P w)
