-- Code that switches tasks, as it is kept.
use Rattle.std.specs.Prelude.{◌≡◌, Bool, true, false, List}
use Rattle.ot_base.specs.NameLists.{NameLists}
use Rattle.ot_base.specs.declared.place.Place.{Place}
use Rattle.operation_defs.specs.declared.op.Op.{Op}
use Rattle.operation_defs.specs.declared.op.Op.TheVariants.{SpOther}
use Rattle.flow_defs.specs.Coded.{Coded}
use Rattle.symbols_relocs.specs.Extents.{have_byte}
use Rattle.symbols_relocs.specs.NamedCode.{is_in_named_code}
use Rattle.symbols_relocs.specs.declared.extents.Extent.{Extent}

-- these extents hold the code of an object whose names are listed as those of such code
abbrev pub AreSwitching : Coded → NameLists → List Extent → Type 0
AreSwitching o lists extents = (place : Place) → have_byte extents place ≡ is_in_named_code o.elf lists.switching place

-- an operation that is another where tasks are switched
abbrev pub is_other : Op → Bool
is_other SpOther = true
is_other _ = false
