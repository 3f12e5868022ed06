-- The names of symbols that were looked up in lists.
use Rattle.std.specs.Prelude.{◌≡◌, ℕ, Bool, List, Option, Some, slice_get}
use Rattle.ot_base.specs.NameLists.{NameLists}
use Rattle.elf_objects.specs.Elf.{Elf}
use Rattle.flow_defs.specs.Program.{never_returns_by}

-- What is known of the name of a symbol is whether it is listed as one that never returns.
abbrev pub AreLookedUp : Elf → NameLists → List (Option Bool) → Type 0
AreLookedUp o lists names = (sym : ℕ) (listed : Bool) → slice_get names sym ≡ Some (Some listed) → listed ≡ never_returns_by o lists sym
