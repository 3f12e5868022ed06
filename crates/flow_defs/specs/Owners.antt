-- Who owns code, and which of it is checked (Linux 6.6, tools/objtool/Documentation/objtool.txt,
-- STACK_FRAME_NON_STANDARD).
use Rattle.std.specs.Prelude.{ℕ, ◌&&◌, not, Bool, false, Option, Some, None, is_none, option_map, option_and_then, if◌then◌else◌}
use Rattle.std.specs.List.{list_any}
use Rattle.ot_base.specs.declared.place.Place.{Place}
use Rattle.elf_objects.specs.Elf.{Elf}
use Rattle.flow_defs.specs.Coded.{Coded}
use Rattle.symbols_relocs.specs.Functions.{starts_at, function_at}
use Rattle.symbols_relocs.specs.Parts.{owner_at, owner_of, parent_of}
use Rattle.special_sections.specs.Special.{special_of}
use Rattle.alternatives.specs.declared.point.Point.{Point}
use Rattle.alternatives.specs.Points.{address_of_point}
use Rattle.flow_defs.specs.Tables.{same_owner}
use Rattle.flow_defs.specs.Code.{alternatives_of}

-- the function of a point, and its owner: those of the place where it runs
abbrev pub function_of_point : Coded → Point → Option ℕ
function_of_point o point = function_at o.elf (address_of_point (alternatives_of o) point)

abbrev pub owner_of_point : Coded → Point → Option ℕ
owner_of_point o point = owner_at o.elf (address_of_point (alternatives_of o) point)

-- the owner of the function that starts at a place
abbrev pub owner_of_start : Elf → Place → Option ℕ
owner_of_start o place = option_map (owner_of o) (starts_at o place)

-- an owner is unchecked where one of its functions is listed as one without a standard frame
unfoldable pub is_unchecked_owner : Elf → ℕ → Bool
is_unchecked_owner o owner = list_any (λ place. same_owner (owner_of_start o place) (Some owner)) (special_of o).unchecked

-- so is what it owns; code without owner is checked
abbrev pub is_unchecked : Elf → Option ℕ → Bool
is_unchecked o None = false
is_unchecked o (Some owner) = is_unchecked_owner o owner

abbrev pub is_unchecked_point : Coded → Point → Bool
is_unchecked_point o point = is_unchecked o.elf (owner_of_point o point)

-- an unchecked function starts at a place: this one
unfoldable pub unchecked_start : Elf → Place → Option ℕ
unchecked_start o place = option_and_then (λ f. if is_unchecked_owner o (owner_of o f) then Some f else None) (starts_at o place)

-- a function is an entry by its start where it is neither a part nor unchecked
abbrev pub is_entry_function : Elf → ℕ → Bool
is_entry_function o f = is_none (parent_of o f) && not (is_unchecked_owner o f)

abbrev pub is_entry_by : Elf → Option ℕ → Bool
is_entry_by o None = false
is_entry_by o (Some f) = is_entry_function o f

-- a place is an entry: the start of a function that is neither a part nor unchecked
unfoldable pub is_entry : Elf → Place → Bool
is_entry o place = is_entry_by o (starts_at o place)
