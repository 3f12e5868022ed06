-- How control comes to the places that branches, static branches and exception entries lead to. Only a branch without a
-- relocation in a replacement may not cross into code without an owner, nor out of it.
use Rattle.std.specs.Prelude.{ℕ, ◌&&◌, not, Bool, true, false, Option, Some, None, if◌then◌else◌}
use Rattle.ot_base.specs.declared.place.Place.{Place}
use Rattle.alternatives.specs.Texts.{is_boundary}
use Rattle.elf_objects.specs.Elf.{Elf}
use Rattle.flow_defs.specs.Coded.{Coded}
use Rattle.machine_defs.specs.declared.flow.EdgeKind.{EdgeKind}
use Rattle.machine_defs.specs.declared.flow.EdgeKind.TheVariants.{Sibling, Taken}
use Rattle.symbols_relocs.specs.Parts.{owner_at}
use Rattle.alternatives.specs.declared.point.Point.{Point}
use Rattle.flow_defs.specs.Tables.{same_owner}
use Rattle.flow_defs.specs.declared.destination.Crossing.{Crossing}
use Rattle.flow_defs.specs.declared.destination.Crossing.TheVariants.{MayCross, MayNotCross}
use Rattle.flow_defs.specs.declared.destination.Way.{Way}
use Rattle.flow_defs.specs.declared.destination.Way.TheVariants.{Bad, Outside, Along}
use Rattle.flow_defs.specs.Code.{texts_of}
use Rattle.flow_defs.specs.Owners.{is_unchecked, is_entry, owner_of_point, unchecked_start}

-- one of two owners is there, and it is checked: control may pass between a checked function and code of no function
abbrev pub is_crossing : Elf → Option ℕ → Option ℕ → Bool
is_crossing o (Some owner) None = not (is_unchecked o (Some owner))
is_crossing o None (Some owner) = not (is_unchecked o (Some owner))
is_crossing o None None = false
is_crossing o (Some one) (Some other) = false

abbrev pub may_cross : Crossing → Bool
may_cross MayCross = true
may_cross MayNotCross = false

-- The way from code of an owner to a boundary at which no unchecked function starts: along an edge of the kind to code of the
-- same owner, and by a tail call to an entry of another; for one that may cross, along an edge of the kind also between a
-- checked function and code of no function.
abbrev pub checked_way : Coded → Crossing → EdgeKind → Option ℕ → Place → Way
checked_way o crossing kind from place =
    if same_owner from (owner_at o.elf place) then Along kind
    else if is_entry o.elf place then Along Sibling
    else if may_cross crossing && is_crossing o.elf from (owner_at o.elf place) then Along kind
    else Bad

abbrev pub way_by : Coded → Crossing → EdgeKind → Option ℕ → Place → Option ℕ → Way
way_by o crossing kind from place (Some f) = Outside f
way_by o crossing kind from place None = checked_way o crossing kind from place

-- the way of a branch from code of an owner to a place; the start of an unchecked function is like code outside
unfoldable pub branch_way : Coded → Crossing → EdgeKind → Option ℕ → Place → Way
branch_way o crossing kind from place =
    if is_boundary (texts_of o) place then way_by o crossing kind from place (unchecked_start o.elf place) else Bad

-- the way of a direct jump at a point to a place
abbrev pub jump_way : Coded → Point → Crossing → Place → Way
jump_way o point crossing place = branch_way o crossing Taken (owner_of_point o point) place

-- along a taken edge, or none
abbrev pub taken_only : Way → Way
taken_only (Along Taken) = Along Taken
taken_only _ = Bad

-- The way of a call within a function, by a WEAK symbol or not: that of a jump, but to no other function, and by no symbol that
-- another object may define.
abbrev pub hop_way : Coded → Point → Option ℕ → Crossing → Place → Way
hop_way o point (Some sym) crossing place = Bad
hop_way o point None crossing place = taken_only (jump_way o point crossing place)

-- a static branch or an exception entry doesn't go outside
abbrev pub inside_only : Way → Way
inside_only Bad = Bad
inside_only (Outside f) = Bad
inside_only (Along kind) = Along kind

-- the way of a static branch or an exception entry
abbrev pub listed_way : Coded → EdgeKind → Option ℕ → Place → Way
listed_way o kind from place = inside_only (branch_way o MayCross kind from place)

abbrev pub is_bad : Way → Bool
is_bad Bad = true
is_bad (Outside f) = false
is_bad (Along kind) = false

abbrev pub is_along : Way → Bool
is_along Bad = false
is_along (Outside f) = false
is_along (Along kind) = true
