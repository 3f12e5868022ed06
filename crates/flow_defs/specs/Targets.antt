-- Where direct calls and branches go, from the code of an object and from its replacements.
use Rattle.std.specs.Prelude.{ℕ, ℤ, pos, ◌+ℤ◌, ◌+◌, ◌&&◌, not, Bool, Option, Some, None, is_none, option_map, if◌then◌else◌}
use Rattle.ot_base.specs.declared.place.Place.{Place}
use Rattle.ot_base.specs.Places.{same_place}
use Rattle.operation_defs.specs.declared.insn.Insn.{Insn}
use Rattle.operation_defs.specs.declared.op.Op.{Op}
use Rattle.operation_defs.specs.declared.op.Op.TheVariants.{Call, Jmp, Jcc}
use Rattle.elf_objects.specs.Elf.{Elf}
use Rattle.flow_defs.specs.Coded.{Coded}
use Rattle.symbols_relocs.specs.NamedPlaces.{offset_of, reloc_at}
use Rattle.symbols_relocs.specs.declared.target.Target.{Target}
use Rattle.symbols_relocs.specs.declared.target.Target.TheVariants.{Inside, Either, Outside, ThunkIndirect, ThunkReturn, Bad}
use Rattle.symbols_relocs.specs.Targets.{branch_target, last_bytes}
use Rattle.symbols_relocs.specs.BranchNames.{branch_name}
use Rattle.symbols_relocs.specs.NamedCode.{returning_at}
use Rattle.alternatives.specs.declared.point.Point.{Point}
use Rattle.alternatives.specs.Points.{is_point}
use Rattle.alternatives.specs.Texts.{is_boundary}
use Rattle.flow_defs.specs.declared.destination.Crossing.TheVariants.{MayCross, MayNotCross}
use Rattle.flow_defs.specs.declared.destination.Destination.{Destination}
use Rattle.flow_defs.specs.declared.destination.Destination.TheVariants.{ToPlace, ToOwnPoint, ToOutside, ToIndirectThunk, ToReturnThunk, ToNowhere}
use Rattle.flow_defs.specs.Code.{texts_of, alternatives_of, is_plain}
use Rattle.flow_defs.specs.Decoded.{decoded_insn, replacement_end, site_end}

-- a displacement: how many bytes of the instruction's end it has, and its value
pub record Displacement : Type 0 where
  pub bytes : ℕ
  pub value : ℤ

abbrev pub jump_displacement : ℤ → Bool → Displacement
jump_displacement rel wide = record { bytes = if wide then 4 else 1; value = rel }

-- the displacement of a direct call or branch
abbrev pub displacement_of : Op → Option Displacement
displacement_of (Call rel) = Some (record { bytes = 4; value = rel })
displacement_of (Jmp rel wide) = Some (jump_displacement rel wide)
displacement_of (Jcc rel wide) = Some (jump_displacement rel wide)
displacement_of _ = None

-- no relocation stands on it
abbrev pub lacks_reloc : Elf → Place → ℕ → Displacement → Bool
lacks_reloc o place len d = is_none (reloc_at o (last_bytes place len d.bytes))

-- the place so far from the instruction's end, where 64 bits hold its offset
abbrev pub relative_place : Place → ℕ → Displacement → Option Place
relative_place place len d = option_map (λ off. record { sec = place.sec; off = off }) (offset_of (pos (place.off + len) +ℤ d.value))

-- the destination that a relocation names, or that a displacement of the object's own code leads to
abbrev pub named_destination : Target → Destination
named_destination (Inside place) = ToPlace place None MayCross
named_destination (Either place sym) = ToPlace place (Some sym) MayCross
named_destination (Outside sym) = ToOutside sym
named_destination ThunkIndirect = ToIndirectThunk
named_destination ThunkReturn = ToReturnThunk
named_destination Bad = ToNowhere

-- Without a relocation a replacement's code can only mean itself, since it runs elsewhere than it stands: a point of
-- the same replacement, or its end, which is its padding, or without padding the end of its site. A branch to there
-- doesn't cross into code without an owner.
abbrev pub own_destination : Coded → Point → Option Place → Destination
own_destination o point None = ToNowhere
own_destination o point (Some place) =
    let other : Point = record { place = place; variant = point.variant } in
    if is_point (texts_of o) (alternatives_of o) other then ToOwnPoint other
    else if same_place place (replacement_end o point) then ToPlace (site_end o point) None MayNotCross
    else ToNowhere

abbrev pub destination_by : Coded → Point → Insn → Option Displacement → Destination
destination_by o point insn None = ToNowhere
destination_by o point insn (Some d) =
    if not (is_plain point) && lacks_reloc o.elf point.place insn.len d then own_destination o point (relative_place point.place insn.len d)
    else named_destination (branch_target o.elf point.place insn)

-- where a direct call or branch at a point goes; its edges, its role and its marks are told by this alone
unfoldable pub destination : Coded → Point → Insn → Destination
destination o point insn = destination_by o point insn (displacement_of insn.op)

-- that of the instruction at a point as it is decoded: of a call within a function, where its call goes
abbrev pub destination_of : Coded → Point → Destination
destination_of o point = destination o point (decoded_insn o point)

-- the symbol by which a call, or a jump by a displacement of 32 bits, names its target, if other objects know it
abbrev pub names_of : Coded → Point → Option ℕ
names_of o point = branch_name o.elf point.place (decoded_insn o point)

-- A destination is the place of code that returns for its caller, that of this symbol. Without a relocation a replacement's code
-- doesn't go there.
abbrev pub returning_target : Coded → Destination → Option ℕ
returning_target o (ToPlace place weak MayCross) = returning_at o.elf place
returning_target o _ = None

-- it is, and no instruction begins there: the code begins inside another one
abbrev pub returning_inside : Coded → Destination → Option ℕ
returning_inside o (ToPlace place weak MayCross) = if is_boundary (texts_of o) place then None else returning_at o.elf place
returning_inside o _ = None
