-- The displacements of direct calls and branches.
use Rattle.std.specs.Prelude.{ℕ, Bool, true, Option, Some, None, is_some, if◌then◌else◌}
use Rattle.ot_base.specs.declared.place.Place.{Place}
use Rattle.operation_defs.specs.declared.op.Op.{Op}
use Rattle.operation_defs.specs.declared.op.Op.TheVariants.{Call, Jmp, Jcc}
use Rattle.elf_objects.specs.declared.symbol.Reloc.{Reloc}
use Rattle.elf_objects.specs.Elf.{Elf}
use Rattle.symbols_relocs.specs.declared.displacement.Displacement.{Displacement}
use Rattle.symbols_relocs.specs.declared.target.Target.{Target}
use Rattle.symbols_relocs.specs.declared.target.Target.TheVariants.{Bad}
use Rattle.symbols_relocs.specs.Targets.{last_bytes, relative_target, wide_target_by}

-- the displacement of a direct call or branch
abbrev pub displacement_of : Op → Option Displacement
displacement_of (Call rel) = Some (record { rel = rel; wide = true })
displacement_of (Jmp rel wide) = Some (record { rel = rel; wide = wide })
displacement_of (Jcc rel wide) = Some (record { rel = rel; wide = wide })
displacement_of _ = None

-- where it begins
abbrev pub field_of : Place → ℕ → Bool → Place
field_of place len wide = last_bytes place len (if wide then 4 else 1)

-- the target that it leads to, with the relocation that stands on it
abbrev pub field_target : Elf → Place → ℕ → Displacement → Option Reloc → Target
field_target o place len d reloc =
    if d.wide then wide_target_by o place len d.rel reloc
    else if is_some reloc then Bad else relative_target o place len d.rel
