-- Tables without a fault.
use Rattle.std.specs.Prelude.{◌≡◌, []}
use Rattle.ot_base.specs.NameLists.{NameLists}
use Rattle.elf_objects.specs.Elf.{Elf}
use Rattle.symbols_relocs.specs.NamedCode.{is_in_named_code}
use Rattle.special_sections.specs.Kinds.{faults}
use Rattle.special_sections.specs.Tables as tables
use Rattle.special_sections.specs.Hints as hint

-- no entry of the tables of an object has a fault, under lists of names
pub record HasRightTables (o : Elf) (lists : NameLists) : Type 0 where
  pub alternatives : faults tables.alternatives o ≡ []
  pub branches : faults tables.branches o ≡ []
  pub fixes : faults tables.fixes o ≡ []
  pub hints : faults (hint.hints (is_in_named_code o lists.loose)) o ≡ []
