-- What the special sections of an object say, and what keeps them from being read.
use Rattle.std.specs.Prelude.{List, ◌++◌, filter, false}
use Rattle.ot_base.specs.declared.place.Place.{Place}
use Rattle.ot_base.specs.NameLists.{NameLists}
use Rattle.elf_objects.specs.Elf.{Elf}
use Rattle.symbols_relocs.specs.NamedCode.{is_in_named_code}
use Rattle.special_sections.specs.declared.entries.AltEntry.{AltEntry}
use Rattle.special_sections.specs.declared.entries.BranchEntry.{BranchEntry}
use Rattle.special_sections.specs.declared.entries.FixEntry.{FixEntry}
use Rattle.special_sections.specs.declared.entries.HintEntry.{HintEntry}
use Rattle.special_sections.specs.declared.fault.SpecialFault.{SpecialFault}
use Rattle.special_sections.specs.declared.fields.Bound.TheVariants.{BelowEnd}
use Rattle.special_sections.specs.Fields.{is_text_place}
use Rattle.special_sections.specs.Kinds.{entries, faults}
use Rattle.special_sections.specs.Nested.{nested}
use Rattle.special_sections.specs.Tables as tables
use Rattle.special_sections.specs.Hints as hint
use Rattle.special_sections.specs.PlaceLists as lists

-- the entries of each kind, those of one kind by section and then by their order in it
pub record SpecialEntries : Type 0 where
  pub alternatives : List AltEntry
  pub branches : List BranchEntry
  pub fixes : List FixEntry
  pub hints : List HintEntry
  pub after_reachable : List Place
  pub after_unreachable : List Place
  pub unchecked : List Place
  pub safe_branches : List Place
  pub intra_calls : List Place

-- What the special sections of an object say, wherever its code is loose. Alternatives at one place are nested in one another; a
-- place of the unchecked list that is not in a text section is passed by.
abbrev pub special_of : Elf → SpecialEntries
special_of o = record {
  alternatives = nested (entries tables.alternatives o);
  branches = entries tables.branches o;
  fixes = entries tables.fixes o;
  hints = entries (hint.hints (λ _. false)) o;
  after_reachable = entries lists.after_reachable o;
  after_unreachable = entries lists.after_unreachable o;
  unchecked = filter (is_text_place o BelowEnd) (entries lists.unchecked o);
  safe_branches = entries lists.safe_branches o;
  intra_calls = entries lists.intra_calls o;
}

-- the faults of the lists of places, in order
abbrev pub list_faults : Elf → List SpecialFault
list_faults o =
    faults lists.after_reachable o
    ++ (faults lists.after_unreachable o
    ++ (faults lists.unchecked o
    ++ (faults lists.safe_branches o
    ++ faults lists.intra_calls o)))

-- All of their faults, in order. Entries are judged as they are written, and hints also by which code is loose: that in the bytes
-- of symbols whose names are listed so.
abbrev pub special_faults : Elf → NameLists → List SpecialFault
special_faults o names =
    faults tables.alternatives o
    ++ (faults tables.branches o
    ++ (faults tables.fixes o
    ++ (faults (hint.hints (is_in_named_code o names.loose)) o
    ++ list_faults o)))
