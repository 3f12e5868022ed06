-- Whose code points are, in a list.
use Rattle.std.specs.Prelude.{◌≡◌, ◌≤◌, ℕ, Bool, true, false, List, [], ◌∷◌, ◌++◌, length, Option, slice_index_or, if◌then◌else◌}
use Rattle.ot_base.specs.NameLists.{NameLists}
use Rattle.ot_base.specs.declared.place.Place.{Place}
use Rattle.elf_objects.specs.Contents.{is_text, section_at}
use Rattle.elf_objects.specs.Elf.{Elf}
use Rattle.symbols_relocs.specs.Covers.{is_behind_symbol, is_covered, is_uncovered}
use Rattle.symbols_relocs.specs.NamedCode.{is_in_named_code}
use Rattle.symbols_relocs.specs.Extents.{have_byte, have_start}
use Rattle.symbols_relocs.specs.declared.extents.Extent.{Extent}
use Rattle.program_graph.specs.declared.parts.Owner.{Owner}
use Rattle.flow_defs.specs.Code.{point_at}
use Rattle.flow_defs.specs.Coded.{Coded}
use Rattle.flow_defs.specs.Owners.{function_of_point, is_unchecked, owner_of_point}
use Rattle.flow_defs.specs.Program.{is_loose_point, is_patch_section}
use Rattle.object_points.specs.declared.code_owners.CodeOwner.{CodeOwner}
use Rattle.object_points.specs.CodeOwners.{TellOwners}

-- the object, lists of names, and its items: four for each of its functions and for code of no function, and as many for loose code
pub record OwnerList : Type 0 where
  pub object : Coded
  pub lists : NameLists
  pub owners : List Owner

-- the item is that of a function, or of none; in a section to which control comes by patching alone or in another; of loose code or
-- other; and of code that no symbol covers or other
pub record IsOwnerBy (o : Elf) (f own : Option ℕ) (in_patches is_loose uncovered : Bool) (x : Owner) : Type 0 where
  pub function : f ≡ x.function
  pub owner : own ≡ x.owner
  pub unchecked : is_unchecked o own ≡ x.is_unchecked
  pub patches : in_patches ≡ x.in_patches
  pub loose : is_loose ≡ x.is_loose
  pub covered : uncovered ≡ x.is_uncovered

-- the item is that of the point with a number
abbrev pub IsOwnerOf : Coded → NameLists → ℕ → Owner → Type 0
IsOwnerOf o lists n x =
    let p = point_at o n in
    IsOwnerBy o.elf (function_of_point o p) (owner_of_point o p) (is_patch_section o.elf p.place.sec) (is_loose_point o lists p) (is_uncovered o.elf p.place) x

-- which sections are such ones
abbrev pub ArePatchSections : Elf → List Bool → Type 0
ArePatchSections o marks = (sec : ℕ) → slice_index_or marks sec false ≡ is_patch_section o sec

-- ---- the items
abbrev pub owner_by : CodeOwner → Bool → Bool → Bool → Owner
owner_by x loose uncovered in_patches = record {
  function = x.function;
  owner = x.owner;
  is_unchecked = x.is_unchecked;
  in_patches = in_patches;
  is_loose = loose;
  is_uncovered = uncovered;
}

-- the four of each, of loose code or of other
unfoldable pub fourfold : Bool → List CodeOwner → List Owner
fourfold loose [] = []
fourfold loose (x ∷ xs) = owner_by x loose false false ∷ owner_by x loose false true ∷ owner_by x loose true false ∷ owner_by x loose true true ∷ fourfold loose xs

-- those of an object that has loose code or none
abbrev pub all_owners : Bool → List CodeOwner → List Owner
all_owners some_loose items = fourfold false items ++ (if some_loose then fourfold true items else [])

-- ---- what tells of each point which it is
-- the extents of symbols of text sections
pub record AreCovered (o : Elf) (covered : List Extent) : Type 0 where
  pub bytes : (place : Place) → is_text (section_at o place.sec) ≡ true → have_byte covered place ≡ is_covered o place
  pub starts : (place : Place) → is_text (section_at o place.sec) ≡ true → have_start covered place ≡ is_behind_symbol o place

-- the items, the points' numbers of them, loose code, if there is some, and covered code
pub record AreOwners (o : Coded) (lists : NameLists) (items : List CodeOwner) (numbers : List ℕ) (owners : List Owner) (some_loose : Bool) (loose covered : List Extent) : Type 0 where
  pub told : TellOwners o items numbers
  pub few : length items ≤ 4194305
  pub all : owners ≡ all_owners some_loose items
  pub loose_code : (place : Place) → have_byte loose place ≡ is_in_named_code o.elf lists.loose place
  pub none_loose : some_loose ≡ false → (place : Place) → have_byte loose place ≡ false
  pub covered_code : AreCovered o.elf covered
