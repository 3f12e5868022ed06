-- Whose code the points of an object are, by a list of items and the number of its item for each point.
use Rattle.std.specs.Prelude.{◌≡◌, ◌<◌, ◌≤◌, ◌+◌, ℕ, List, Option, Some, None, length, slice_get}
use Rattle.ot_base.specs.declared.place.Place.{Place}
use Rattle.elf_objects.specs.Elf.{Elf}
use Rattle.symbols_relocs.specs.declared.function.Function.{Function}
use Rattle.symbols_relocs.specs.Functions.{function_at}
use Rattle.symbols_relocs.specs.Lists.{symbol_of}
use Rattle.symbols_relocs.specs.Parts.{owner_at, owner_of}
use Rattle.alternatives.specs.Points.{address_of_point}
use Rattle.flow_defs.specs.Coded.{Coded}
use Rattle.flow_defs.specs.Code.{alternatives_of, point_at, points_of_object}
use Rattle.flow_defs.specs.Owners.{is_unchecked}
use Rattle.object_points.specs.declared.code_owners.CodeOwner.{CodeOwner}

-- the item is that of code of a function, or of none, with this owner
pub record IsItemBy (o : Elf) (f own : Option ℕ) (x : CodeOwner) : Type 0 where
  pub function : x.function ≡ f
  pub owner : x.owner ≡ own
  pub unchecked : x.is_unchecked ≡ is_unchecked o own

-- each item is that of the function with its index
abbrev pub AreItemsTo : Elf → List Function → List CodeOwner → Type 0
AreItemsTo o fs items = (i : ℕ) (x : CodeOwner) → slice_get items i ≡ Some x → IsItemBy o (Some (symbol_of fs i)) (Some (owner_of o (symbol_of fs i))) x

-- an item for each function, and behind them that of code of no function
pub record AreItems (o : Elf) (fs : List Function) (items : List CodeOwner) : Type 0 where
  pub long : length items ≡ length fs + 1
  pub each : (i : ℕ) (x : CodeOwner) → i < length fs → slice_get items i ≡ Some x → IsItemBy o (Some (symbol_of fs i)) (Some (owner_of o (symbol_of fs i))) x
  pub last : (x : CodeOwner) → slice_get items (length fs) ≡ Some x → IsItemBy o None None x

-- the item with a number is that of a place
pub record TellsOwner (o : Elf) (items : List CodeOwner) (place : Place) (number : ℕ) : Type 0 where
  pub inside : number < length items
  pub is : (x : CodeOwner) → slice_get items number ≡ Some x → IsItemBy o (function_at o place) (owner_at o place) x

-- a place is one of those of a section from an offset to another
pub record IsBetween (sec first last : ℕ) (place : Place) : Type 0 where
  pub section : place.sec ≡ sec
  pub from : first ≤ place.off
  pub to : place.off ≤ last

-- the item with a number is that of all of these
abbrev pub TellsOwners : Elf → List CodeOwner → ℕ → ℕ → ℕ → ℕ → Type 0
TellsOwners o items sec first last number = (place : Place) → IsBetween sec first last place → TellsOwner o items place number

-- the item of each point is that of the place where it runs
pub record TellOwners (o : Coded) (items : List CodeOwner) (numbers : List ℕ) : Type 0 where
  pub long : length numbers ≡ length (points_of_object o)
  pub each : (n k : ℕ) → slice_get numbers n ≡ Some k → TellsOwner o.elf items (address_of_point (alternatives_of o) (point_at o n)) k
