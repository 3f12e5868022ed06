-- What is kept of the tables.
use Rattle.std.specs.Prelude.{◌≡◌, ◌<◌, ◌≤◌, ℕ, ◌==◌, ◌||◌, true, false, List, [], ◌∷◌, Option, Some, None, length, slice_index_or, option_and_then, MatchOption, if◌then◌else◌}
use Rattle.std.specs.List.{list_any}
use Rattle.ot_base.specs.declared.place.Place.{Place}
use Rattle.ot_base.specs.Places.{is_before, same_place}
use Rattle.elf_objects.specs.Elf.{Elf}
use Rattle.symbols_relocs.specs.Parts.{owner_at}
use Rattle.special_sections.specs.declared.entries.AltEntry.{AltEntry}
use Rattle.alternatives.specs.declared.point.Point.{Point}
use Rattle.alternatives.specs.declared.texts.SectionText.{SectionText}
use Rattle.jump_tables.specs.declared.jump.Jump.{Jump}
use Rattle.jump_tables.specs.declared.table.Table.{Table}
use Rattle.jump_tables.specs.Jumps.{jump_among, AreByJump}
use Rattle.flow_defs.specs.Tables.{entries_for, is_table, same_owner}

-- no one is before one in front of it
abbrev pub AreByPlace : List Place → Type 0
AreByPlace places = (i j : ℕ) (d : Place) → i ≤ j → j < length places → is_before (slice_index_or places j d) (slice_index_or places i d) ≡ false

-- each is before those behind it
abbrev pub AreRising : List Place → Type 0
AreRising places = (i j : ℕ) (d : Place) → i < j → j < length places → is_before (slice_index_or places i d) (slice_index_or places j d) ≡ true

-- the index of the first of these that is a place, or that there is none
abbrev pub IsFirstOf : List Place → Place → Option ℕ → Type 0
IsFirstOf places place found =
    MatchOption found ((k : ℕ) (d : Place) → k < length places → same_place place (slice_index_or places k d) ≡ false)
    (λ i. (i < length places) × ((d : Place) → slice_index_or places i d ≡ place) × ((k : ℕ) (d : Place) → k < i → same_place place (slice_index_or places k d) ≡ false))

-- these are where tables of jumps begin
abbrev pub AreStarts : Elf → List SectionText → List AltEntry → List Place → Type 0
AreStarts o texts entries starts = (place : Place) → list_any (same_place place) starts ≡ is_table o texts entries place

-- an entry, where its owner is the one that is asked for
abbrev pub entry_for : Elf → Option ℕ → Option Place → Option Place
entry_for o owner entry = option_and_then (λ place. if same_owner (owner_at o place) owner then Some place else None) entry

-- the entries for an owner, of a table whose entries for its first one's owner are kept
abbrev pub kept_for : Table → Option ℕ → List Place
kept_for table owner = if same_owner table.owner owner then table.entries.items else []

-- what is kept of the table that begins at a place gives its entries for each owner
pub record IsTableFrom (o : Elf) (texts : List SectionText) (entries : List AltEntry) (start : Place) (table : Table) : Type 0 where
  pub kept : (owner : Option ℕ) → kept_for table owner ≡ entries_for o texts entries start owner

-- what is kept of the table that begins at a place, where the tables begin at these places
abbrev pub table_at : List Place → List Table → Place → Option Table
table_at (start ∷ starts) (table ∷ tables) place = if same_place place start then Some table else table_at starts tables place
table_at _ _ place = None

-- its entries for an owner; none where there is no such table
abbrev pub of_table : Option ℕ → Option Table → List Place
of_table owner (Some table) = kept_for table owner
of_table owner None = []

-- the table that a jump has at a point of a variant: in a replacement only the one that it names itself
abbrev pub start_at : ℕ → Jump → Option Place
start_at variant jump = if variant == 0 || jump.named then Some jump.table else None

-- the entries of the table that begins at a place; none where there is no place
abbrev pub of_start : List Place → List Table → Option ℕ → Option Place → List Place
of_start starts tables owner (Some start) = of_table owner (table_at starts tables start)
of_start starts tables owner None = []

-- what is kept: the jumps, where their tables begin, and what each of these tables has
pub record KeptTables : Type 0 where
  pub jumps : List Jump
  pub starts : List Place
  pub tables : List Table

-- where the table begins of the jump at a point
abbrev pub start_in : KeptTables → Point → Option Place
start_in k point = option_and_then (start_at point.variant) (jump_among k.jumps point.place)

-- the table of the jump at a point for an owner
abbrev pub table_in : KeptTables → Point → Option ℕ → List Place
table_in k point owner = of_start k.starts k.tables owner (start_in k point)

-- each is what is kept of the table that begins at the place with its index
pub record AreTables (o : Elf) (texts : List SectionText) (entries : List AltEntry) (starts : List Place) (tables : List Table) : Type 0 where
  pub len : length tables ≡ length starts
  pub each : (k : ℕ) (d : Place) (e : Table) → k < length starts → IsTableFrom o texts entries (slice_index_or starts k d) (slice_index_or tables k e)

-- what is kept can be looked up
pub record AreOrdered (jumps : List Jump) (starts : List Place) (tables : List Table) : Type 0 where
  pub by_jump : AreByJump jumps
  pub rising : AreRising starts
  pub len : length tables ≡ length starts
