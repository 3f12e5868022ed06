-- Lists of names of code, and where the code begins that symbols name so.
use Rattle.std.specs.Prelude.{◌≡◌, ℕ, ◌<◌, ◌≤◌, Bool, false, List, filter, length, Option, Some, None, option_map, slice_get, slice_index_or}
use Rattle.ot_base.specs.declared.place.Place.{Place}
use Rattle.ot_base.specs.NameLists.{NameLists, NameSet}
use Rattle.ot_base.specs.Places.{is_before, same_place}
use Rattle.symbols_relocs.specs.declared.code_names.CodeNames.{CodeNames}
use Rattle.symbols_relocs.specs.declared.code_names.CodeNames.TheVariants.{Loose, Switching}
use Rattle.symbols_relocs.specs.declared.returning.NamedStart.{NamedStart}

-- the names of such a list
abbrev pub names_of : NameLists → CodeNames → NameSet
names_of lists Loose = lists.loose
names_of lists Switching = lists.switching

-- the code begins at a place
abbrev pub begins_at : Place → NamedStart → Bool
begins_at place s = same_place s.start place

abbrev pub begins_if_any : Place → Option NamedStart → Bool
begins_if_any place None = false
begins_if_any place (Some s) = begins_at place s

-- the symbol of the first of these that begins at a place
abbrev pub first_symbol_at : List NamedStart → Place → Option ℕ
first_symbol_at starts place = option_map (λ (s : NamedStart). s.sym) (slice_get (filter (begins_at place) starts) 0)

-- no one begins before one in front of it
abbrev pub BeginInOrder : List NamedStart → Type 0
BeginInOrder starts = (i j : ℕ) (d : NamedStart) → i ≤ j → j < length starts → is_before (slice_index_or starts j d).start (slice_index_or starts i d).start ≡ false
