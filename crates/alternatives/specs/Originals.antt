-- The originals of alternatives.
use Rattle.std.specs.Prelude.{ℕ, ◌+◌, ◌==◌, ◌&&◌, not, nat_lt, Bool, List, length, slice_index_or, filter, take}
use Rattle.std.specs.List.{range_with_len, list_any}
use Rattle.ot_base.specs.declared.place.Place.{Place}
use Rattle.special_sections.specs.declared.entries.AltEntry.{AltEntry}

-- where a number is that of no entry
abbrev pub no_entry : AltEntry
no_entry = let nowhere : Place = record { sec = 0; off = 0 } in record {
  original = nowhere;
  replacement = nowhere;
  feature = 0;
  flags = 0;
  original_len = 0;
  replacement_len = 0;
}

-- the entry with a number, from 0 on
abbrev pub entry_at : List AltEntry → ℕ → AltEntry
entry_at entries k = slice_index_or entries k no_entry

-- An entry counts where its original has a byte. All others are passed by.
abbrev pub counts : AltEntry → Bool
counts a = not (a.original_len == 0)

-- the numbers of the entries that count, ascending
abbrev pub counted : List AltEntry → List ℕ
counted entries = filter (λ k. counts (entry_at entries k)) (range_with_len 0 (length entries))

-- a byte belongs to the originals of both
abbrev pub shares_byte : AltEntry → AltEntry → Bool
shares_byte a b =
    (counts a && counts b)
    && ((a.original.sec == b.original.sec)
    && (nat_lt a.original.off (b.original.off + b.original_len) && nat_lt b.original.off (a.original.off + a.original_len)))

-- the originals of both are the same bytes
abbrev pub is_same_original : AltEntry → AltEntry → Bool
is_same_original a b = (a.original.off == b.original.off) && (a.original_len == b.original_len)

-- the originals of both share a byte, and are not the same
abbrev pub overlaps : AltEntry → AltEntry → Bool
overlaps a b = shares_byte a b && not (is_same_original a b)

-- the original of an entry overlaps that of an earlier one
abbrev pub overlaps_earlier : List AltEntry → ℕ → Bool
overlaps_earlier entries k = list_any (overlaps (entry_at entries k)) (take k entries)
