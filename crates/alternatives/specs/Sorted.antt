-- Originals as they are sorted.
use Rattle.std.specs.Prelude.{◌≡◌, ℕ, ◌+◌, ◌<◌, ◌≤◌, ◌==◌, ◌&&◌, not, nat_lt, Bool, true, false, List, length, slice_index_or, All, map, Option, Some, None}
use Rattle.std.specs.List.Sorted.{IsSortedBy}
use Rattle.std.specs.declared.cmp.Ordering.{Ordering}
use Rattle.std.specs.Ordering.{nat_cmp, is_lt, ordering_then}
use Rattle.ot_base.specs.Places.{place_cmp}
use Rattle.special_sections.specs.declared.entries.AltEntry.{AltEntry}
use Rattle.alternatives.specs.declared.original.Original.{Original}
use Rattle.alternatives.specs.declared.site.AlternativesSite.{AlternativesSite}
use Rattle.alternatives.specs.Sites.{FillFrom, AscendApart}
use Rattle.alternatives.specs.Originals.{entry_at, counted, overlaps, overlaps_earlier, counts}

-- the original of the entry with a number
abbrev pub original_of : List AltEntry → ℕ → Original
original_of entries k = let a = entry_at entries k in record { place = a.original; len = a.original_len; entry = k }

-- those of the entries that count, in the order of the entries
abbrev pub originals_of : List AltEntry → List Original
originals_of entries = map (original_of entries) (counted entries)

-- by place, and those at one place by entry
abbrev pub original_cmp : Original → Original → Ordering
original_cmp a b = ordering_then (place_cmp a.place b.place) (nat_cmp a.entry b.entry)

abbrev pub AreByPlace : List Original → Type 0
AreByPlace originals = IsSortedBy (λ a b. is_lt (original_cmp a b)) originals

-- as `overlaps` says of the entries
abbrev pub meets : Original → Original → Bool
meets a b =
    ((not (a.len == 0) && not (b.len == 0))
    && ((a.place.sec == b.place.sec)
    && (nat_lt a.place.off (b.place.off + b.len) && nat_lt b.place.off (a.place.off + a.len))))
    && not ((a.place.off == b.place.off) && (a.len == b.len))

-- no two neighbours meet
abbrev pub NoneMeet : List Original → Type 0
NoneMeet originals = (k : ℕ) (d : Original) → k + 1 < length originals → meets (slice_index_or originals k d) (slice_index_or originals (k + 1) d) ≡ false

-- some two neighbours meet
pub record SomeMeet (originals : List Original) : Type 0 where
  pub at : ℕ
  pub inside : at + 1 < length originals
  pub here : (d : Original) → meets (slice_index_or originals at d) (slice_index_or originals (at + 1) d) ≡ true

-- no two of the first n entries overlap
abbrev pub NoneOverlap : List AltEntry → ℕ → Type 0
NoneOverlap entries n = (i j : ℕ) → i < n → j < n → overlaps (entry_at entries i) (entry_at entries j) ≡ false

-- some two of them do
pub record SomeOverlap (entries : List AltEntry) (n : ℕ) : Type 0 where
  pub one : ℕ
  pub other : ℕ
  pub one_inside : one < n
  pub other_inside : other < n
  pub here : overlaps (entry_at entries one) (entry_at entries other) ≡ true

-- the first entry whose original overlaps that of an earlier one
pub record IsFirstOverlap (entries : List AltEntry) (k : ℕ) : Type 0 where
  pub inside : k < length entries
  pub counted : counts (entry_at entries k) ≡ true
  pub here : overlaps_earlier entries k ≡ true
  pub before : (j : ℕ) → j < k → overlaps_earlier entries j ≡ false

-- that entry, or that there is none
abbrev pub IsOverlap : List AltEntry → Option ℕ → Type 0
IsOverlap entries None = (j : ℕ) → j < length entries → overlaps_earlier entries j ≡ false
IsOverlap entries (Some k) = IsFirstOverlap entries k

-- sites that are the groups of the first n originals: those that begin at one place
pub record GroupsOf (originals : List Original) (sites : List AlternativesSite) (n : ℕ) : Type 0 where
  pub fill : FillFrom 0 sites n
  pub alike : All (λ s. (k : ℕ) (d : Original) → s.first ≤ k → k < s.first + s.count → ((slice_index_or originals k d).place ≡ s.start) × ((slice_index_or originals k d).len ≡ s.len)) sites
  pub apart : AscendApart sites
