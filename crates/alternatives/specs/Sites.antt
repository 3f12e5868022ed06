-- The sites of alternatives.
use Rattle.std.specs.Prelude.{◌≡◌, ◌⊎◌, ℕ, ◌+◌, ◌<◌, ◌≤◌, Bool, List, [], ◌∷◌, length, slice_index_or, All}
use Rattle.std.specs.List.{list_any}
use Rattle.std.specs.List.Sorted.{IsPermutation, IsSortedBy}
use Rattle.std.specs.Ordering.{nat_cmp, is_lt, ordering_then}
use Rattle.ot_base.specs.declared.place.Place.{Place}
use Rattle.ot_base.specs.Places.{place_cmp, is_within}
use Rattle.operation_defs.specs.declared.insn.Insn.{Insn}
use Rattle.special_sections.specs.declared.entries.AltEntry.{AltEntry}
use Rattle.alternatives.specs.declared.site.AlternativesSite.{AlternativesSite}
use Rattle.alternatives.specs.declared.point.Point.{Point}
use Rattle.alternatives.specs.Originals.{entry_at, counted}

-- a place lies in a site
abbrev pub in_alternatives_site : AlternativesSite → Place → Bool
in_alternatives_site site place = is_within site.start site.len place

-- a place lies in a site: in the original of an entry
abbrev pub is_in_site : List AltEntry → Place → Bool
is_in_site entries place = list_any (λ a. is_within a.original a.original_len place) entries

-- so many bytes from a place on are in an earlier section than another place, or in the same one, and end at it or before it
abbrev pub EndsBefore : Place → ℕ → Place → Type 0
EndsBefore start len place = (start.sec < place.sec) ⊎ ((start.sec ≡ place.sec) × (start.off + len ≤ place.off))

-- sites ascend, and share no byte
abbrev pub AscendApart : List AlternativesSite → Type 0
AscendApart sites = (i j : ℕ) (d : AlternativesSite) → i < j → j < length sites → EndsBefore (slice_index_or sites i d).start (slice_index_or sites i d).len (slice_index_or sites j d).start

-- from one index on to another, the entries of each site begin where those of the site before end
abbrev pub FillFrom : ℕ → List AlternativesSite → ℕ → Type 0
FillFrom from [] to = from ≡ to
FillFrom from (s ∷ sites) to = (s.first ≡ from) × ((0 < s.count) × FillFrom (from + s.count) sites to)

-- an entry comes before another: by the place of its original, and at one place by its number
abbrev pub comes_before : List AltEntry → ℕ → ℕ → Bool
comes_before entries m n = is_lt (ordering_then (place_cmp (entry_at entries m).original (entry_at entries n).original) (nat_cmp m n))

-- the original of an entry is the whole site
pub record IsOriginalOf (entries : List AltEntry) (site : AlternativesSite) (entry : ℕ) : Type 0 where
  pub start : (entry_at entries entry).original ≡ site.start
  pub len : (entry_at entries entry).original_len ≡ site.len

-- The sites of some entries, and the numbers of the entries that count, by site and then ascending. A site has `count`
-- entries there, from `first` on, and their originals are that site; sites with different starts share no byte.
pub record AreSitesOf (entries : List AltEntry) (sites : List AlternativesSite) (numbers : List ℕ) : Type 0 where
  pub all : IsPermutation (counted entries) numbers
  pub ordered : IsSortedBy (comes_before entries) numbers
  pub fill : FillFrom 0 sites (length numbers)
  pub alike : All (λ site. (i : ℕ) → site.first ≤ i → i < site.first + site.count → IsOriginalOf entries site (slice_index_or numbers i 0)) sites
  pub apart : AscendApart sites

-- sites, the numbers of their entries, the points of the object with their instructions, and all entries
pub record SiteList : Type 0 where
  pub sites : List AlternativesSite
  pub entry_numbers : List ℕ
  pub points : List Point
  pub insns : List Insn
  pub entries : List AltEntry
