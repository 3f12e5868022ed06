-- The bytes of the file that bodies take up.
use Rattle.std.specs.Prelude.{◌≡◌, ◌≢◌, ◌<◌, ◌≤◌, ◌+◌, ◌==◌, ◌&&◌, not, ℕ, Bool, true, false, List, length, get_or, IsTrue}
use Rattle.std.specs.List.{All, AllPairs, Contains}
use Rattle.std.specs.List.Sorted.{IsNonDecreasingBy}
use Rattle.elf_objects.specs.declared.extents.Extent.{Extent}
use Rattle.elf_objects.specs.declared.header.SectionHeader.{SectionHeader}
use Rattle.elf_objects.specs.File.{section_count, section_header}
use Rattle.elf_objects.specs.Header.{has_body}
use Rattle.elf_objects.specs.Sections.{IsAlone, SharesByte}

-- the body of a section is not empty
abbrev pub has_bytes : SectionHeader → Bool
has_bytes h = has_body h && not (h.size == 0)

-- the bytes that the body of a section takes up
abbrev pub extent_of : SectionHeader → ℕ → Extent
extent_of h i = record { offset = h.offset; end = h.offset + h.size; sec = i }

-- the extent is that of one of the first n sections
pub record IsExtent (b : List ℕ) (n : ℕ) (e : Extent) : Type 0 where
  pub below : e.sec < n
  pub some : IsTrue (has_bytes (section_header b e.sec))
  pub is : e ≡ extent_of (section_header b e.sec) e.sec

-- the extents of the first n sections, in whatever order
pub record AreExtents (b : List ℕ) (n : ℕ) (xs : List Extent) : Type 0 where
  pub each : All (IsExtent b n) xs
  pub all : (k : ℕ) → k < n → IsTrue (has_bytes (section_header b k)) → Contains xs (extent_of (section_header b k) k)

-- where an index is that of no extent
abbrev pub no_extent : Extent
no_extent = record { offset = 0; end = 0; sec = 0 }

abbrev pub extent_at : List Extent → ℕ → Extent
extent_at xs p = get_or xs p no_extent

-- a byte that both take up
pub record Meets (x y : Extent) : Type 0 where
  pub byte : ℕ
  pub from_x : x.offset ≤ byte
  pub to_x : byte < x.end
  pub from_y : y.offset ≤ byte
  pub to_y : byte < y.end

-- another extent of the list meets it
pub record IsCrowded (xs : List Extent) (p : ℕ) : Type 0 where
  pub other : ℕ
  pub inside : other < length xs
  pub differs : other ≢ p
  pub meets : Meets (extent_at xs p) (extent_at xs other)

-- extents of different sections below n, none empty, by rising offsets
pub record AreInOrder (n : ℕ) (xs : List Extent) : Type 0 where
  pub small : (p : ℕ) → p < length xs → (extent_at xs p).sec < n
  pub some : (p : ℕ) → p < length xs → (extent_at xs p).offset < (extent_at xs p).end
  pub apart : (p q : ℕ) → p < length xs → q < length xs → p ≢ q → (extent_at xs p).sec ≢ (extent_at xs q).sec
  pub rising : (p q : ℕ) → p ≤ q → q < length xs → (extent_at xs p).offset ≤ (extent_at xs q).offset

-- the greatest end of the first p extents
pub record IsReach (xs : List Extent) (p reach : ℕ) : Type 0 where
  pub above : (q : ℕ) → q < p → (extent_at xs q).end ≤ reach
  pub reached : (at : ℕ) → at < reach → (q : ℕ) × (q < p) × (at < (extent_at xs q).end)

-- of the first p extents those are marked, under their sections, that another one meets
pub record AreMarked (n : ℕ) (xs : List Extent) (p : ℕ) (marks : List Bool) : Type 0 where
  pub size : length marks ≡ n
  pub marked : (q : ℕ) → q < p → get_or marks (extent_at xs q).sec false ≡ true → IsCrowded xs q
  pub clear : (q : ℕ) → q < p → get_or marks (extent_at xs q).sec false ≡ false → ¬ IsCrowded xs q
  pub others : (i : ℕ) → ((q : ℕ) → q < p → (extent_at xs q).sec ≢ i) → get_or marks i false ≡ false

-- the body of a section shares a byte with that of another
pub record IsShared (b : List ℕ) (i : ℕ) : Type 0 where
  pub other : ℕ
  pub exists : other < section_count b
  pub differs : other ≢ i
  pub shares : SharesByte (section_header b i) (section_header b other)

-- the sections that share a byte with another are marked
pub record TellsShared (b : List ℕ) (marks : List Bool) : Type 0 where
  pub size : length marks ≡ section_count b
  pub marked : (i : ℕ) → i < section_count b → get_or marks i false ≡ true → IsShared b i
  pub clear : (i : ℕ) → i < section_count b → get_or marks i false ≡ false → IsAlone b i
