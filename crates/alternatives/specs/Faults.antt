-- When alternatives are refused.
use Rattle.std.specs.Prelude.{◌≡◌, ℕ, ◌<◌, not, List, length, Option, Some, None, if◌then◌else◌}
use Rattle.special_sections.specs.declared.entries.AltEntry.{AltEntry}
use Rattle.alternatives.specs.declared.fault.SiteWhy.{SiteWhy}
use Rattle.alternatives.specs.declared.fault.SiteWhy.TheVariants.{NotBoundary, Overlap, Replacement}
use Rattle.alternatives.specs.declared.fault.SiteFault.{SiteFault}
use Rattle.alternatives.specs.declared.fault.SiteFault.TheVariants.{At, NoMemory}
use Rattle.alternatives.specs.declared.texts.SectionText.{SectionText}
use Rattle.alternatives.specs.Texts.{is_whole}
use Rattle.alternatives.specs.Originals.{entry_at, counts, overlaps_earlier}

-- why an entry is refused: the first of these that holds
abbrev pub why_of : List SectionText → List AltEntry → ℕ → Option SiteWhy
why_of texts entries k = let a = entry_at entries k in
    if not (counts a) then None
    else if not (is_whole texts a.original a.original_len) then Some NotBoundary
    else if overlaps_earlier entries k then Some Overlap
    else if not (is_whole texts a.replacement a.replacement_len) then Some Replacement
    else None

-- none of the first so many entries is refused
abbrev pub AreRight : List SectionText → List AltEntry → ℕ → Type 0
AreRight texts entries n = (k : ℕ) → k < n → why_of texts entries k ≡ None

-- this entry is the first that is refused, for this reason
pub record IsFirstAt (texts : List SectionText) (entries : List AltEntry) (entry : ℕ) (why : SiteWhy) : Type 0 where
  pub inside : entry < length entries
  pub here : why_of texts entries entry ≡ Some why
  pub before : AreRight texts entries entry

-- the fault is that of the first entry that is refused; want of memory says nothing of them
abbrev pub IsFirstFault : List SectionText → List AltEntry → SiteFault → Type 0
IsFirstFault texts entries (At entry why) = IsFirstAt texts entries entry why
IsFirstFault texts entries NoMemory = Unit {0}
