-- What holds of the points of every object.
use Rattle.std.specs.Prelude.{◌≡◌, ◌↔◌, List, Contains}
use Rattle.std.specs.List.Sorted.{IsStrictlySortedBy}
use Rattle.special_sections.specs.declared.entries.AltEntry.{AltEntry}
use Rattle.alternatives.specs.declared.texts.SectionText.{SectionText}
use Rattle.alternatives.specs.declared.point.Point.{Point}
use Rattle.alternatives.specs.Texts.{AscendBySection}
use Rattle.alternatives.specs.Points.{point_cmp, points_of, IsPoint}

-- these points ascend, each once, and are exactly the points
pub record ArePoints (texts : List SectionText) (entries : List AltEntry) (points : List Point) : Type 0 where
  pub ascend : IsStrictlySortedBy point_cmp points
  pub exact : (q : Point) → Contains points q ↔ IsPoint texts entries q

-- such a list is that of the points, and that is such a list
abbrev pub PointsAreListed : Type 0
PointsAreListed = (texts : List SectionText) (entries : List AltEntry) (points : List Point) → AscendBySection texts → (points ≡ points_of texts entries) ↔ ArePoints texts entries points
