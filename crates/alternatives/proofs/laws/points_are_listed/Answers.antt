use Rattle.std.proofs.Common.{List, sym, subst}
use Rattle.special_sections.specs.declared.entries.AltEntry.{AltEntry}
use Rattle.alternatives.specs.declared.texts.SectionText.{SectionText}
use Rattle.alternatives.specs.Texts.{AscendBySection}
use Rattle.alternatives.specs.Points.{points_of, IsPoint}
use Rattle.alternatives.specs.Laws.{ArePoints}
use Rattle.alternatives.proofs.Ascending.{every-in, in_contains, contains_in}
use Rattle.alternatives.proofs.Listing.{points_are, points_complete, points_sorted, points_sound}
use Rattle.alternatives.proofs.Placed.{rise_by_section}
use Rattle.alternatives.proofs.laws.points_are_listed.Goals as goal

are_points : (texts : List SectionText) (entries : List AltEntry) → AscendBySection texts → ArePoints texts entries (points_of texts entries)
are_points texts entries ascend = record {
  ascend = points_sorted texts entries (rise_by_section texts ascend);
  exact = λ q. (
    λ at. every-in (IsPoint texts entries) (points_of texts entries) q (points_sound texts entries) (in_contains (points_of texts entries) q at),
    λ point. contains_in (points_of texts entries) q (points_complete texts entries q point),
  );
}

pub returns : goal.returns
returns c = λ texts entries points ascend. (
  λ is. subst (ArePoints texts entries) (sym is) (are_points texts entries ascend),
  λ are. points_are texts entries ascend points are.ascend
      (λ q at. (are.exact q).0 (contains_in points q at))
      (λ q point. in_contains points q ((are.exact q).1 point)),
)
