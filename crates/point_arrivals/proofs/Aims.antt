-- Where the code of a replacement goes by itself.
use Rattle.std.proofs.Common.{◌≡◌, Bool, true, false, List, Some, None, inl, inr, sym, ap, ◌∙◌, if◌then◌else◌}
use Rattle.std.specs.Prelude.{is_some}
use Rattle.std.specs.List.Sorted.{IsStrictlySortedBy}
use Rattle.std.proofs.lemmas.Bool.{cases_Bool, false≢true}
use Rattle.std.proofs.lemmas.Option.{slice_get-get_or}
use Rattle.ot_base.specs.declared.place.Place.{Place}
use Rattle.ot_base.specs.Places.{same_place}
use Rattle.flow_defs.specs.Coded.{Coded}
use Rattle.alternatives.specs.declared.point.Point.{Point}
use Rattle.alternatives.specs.Points.{is_point, point_cmp, points_of}
use Rattle.alternatives.proofs.Ascending.{contains_in}
use Rattle.alternatives.proofs.Listing.{points_complete}
use Rattle.flow_defs.specs.declared.destination.Crossing.TheVariants.{MayNotCross}
use Rattle.flow_defs.specs.declared.destination.Destination.{Destination}
use Rattle.flow_defs.specs.declared.destination.Destination.TheVariants.{ToPlace, ToOwnPoint, ToNowhere}
use Rattle.flow_defs.specs.Arrival.{replacement_end, site_end}
use Rattle.flow_defs.specs.Code.{alternatives_of, number_of, points_of_object, texts_of}
use Rattle.flow_defs.specs.Targets.{own_destination}
use Rattle.object_points.proofs.TextsLemmas.{texts_ascend}
use Rattle.object_points.proofs.Numbers.{all_sorted, numbered}
use Rattle.object_points.proofs.Points.{listed_point}

-- a point has a number
pub has_number : (o : Coded) (q : Point) → is_some (number_of o q) ≡ is_point (texts_of o) (alternatives_of o) q
unfolding points_of_object
has_number o q =
    let points : List Point = points_of (texts_of o) (alternatives_of o) in
    let sorted : IsStrictlySortedBy point_cmp points = all_sorted (texts_of o) (alternatives_of o) (texts_ascend o) in
    elim (cases_Bool (is_point (texts_of o) (alternatives_of o) q)) [
      | inl point ↦
          let at = contains_in points q (points_complete (texts_of o) (alternatives_of o) q point) in
          sym (ap is_some (numbered points q (Some at.0) sorted (slice_get-get_or points at.0 q at.1 ∙ ap (λ p. Some p) at.2))) ∙ sym point
      | inr none ↦
          sym (ap is_some (numbered points q None sorted (λ listed. false≢true (sym none ∙ listed_point (texts_of o) (alternatives_of o) q listed)))) ∙ sym none
    ]

-- the point at a place of the replacement that a point belongs to
abbrev pub other_point : Point → Place → Point
other_point point place = record { place = place; variant = point.variant }

abbrev chosen : Point → Place → Bool → Bool → Destination
chosen other end known ends = if known then ToOwnPoint other else if ends then ToPlace end None MayNotCross else ToNowhere

pub within_own : (o : Coded) (point : Point) (place : Place) → is_some (number_of o (other_point point place)) ≡ true → ToOwnPoint (other_point point place) ≡ own_destination o point (Some place)
within_own o point place known =
    ap (λ b. chosen (other_point point place) (site_end o point) b (same_place place (replacement_end o point))) (sym known ∙ has_number o (other_point point place))

pub behind_own : (o : Coded) (point : Point) (place : Place) (b : Bool) → is_some (number_of o (other_point point place)) ≡ false → same_place place (replacement_end o point) ≡ b → (if b then ToPlace (site_end o point) None MayNotCross else ToNowhere) ≡ own_destination o point (Some place)
behind_own o point place b unknown ends =
    ap (λ k. chosen (other_point point place) (site_end o point) k b) (sym unknown ∙ has_number o (other_point point place))
    ∙ ap (chosen (other_point point place) (site_end o point) (is_point (texts_of o) (alternatives_of o) (other_point point place))) (sym ends)
