-- Points and their numbers.
use Rattle.std.proofs.Common.{◌≡◌, ℕ, ◌<◌, Bool, true, false, cond, List, [], ◌∷◌, length, filter, Option, Some, None, All, Contains, inl, inr, refl, sym, ap, ◌∙◌, subst, arith}
use Rattle.std.specs.Prelude.{is_some}
use Rattle.std.specs.List.{cons_option}
use Rattle.std.specs.List.Sorted.{IsStrictlySortedBy}
use Rattle.std.proofs.lemmas.Bool.{cases_Bool, false≢true}
use Rattle.std.proofs.lemmas.List.Elements.{All-cons}
use Rattle.std.proofs.lemmas.List.Quantifiers.{position-Some}
use Rattle.std.proofs.lemmas.Option.{slice_get-get_or}
use Rattle.flow_defs.specs.Coded.{Coded}
use Rattle.alternatives.specs.declared.point.Point.{Point}
use Rattle.alternatives.specs.Numbers.{IsNumberOf}
use Rattle.alternatives.specs.Points.{is_point, point_cmp, points_of}
use Rattle.alternatives.proofs.Ascending.{contains_in}
use Rattle.alternatives.proofs.Listing.{points_complete}
use Rattle.flow_defs.specs.Code.{alternatives_of, no_point, number_of, numbers_of, points_of_object, same_point, texts_of}
use Rattle.object_points.proofs.TextsLemmas.{texts_ascend}
use Rattle.object_points.proofs.Numbers.{all_sorted, numbered}
use Rattle.object_points.proofs.Points.{listed_point}

-- a point of an object
abbrev pub is_point_of : Coded → Point → Bool
is_point_of o p = is_point (texts_of o) (alternatives_of o) p

sorted_object : (o : Coded) → IsStrictlySortedBy point_cmp (points_of_object o)
unfolding points_of_object
sorted_object o = all_sorted (texts_of o) (alternatives_of o) (texts_ascend o)

all_points : (o : Coded) → points_of_object o ≡ points_of (texts_of o) (alternatives_of o)
unfolding points_of_object
all_points o = refl

-- the number that is looked up
pub number_is : (o : Coded) (p : Point) (found : Option ℕ) → IsNumberOf (points_of_object o) p found → found ≡ number_of o p
number_is o p found here = numbered (points_of_object o) p found (sorted_object o) here

-- what is no point has none
pub no_number : (o : Coded) (p : Point) → is_point_of o p ≡ false → number_of o p ≡ None
no_number o p none =
    sym (number_is o p None (λ at. false≢true (sym none ∙ listed_point (texts_of o) (alternatives_of o) p (subst (λ (ps : List Point). Contains ps p) (all_points o) at))))

-- a point has one
pub has_number : (o : Coded) (p : Point) → is_point_of o p ≡ true → is_some (number_of o p) ≡ true
has_number o p point =
    let at : Contains (points_of_object o) p = subst (λ (ps : List Point). Contains ps p) (sym (all_points o)) (contains_in (points_of (texts_of o) (alternatives_of o)) p (points_complete (texts_of o) (alternatives_of o) p point)) in
    ap (λ (x : Option ℕ). is_some x) (sym (number_is o p (Some at.0) (slice_get-get_or (points_of_object o) at.0 p at.1 ∙ ap (λ (q : Point). Some q) at.2)))

-- the numbers of those among some that are points
pub numbers_of_points : (o : Coded) (ps : List Point) → numbers_of o (filter (is_point_of o) ps) ≡ numbers_of o ps
numbers_of_points o [] = refl
numbers_of_points o (p ∷ ps) =
    elim (cases_Bool (is_point_of o p)) [
      | inl point ↦
          ap (λ b. numbers_of o (cond b (p ∷ filter (is_point_of o) ps) (filter (is_point_of o) ps))) point
          ∙ ap (cons_option (number_of o p)) (numbers_of_points o ps)
      | inr none ↦
          ap (λ b. numbers_of o (cond b (p ∷ filter (is_point_of o) ps) (filter (is_point_of o) ps))) none
          ∙ numbers_of_points o ps
          ∙ ap (λ x. cons_option x (numbers_of o ps)) (sym (no_number o p none))
    ]

-- numbers are those of points
abbrev pub IsNumber : Coded → ℕ → Type 0
IsNumber o q = q < length (points_of_object o)

one_more : (o : Coded) (p : Point) (found : Option ℕ) (rest : List ℕ) → number_of o p ≡ found → All (IsNumber o) rest → All (IsNumber o) (cons_option found rest)
one_more o p None rest is all = all
one_more o p (Some n) rest is all = All-cons (IsNumber o) n rest (position-Some (same_point p) (points_of_object o) n no_point is).0 all

pub numbers_inside : (o : Coded) (ps : List Point) → All (IsNumber o) (numbers_of o ps)
numbers_inside o [] = λ k d inside. absurd (none k inside)
  where
    none : (k : ℕ) → k < 0 → ⊥
    none k inside = omega arith
numbers_inside o (p ∷ ps) = one_more o p (number_of o p) (numbers_of o ps) refl (numbers_inside o ps)
