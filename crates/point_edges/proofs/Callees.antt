-- Where control comes to code of no function that is called, by the numbers of the points there.
use Rattle.std.proofs.Common.{◌≡◌, ℕ, ◌+◌, ◌<◌, Bool, true, false, cond, ◌&&◌, List, [], ◌∷◌, length, get_or, map, take, filter, Option, Some, None, inl, inr, refl, sym, ap, ◌∙◌, subst}
use Rattle.std.specs.Prelude.{is_some, IfSome}
use Rattle.std.specs.List.{list_all}
use Rattle.std.proofs.lemmas.Bool.{cases_Bool, false≢true}
use Rattle.std.proofs.lemmas.List.Folds.{list_all-map, list_all_at, list_all_more}
use Rattle.ot_base.specs.declared.place.Place.{Place}
use Rattle.alternatives.specs.declared.point.Point.{Point}
use Rattle.alternatives.specs.Points.{entries_from, first_of}
use Rattle.flow_defs.specs.Coded.{Coded}
use Rattle.flow_defs.specs.Code.{alternatives_of, number_of, plain_point, points_of_object}
use Rattle.flow_defs.specs.Decoded.{arrival_points}
use Rattle.flow_defs.specs.Roles.{is_free_callee}
use Rattle.point_arrivals.proofs.Arriving.{first_number}
use Rattle.point_arrivals.proofs.Numbers.{has_number, is_point_of, no_number}
use Rattle.point_edges.specs.Callees.{is_free_if_any}
use Rattle.point_edges.proofs.Numbered.{numbered}

-- the test of a point, by its number
abbrev is_free_number : Coded → Point → Bool
is_free_number o p = is_free_if_any o (number_of o p)

free_number : (o : Coded) (p : Point) (found : Option ℕ) → number_of o p ≡ found → is_some found ≡ true → is_free_callee o p ≡ is_free_if_any o found
free_number o p None is some = absurd (false≢true some)
free_number o p (Some n) is some = ap (is_free_callee o) (numbered o p n is).1

free_numbers : (o : Coded) (ps : List Point) → list_all (is_free_callee o) (filter (is_point_of o) ps) ≡ list_all (is_free_number o) ps
free_numbers o [] = refl
free_numbers o (p ∷ ps) =
    elim (cases_Bool (is_point_of o p)) [
      | inl point ↦
          ap (λ b. list_all (is_free_callee o) (cond b (p ∷ filter (is_point_of o) ps) (filter (is_point_of o) ps))) point
          ∙ ap (λ (b : Bool). b && list_all (is_free_callee o) (filter (is_point_of o) ps)) (free_number o p (number_of o p) refl (has_number o p point))
          ∙ ap (λ (b : Bool). is_free_number o p && b) (free_numbers o ps)
      | inr none ↦
          ap (λ b. list_all (is_free_callee o) (cond b (p ∷ filter (is_point_of o) ps) (filter (is_point_of o) ps))) none
          ∙ free_numbers o ps
          ∙ ap (λ (found : Option ℕ). is_free_if_any o found && list_all (is_free_number o) ps) (sym (no_number o p none))
    ]

-- the test of the first point of the replacement of an entry
abbrev pub is_free_first : Coded → ℕ → Bool
is_free_first o k = is_free_if_any o (first_number o k)

-- all points are such, if the plain one is and the first ones are
pub all_free : (o : Coded) (place : Place) → (is_free_if_any o (number_of o (plain_point place)) && list_all (is_free_first o) (entries_from (alternatives_of o) place)) ≡ list_all (is_free_callee o) (arrival_points o place)
all_free o place =
    let ks = entries_from (alternatives_of o) place in
    sym (free_numbers o (plain_point place ∷ map (first_of (alternatives_of o)) ks)
    ∙ ap (λ (b : Bool). is_free_number o (plain_point place) && b) (list_all-map (is_free_number o) (first_of (alternatives_of o)) ks))

-- one point that is none
pub not_plain : (o : Coded) (place : Place) (b : Bool) → b ≡ is_free_if_any o (number_of o (plain_point place)) → b ≡ false → false ≡ list_all (is_free_callee o) (arrival_points o place)
not_plain o place b is none = ap (λ (x : Bool). x && list_all (is_free_first o) (entries_from (alternatives_of o) place)) (sym none ∙ is) ∙ all_free o place

and_none : (a b : Bool) → b ≡ false → false ≡ (a && b)
and_none true b none = sym none
and_none false b none = refl

pub not_first : (o : Coded) (place : Place) (ks : List ℕ) (i : ℕ) (b : Bool) → ks ≡ entries_from (alternatives_of o) place → i < length ks → b ≡ is_free_first o (get_or ks i 0) → b ≡ false → false ≡ list_all (is_free_callee o) (arrival_points o place)
not_first o place ks i b all inside is none =
    and_none (is_free_if_any o (number_of o (plain_point place))) (list_all (is_free_first o) (entries_from (alternatives_of o) place))
    (subst (λ (list : List ℕ). list_all (is_free_first o) list ≡ false) all (list_all_at (is_free_first o) ks i 0 inside (sym is ∙ none)))
    ∙ all_free o place

pub first_more : (o : Coded) (ks : List ℕ) (i : ℕ) (b : Bool) → i < length ks → b ≡ is_free_first o (get_or ks i 0) → b ≡ true → list_all (is_free_first o) (take i ks) ≡ true → list_all (is_free_first o) (take (i + 1) ks) ≡ true
first_more o ks i b inside is free before =
    list_all_more (is_free_first o) ks i 0 inside
    ∙ ap (λ (x : Bool). x && is_free_first o (get_or ks i 0)) before
    ∙ sym is ∙ free

pub all_such : (o : Coded) (place : Place) (ks : List ℕ) (b : Bool) → ks ≡ entries_from (alternatives_of o) place → b ≡ is_free_if_any o (number_of o (plain_point place)) → b ≡ true → list_all (is_free_first o) ks ≡ true → true ≡ list_all (is_free_callee o) (arrival_points o place)
all_such o place ks b all is free firsts =
    sym (subst (λ (list : List ℕ). list_all (is_free_first o) list ≡ true) all firsts)
    ∙ ap (λ (x : Bool). x && list_all (is_free_first o) (entries_from (alternatives_of o) place)) (sym free ∙ is)
    ∙ all_free o place

-- a number that is found is one of a point
pub number_fits : (o : Coded) (p : Point) (found : Option ℕ) → found ≡ number_of o p → IfSome found (λ q. q < length (points_of_object o))
number_fits o p None is = search
number_fits o p (Some n) is = (numbered o p n (sym is)).0
