-- Points from which control goes straight on.
use Rattle.std.proofs.Common.{◌≡◌, ℕ, ◌+◌, ◌<◌, Bool, true, false, not, ◌&&◌, ◌||◌, List, [], ◌∷◌, length, if◌then◌else◌, Some, refl, sym, ap, ◌∙◌, subst, arith}
use Rattle.std.specs.Prelude.{is_none, nat_lt, slice_get}
use Rattle.std.specs.Cmp.{first_so, second_so}
use Rattle.std.specs.List.{cons_option}
use Rattle.std.proofs.lemmas.Bool.{false≢true}
use Rattle.std.proofs.lemmas.Bool.Decides.{nat_tests}
use Rattle.std.proofs.lemmas.Option.{slice_get-get_or}
use Rattle.ot_base.specs.declared.place.Place.{Place}
use Rattle.flow_defs.specs.Coded.{Coded}
use Rattle.alternatives.specs.declared.point.Point.{Point}
use Rattle.alternatives.specs.Points.{points_of}
use Rattle.flow_defs.specs.Arrival.{after, around, arrive, behind_plain, decoded_insn, insn_of_object, is_at_end, is_dead_end, place_behind, site_end}
use Rattle.flow_defs.specs.Code.{alternatives_of, is_plain, no_point, plain_point, point_at, points_of_object, same_point, texts_of}
use Rattle.flow_defs.specs.Edges.{fixups, is_some_place, static_targets}
use Rattle.flow_defs.specs.Marks.{has_relocated_offset}
use Rattle.flow_defs.specs.Sites.{site_holding}
use Rattle.symbols_relocs.specs.NamedPlaces.{is_relocated}
use Rattle.alternatives.specs.Texts.{is_boundary}
use Rattle.object_points.specs.Places.{is_among}
use Rattle.object_points.proofs.Points.{known_point}
use Rattle.point_arrivals.specs.Lists.{original_places_of}
use Rattle.point_arrivals.specs.Marks.{is_listed}
use Rattle.point_arrivals.specs.Straight.{end_of, ends_at_next, goes_straight, is_before_next, is_next_at, is_straight, is_straight_insn, is_straight_op, may_begin_run, IsStraight}
use Rattle.point_arrivals.proofs.Arriving.{arrive_is, no_original, standing_at}
use Rattle.point_arrivals.proofs.Following.{after_none, at_end_is, plain_none}
use Rattle.point_arrivals.proofs.Numbers.{number_is}
use Rattle.point_arrivals.proofs.Remaking.{made_offset, made_straight, straight_tableless}
use Rattle.point_arrivals.proofs.NopRuns.{plain_behind}
use Rattle.point_arrivals.proofs.SamePoints.{one_point}
use Rattle.point_arrivals.proofs.Tableless.{tableless}

-- of a point of which no list says anything
pub unlisted : (o : Coded) (p : Point) → is_listed o p ≡ false → ([] ≡ static_targets o p) × ([] ≡ fixups o p) × (false ≡ is_dead_end o p)
unlisted o p none = by (static_targets o p) (fixups o p) (is_dead_end o p) none
  where
    by : (targets places : List Place) (dead : Bool) → (is_some_place targets || (is_some_place places || dead)) ≡ false → ([] ≡ targets) × ([] ≡ places) × (false ≡ dead)
    by [] [] false h = (refl, refl, refl)
    by [] [] true h = absurd (false≢true (sym h))
    by [] (q ∷ places) dead h = absurd (false≢true (sym h))
    by (q ∷ targets) places dead h = absurd (false≢true (sym h))

not_true : (b : Bool) → not b ≡ true → b ≡ false
not_true true h = absurd (false≢true h)
not_true false h = refl

less_by : (n m : ℕ) → nat_lt n m ≡ true → n < m
less_by n m h = grind (arith, nat_tests)

all_points : (o : Coded) → points_of_object o ≡ points_of (texts_of o) (alternatives_of o)
unfolding points_of_object
all_points o = refl

-- the only point that follows, where no site starts at the place behind
follows_alone : (o : Coded) (p : Point) (end : Place) (m : ℕ) → is_plain p ≡ true → place_behind o p ≡ end → slice_get (points_of_object o) m ≡ Some (plain_point end) → is_among (original_places_of (alternatives_of o)) end ≡ false → after o p ≡ m ∷ []
follows_alone o p end m plain behind_is here alone =
    sym (after_none o p (sym (plain_none o p plain)))
    ∙ ap (arrive o) behind_is
    ∙ sym (arrive_is o end)
    ∙ ap (standing_at o end) (no_original (alternatives_of o) end alone)
    ∙ ap (λ x. cons_option x []) (sym (number_is o (plain_point end) (Some m) here))

-- where a point is right behind a plain one, its section doesn't end
goes_on_to : (o : Coded) (p : Point) (end : Place) (m : ℕ) → is_plain p ≡ true → place_behind o p ≡ end → slice_get (points_of_object o) m ≡ Some (plain_point end) → is_at_end o p ≡ false
goes_on_to o p end m plain behind_is here =
    let listed : slice_get (points_of (texts_of o) (alternatives_of o)) m ≡ Some (plain_point end) = subst (λ (ps : List Point). slice_get ps m ≡ Some (plain_point end)) (all_points o) here in
    let boundary : is_boundary (texts_of o) (place_behind o p) ≡ true = ap (is_boundary (texts_of o)) behind_is ∙ sym (known_point (texts_of o) (alternatives_of o) (plain_point end) (Some m) listed) in
    sym (at_end_is o p)
    ∙ ap (λ x. is_none x && not (is_boundary (texts_of o) (place_behind o p))) (sym (plain_none o p plain))
    ∙ ap not boundary

-- its operation in the program is straight, and by the same numbers
straight_made : (o : Coded) (p : Point) → is_straight_op (decoded_insn o p).op ≡ true → is_straight_op (insn_of_object o p).op ≡ true
unfolding insn_of_object
straight_made o p straight = made_straight (around o p) (decoded_insn o p).op straight

same_offset : (o : Coded) (p : Point) → has_relocated_offset o p (insn_of_object o p) ≡ has_relocated_offset o p (decoded_insn o p)
unfolding insn_of_object
same_offset o p = ap (λ b. b && is_relocated o.elf p.place (decoded_insn o p).len) (made_offset (around o p) (decoded_insn o p).op)

-- What is so where the plain point where a plain one ends has the next number, no run of no-ops begins at that, and no site starts
-- there: the next alone follows.
pub record IsFollowed (o : Coded) (n : ℕ) : Type 0 where
  pub plain : is_plain (point_at o n) ≡ true
  pub inside : n + 1 < length (points_of_object o)
  pub ends : place_behind o (point_at o n) ≡ end_of o n
  pub next : point_at o (n + 1) ≡ plain_point (place_behind o (point_at o n))
  pub follows : after o (point_at o n) ≡ (n + 1) ∷ []
  pub goes_on : is_at_end o (point_at o n) ≡ false

pub followed : (o : Coded) (n : ℕ) → ends_at_next o n ≡ true → IsFollowed o n
followed o n is =
    let p : Point = point_at o n in
    let end : Place = end_of o n in
    let site : Bool = is_among (original_places_of (alternatives_of o)) end in
    let run : Bool = may_begin_run o p in
    let plain : is_plain p ≡ true = first_so (is_plain p) (not run && is_before_next o n) is in
    let there : (not run && is_before_next o n) ≡ true = second_so (is_plain p) (not run && is_before_next o n) is in
    let none : run ≡ false = not_true run (first_so (not run) (is_before_next o n) there) in
    let behind_it : is_before_next o n ≡ true = second_so (not run) (is_before_next o n) there in
    let next : is_next_at o n end ≡ true = first_so (is_next_at o n end) (not site) behind_it in
    let alone : site ≡ false = not_true site (second_so (is_next_at o n end) (not site) behind_it) in
    let inside : n + 1 < length (points_of_object o) = less_by (n + 1) (length (points_of_object o)) (first_so (nat_lt (n + 1) (length (points_of_object o))) (same_point (point_at o (n + 1)) (plain_point end)) next) in
    let at : point_at o (n + 1) ≡ plain_point end = one_point (point_at o (n + 1)) (plain_point end) (second_so (nat_lt (n + 1) (length (points_of_object o))) (same_point (point_at o (n + 1)) (plain_point end)) next) in
    let here : slice_get (points_of_object o) (n + 1) ≡ Some (plain_point end) = slice_get-get_or (points_of_object o) (n + 1) no_point inside ∙ ap (λ (q : Point). Some q) at in
    let behind_is : place_behind o p ≡ end = ap (λ b. if b then behind_plain o p.place (decoded_insn o p) (site_holding o p.place) else site_end o p) plain ∙ plain_behind o p.place (decoded_insn o p) (site_holding o p.place) none in record {
      plain = plain;
      inside = inside;
      ends = behind_is;
      next = at ∙ ap plain_point (sym behind_is);
      follows = follows_alone o p end (n + 1) plain behind_is here alone;
      goes_on = goes_on_to o p end (n + 1) plain behind_is here;
    }

both_so : (a b : Bool) → a ≡ true → b ≡ true → (a && b) ≡ true
both_so a b one other = ap (λ c. c && b) one ∙ other

pub straight_on : (o : Coded) (n : ℕ) → is_straight o n ≡ true → IsStraight o n
straight_on o n is =
    let p : Point = point_at o n in
    let behind_it : Bool = not (may_begin_run o p) && is_before_next o n in
    let goes : goes_straight o n ≡ true = second_so (not (is_listed o p)) (goes_straight o n) is in
    let insn : is_straight_insn o n ≡ true = first_so (is_straight_insn o n) behind_it goes in
    let straight : Bool = is_straight_op (decoded_insn o p).op in
    let relocated : Bool = has_relocated_offset o p (decoded_insn o p) in
    let plain : is_plain p ≡ true = first_so (is_plain p) (straight && not relocated) insn in
    let decoded : (straight && not relocated) ≡ true = second_so (is_plain p) (straight && not relocated) insn in
    let it : IsFollowed o n = followed o n (both_so (is_plain p) behind_it plain (second_so (is_straight_insn o n) behind_it goes)) in
    let inside : n + 1 < length (points_of_object o) = it.inside in record {
      plain = plain;
      straight = straight_made o p (first_so straight (not relocated) decoded);
      tableless = tableless o n (omega arith) (straight_tableless (decoded_insn o p).op (first_so straight (not relocated) decoded));
      unrelocated = same_offset o p ∙ not_true relocated (second_so straight (not relocated) decoded);
      unlisted = not_true (is_listed o p) (first_so (not (is_listed o p)) (goes_straight o n) is);
      inside = inside;
      ends = it.ends;
      next = it.next;
      follows = it.follows;
      goes_on = it.goes_on;
    }
