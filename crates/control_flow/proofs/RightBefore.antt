-- The plain point right before a plain point.
use Rattle.std.proofs.Common.{◌≡◌, ℕ, ◌+◌, ◌≤◌, ◌&&◌, Bool, true, false, cond, Option, Some, None, Contains, find, option_and_then, refl, sym, ap, ◌∙◌, subst, arith}
use Rattle.std.specs.Prelude.{◌==◌, is_some, unwrap_or, MatchOption}
use Rattle.std.proofs.lemmas.Bool.{eq-eqb, eqb-true, false≢true}
use Rattle.ot_base.specs.declared.place.Place.{Place}
use Rattle.ot_base.specs.Places.{same_place}
use Rattle.operation_defs.specs.declared.insn.Insn.{Insn}
use Rattle.flow_defs.specs.Coded.{Coded}
use Rattle.x86_text.specs.Code.{code_of, insn_listed, IsBoundary, IsPreviousBoundary}
use Rattle.alternatives.specs.declared.texts.SectionText.{SectionText}
use Rattle.alternatives.specs.declared.point.Point.{Point}
use Rattle.alternatives.specs.Points.{entry_of, insn_of_point, is_point, replacement_insn}
use Rattle.alternatives.specs.Texts.{behind, insn_at}
use Rattle.table_law.proofs.Equal.{equal_places, is_same_place, same_place_is}
use Rattle.table_law.proofs.Lists.{finds_none, finds_one, some_is}
use Rattle.flow_defs.specs.Arrival.{decoded_insn}
use Rattle.flow_defs.specs.Decoded.{no_insn}
use Rattle.flow_defs.specs.Code.{alternatives_of, is_plain, number_of, plain_point, points_of_object, texts_of}
use Rattle.flow_defs.specs.Program.{is_right_before, previous_of}
use Rattle.object_law.proofs.Entries.{plain_listed}
use Rattle.object_law.proofs.Levels.{and_true}
use Rattle.object_points.proofs.Points.{listed_point}
use Rattle.control_flow.specs.Gapless.{EndsAt, EndsThere, IsGapless, IsLastBefore}
use Rattle.control_flow.proofs.Apart.{last_ends, none_ends, only_last}
use Rattle.point_edges.proofs.Standing.{plain_is}

abbrev of_section : ℕ → SectionText → Bool
of_section sec t = t.sec == sec

-- the text of the section of a plain point has its instruction
record IsIn (o : Coded) (q : Point) : Type 0 where
  text : SectionText
  found : find (of_section q.place.sec) (texts_of o) ≡ Some text
  insn : Insn
  listed : insn_listed (code_of text.text) q.place.off ≡ Some insn
  decoded : decoded_insn o q ≡ insn

decoded_is : (o : Coded) (q : Point) (insn : Insn) → insn_of_point (texts_of o) (alternatives_of o) q ≡ Some insn → decoded_insn o q ≡ insn
unfolding decoded_insn
decoded_is o q insn is = ap (λ x. unwrap_or x no_insn) is

plain_in : (o : Coded) (q : Point) → is_point (texts_of o) (alternatives_of o) q ≡ true → is_plain q ≡ true → IsIn o q
plain_in o q point plain = in_text (find (of_section q.place.sec) (texts_of o)) refl
  where
    own : insn_of_point (texts_of o) (alternatives_of o) q ≡ insn_at (texts_of o) q.place
    own = ap (λ b. cond b (insn_at (texts_of o) q.place) (replacement_insn (texts_of o) (entry_of (alternatives_of o) q.variant) q.place)) plain

    some : is_some (insn_at (texts_of o) q.place) ≡ true
    some = ap (λ (x : Option Insn). is_some x) (sym own) ∙ point

    at : (t : SectionText) → find (of_section q.place.sec) (texts_of o) ≡ Some t → insn_at (texts_of o) q.place ≡ insn_listed (code_of t.text) q.place.off
    at t found = ap (option_and_then (λ (x : SectionText). insn_listed (code_of x.text) q.place.off)) found

    listed : (t : SectionText) → find (of_section q.place.sec) (texts_of o) ≡ Some t → (x : Option Insn) → insn_listed (code_of t.text) q.place.off ≡ x → IsIn o q
    listed t found None is = absurd (false≢true (ap (λ (x : Option Insn). is_some x) (sym (at t found ∙ is)) ∙ some))
    listed t found (Some insn) is = record { text = t; found = found; insn = insn; listed = is; decoded = decoded_is o q insn (own ∙ at t found ∙ is) }

    in_text : (found : Option SectionText) → find (of_section q.place.sec) (texts_of o) ≡ found → IsIn o q
    in_text None e = absurd (false≢true (sym (ap (λ (x : Option SectionText). is_some (option_and_then (λ (t : SectionText). insn_listed (code_of t.text) q.place.off) x)) e) ∙ some))
    in_text (Some t) e = listed t e (insn_listed (code_of t.text) q.place.off) refl

listed_is_point : (o : Coded) (q : Point) → Contains (points_of_object o) q → is_point (texts_of o) (alternatives_of o) q ≡ true
unfolding points_of_object
listed_is_point o q c = listed_point (texts_of o) (alternatives_of o) q c

-- the plain point at an offset in the section of a place
abbrev pub beside : Place → ℕ → Point
beside place off = plain_point (record { sec = place.sec; off = off })

-- what is right before a point is plain, and ends there in its section
record IsBefore (o : Coded) (p : Point) (t : SectionText) (q : Point) : Type 0 where
  point : q ≡ beside p.place q.place.off
  ends : EndsAt (code_of t.text) p.place.off q.place.off

before_is : (o : Coded) (p : Point) (t : SectionText) (q : Point) → find (of_section p.place.sec) (texts_of o) ≡ Some t → Contains (points_of_object o) q → is_right_before o p q ≡ true → IsBefore o p t q
before_is o p t q found c right =
    let parts = and_true (is_plain q) (same_place (behind q.place (decoded_insn o q).len) p.place) right in
    let place = same_place_is (behind q.place (decoded_insn o q).len) p.place parts.1 in
    let sec : q.place.sec ≡ p.place.sec = ap (λ (x : Place). x.sec) place in
    let ends : q.place.off + (decoded_insn o q).len ≡ p.place.off = ap (λ (x : Place). x.off) place in
    let own = plain_in o q (listed_is_point o q c) parts.0 in
    let same : own.text ≡ t = some_is (sym own.found ∙ ap (λ (s : ℕ). find (of_section s) (texts_of o)) sec ∙ found) in
    record {
      point = plain_is q (eqb-true q.variant 0 parts.0) ∙ ap (λ (s : ℕ). plain_point (record { sec = s; off = q.place.off })) sec;
      ends = record {
        insn = own.insn;
        listed = subst (λ (x : SectionText). insn_listed (code_of x.text) q.place.off ≡ Some own.insn) same own.listed;
        ends = ap (λ (i : Insn). q.place.off + i.len) (sym own.decoded) ∙ ends;
      };
    }

-- a plain point that ends where another begins
pub ends_there : (o : Coded) (p q : Point) → Contains (points_of_object o) q → q.variant ≡ 0 → q.place.sec ≡ p.place.sec → q.place.off + (decoded_insn o q).len ≡ p.place.off → EndsThere (texts_of o) p.place q.place.off
ends_there o p q listed plain sec off = λ t found. (before_is o p t q found listed right).ends
  where
    place : behind q.place (decoded_insn o q).len ≡ p.place
    place = equal_places (behind q.place (decoded_insn o q).len) p.place sec off

    right : is_right_before o p q ≡ true
    right = ap (λ b. b && same_place (behind q.place (decoded_insn o q).len) p.place) (eq-eqb q.variant 0 plain) ∙ is_same_place (behind q.place (decoded_insn o q).len) p.place place

-- the same by what was read of both
pub ends_by : (o : Coded) (p q x y : Point) (insn : Insn) → Contains (points_of_object o) q → x ≡ q → y ≡ p → insn ≡ decoded_insn o q → x.variant ≡ 0 → x.place.sec ≡ y.place.sec → x.place.off + insn.len ≡ y.place.off
    → EndsThere (texts_of o) p.place x.place.off
ends_by o p q x y insn listed x_is y_is insn_is plain sec off =
    let own : x.place.off ≡ q.place.off = ap (λ (z : Point). z.place.off) x_is in
    let other : y.place.off ≡ p.place.off = ap (λ (z : Point). z.place.off) y_is in
    let len : insn.len ≡ (decoded_insn o q).len = ap (λ (i : Insn). i.len) insn_is in
    subst (λ (z : Point). EndsThere (texts_of o) p.place z.place.off) (sym x_is)
    (ends_there o p q listed (ap (λ (z : Point). z.variant) (sym x_is) ∙ plain)
    (ap (λ (z : Point). z.place.sec) (sym x_is) ∙ (sec ∙ ap (λ (z : Point). z.place.sec) y_is))
    (omega (arith, own, other, len, off)))

-- and the other way round
is_before : (o : Coded) (p : Point) (t : SectionText) (a : ℕ) → find (of_section p.place.sec) (texts_of o) ≡ Some t → EndsAt (code_of t.text) p.place.off a → Contains (points_of_object o) (beside p.place a) × (is_right_before o p (beside p.place a) ≡ true)
is_before o p t a found at =
    let q = beside p.place a in
    let here : insn_at (texts_of o) q.place ≡ Some at.insn = ap (option_and_then (λ (x : SectionText). insn_listed (code_of x.text) a)) found ∙ at.listed in
    let place : behind q.place (decoded_insn o q).len ≡ p.place = equal_places (behind q.place (decoded_insn o q).len) p.place refl (ap (λ (i : Insn). a + i.len) (decoded_is o q at.insn here) ∙ at.ends) in
    (plain_listed o q.place (ap (λ (x : Option Insn). is_some x) here), is_same_place (behind q.place (decoded_insn o q).len) p.place place)

previous_by : (o : Coded) (p : Point) (found : Option Point) → is_plain p ≡ true → find (is_right_before o p) (points_of_object o) ≡ found → previous_of o p ≡ option_and_then (number_of o) found
unfolding previous_of
previous_by o p found plain is = ap (λ b. cond b (option_and_then (number_of o) (find (is_right_before o p) (points_of_object o))) None) plain ∙ ap (option_and_then (number_of o)) is

pub replaced_none : (o : Coded) (p : Point) → is_plain p ≡ false → previous_of o p ≡ None
unfolding previous_of
replaced_none o p replaced = ap (λ b. cond b (option_and_then (number_of o) (find (is_right_before o p) (points_of_object o))) None) replaced

module _ (o : Coded) (p : Point) (point : is_point (texts_of o) (alternatives_of o) p ≡ true) (plain : is_plain p ≡ true) where
  own : IsIn o p
  own = plain_in o p point plain

  in_own : (last : Option ℕ) → IsLastBefore (texts_of o) p.place last → IsGapless own.text.text × MatchOption last ((b : ℕ) → IsBoundary own.text.text b → p.place.off ≤ b) (IsPreviousBoundary own.text.text p.place.off)
  in_own last is = subst (λ (x : Option SectionText). MatchOption x (last ≡ None) (λ t. IsGapless t.text × MatchOption last ((b : ℕ) → IsBoundary t.text b → p.place.off ≤ b) (IsPreviousBoundary t.text p.place.off))) own.found is

  -- none begins before it
  pub none_before : (last : Option ℕ) → IsLastBefore (texts_of o) p.place last → last ≡ None → previous_of o p ≡ None
  none_before last is none =
      let known = in_own None (subst (IsLastBefore (texts_of o) p.place) none is) in
      previous_by o p None plain (finds_none (is_right_before o p) (points_of_object o) (λ q c right.
      none_ends own.text.text p.place.off known.0 known.1 q.place.off (before_is o p own.text q own.found c right).ends))

  -- the last one that does
  pub last_before : (last : Option ℕ) (off : ℕ) → IsLastBefore (texts_of o) p.place last → last ≡ Some off → previous_of o p ≡ number_of o (beside p.place off)
  last_before last off is some =
      let known = in_own (Some off) (subst (IsLastBefore (texts_of o) p.place) some is) in
      let right = is_before o p own.text off own.found (last_ends own.text.text p.place.off known.0 off own.insn known.1 own.listed) in
      let one = finds_one (is_right_before o p) (points_of_object o) (beside p.place off) right.0 right.1 in
      let it = before_is o p own.text one.0 own.found one.2 one.3 in
      let same : one.0 ≡ beside p.place off = it.point ∙ ap (beside p.place) (only_last own.text.text p.place.off known.0 off known.1 one.0.place.off it.ends) in
      previous_by o p (Some (beside p.place off)) plain (one.1 ∙ ap Some same)
