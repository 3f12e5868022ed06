-- What follows a point.
use Rattle.std.proofs.Common.{◌≡◌, ℕ, ◌<◌, Bool, true, false, not, ◌&&◌, List, [], ◌∷◌, length, get_or, map, if◌then◌else◌, Option, Some, None, All, inl, inr, refl, sym, ap, ◌∙◌, subst}
use Rattle.std.specs.Prelude.{is_none, is_some, option_and_then, slice_get, IfSome}
use Rattle.std.specs.List.{cons_option}
use Rattle.std.proofs.lemmas.Bool.{cases_Bool, false≢true}
use Rattle.std.proofs.lemmas.Option.{none-some, slice_get-get_or}
use Rattle.std.proofs.lemmas.List.{length-map}
use Rattle.alternatives.specs.Texts.{is_boundary}
use Rattle.operation_defs.specs.declared.insn.Insn.{Insn}
use Rattle.flow_defs.specs.Coded.{Coded}
use Rattle.alternatives.specs.declared.point.Point.{Point}
use Rattle.alternatives.specs.Numbers.{IsNumberOf}
use Rattle.alternatives.specs.Points.{insn_of_point, next_point, point_after, point_behind}
use Rattle.flow_defs.specs.Arrival.{after, after_by, arrive, is_at_end, next_of_replacement, place_behind}
use Rattle.flow_defs.specs.Code.{alternatives_of, is_plain, no_point, number_of, point_at, points_of_object, texts_of}
use Rattle.object_points.proofs.Numbers.{made_at}
use Rattle.point_arrivals.specs.Next.{number_of_next}
use Rattle.point_arrivals.proofs.Arriving.{arrive_inside}
use Rattle.point_arrivals.proofs.Numbers.{has_number, is_point_of, no_number, number_is, numbers_inside, IsNumber}

-- no point of a replacement follows a plain point
pub plain_none : (o : Coded) (p : Point) → is_plain p ≡ true → None ≡ number_of_next o p
plain_none o p plain = sym (ap (λ b. option_and_then (number_of o) (if b then None else next_point (texts_of o) (alternatives_of o) p)) plain)

behind_by : (o : Coded) (p : Point) (b : Bool) → is_point_of o p ≡ b → option_and_then (number_of o) (if b then Some p else None) ≡ number_of o p
behind_by o p true is = refl
behind_by o p false is = sym (no_number o p is)

-- behind a point of a replacement
next_is : (o : Coded) (p : Point) (insn : Insn) → is_plain p ≡ false → insn_of_point (texts_of o) (alternatives_of o) p ≡ Some insn → number_of_next o p ≡ number_of o (point_after p insn)
next_is o p insn replaced is =
    ap (λ b. option_and_then (number_of o) (if b then None else next_point (texts_of o) (alternatives_of o) p)) replaced
    ∙ ap (λ i. option_and_then (number_of o) (option_and_then (point_behind (texts_of o) (alternatives_of o) p) i)) is
    ∙ behind_by o (point_after p insn) (is_point_of o (point_after p insn)) refl

abbrev some_insn : Insn → Option Insn
some_insn insn = Some insn

-- the number that is looked up behind a point of a replacement
pub next_found : (o : Coded) (points : List Point) (insns : List Insn) (n : ℕ) (d : Insn) (found : Option ℕ) → points ≡ points_of_object o → map (λ insn. Some insn) insns ≡ map (insn_of_point (texts_of o) (alternatives_of o)) points → n < length points → IfSome (slice_get points n) (λ p. IfSome (slice_get insns n) (λ insn. IsNumberOf points (point_after p insn) found)) → is_plain (point_at o n) ≡ false → found ≡ number_of_next o (point_at o n)
next_found o points insns n d found all made inside here replaced =
    let even : length insns ≡ length points = sym (length-map insns some_insn) ∙ ap length made ∙ length-map points (insn_of_point (texts_of o) (alternatives_of o)) in
    let p : Point = get_or points n no_point in
    let insn : Insn = get_or insns n d in
    let same : p ≡ point_at o n = ap (λ (ps : List Point). get_or ps n no_point) all in
    let known : n < length insns = subst (λ m. n < m) (sym even) inside in
    let has : slice_get insns n ≡ Some insn = slice_get-get_or insns n d known in
    let at_point : IfSome (slice_get insns n) (λ insn. IsNumberOf points (point_after p insn) found) =
    subst (λ x. IfSome x (λ p. IfSome (slice_get insns n) (λ insn. IsNumberOf points (point_after p insn) found))) (slice_get-get_or points n no_point inside) here in
    let at_insn : IsNumberOf points (point_after p insn) found = subst (λ x. IfSome x (λ insn. IsNumberOf points (point_after p insn) found)) has at_point in
    let is : insn_of_point (texts_of o) (alternatives_of o) p ≡ Some insn = made_at (insn_of_point (texts_of o) (alternatives_of o)) points insns n insn no_point made inside has in
    number_is o (point_after p insn) found (subst (λ (ps : List Point). IsNumberOf ps (point_after p insn) found) all at_insn)
    ∙ sym (next_is o p insn (ap (λ (q : Point). is_plain q) same ∙ replaced) is)
    ∙ ap (number_of_next o) same

-- the point that follows in a replacement is one
next_is_point : (o : Coded) (p : Point) (q : Point) → next_of_replacement o p ≡ Some q → is_some (number_of o q) ≡ true
next_is_point o p q is = elim (cases_Bool (is_plain p)) [
  | inl plain ↦ absurd (none-some q (sym (ap (λ b. if b then None else next_point (texts_of o) (alternatives_of o) p) plain) ∙ is))
  | inr replaced ↦ by_insn (insn_of_point (texts_of o) (alternatives_of o) p) (sym (ap (λ b. if b then None else next_point (texts_of o) (alternatives_of o) p) replaced) ∙ is)
]
  where
    by_point : (r : Point) (b : Bool) → is_point_of o r ≡ b → (if b then Some r else None) ≡ Some q → is_some (number_of o q) ≡ true
    by_point r true point h = let same : r ≡ q = cc in ap (λ (x : Point). is_some (number_of o x)) (sym same) ∙ has_number o r point
    by_point r false point h = absurd (none-some q h)

    by_insn : (found : Option Insn) → option_and_then (point_behind (texts_of o) (alternatives_of o) p) found ≡ Some q → is_some (number_of o q) ≡ true
    by_insn None h = absurd (none-some q h)
    by_insn (Some insn) h = by_point (point_after p insn) (is_point_of o (point_after p insn)) refl h

-- a number is that of the point that follows in the replacement
some_by : (o : Coded) (p : Point) (next : Option Point) (n : ℕ) → option_and_then (number_of o) next ≡ Some n → after_by o p next ≡ n ∷ []
some_by o p None n is = absurd (none-some n is)
some_by o p (Some q) n is = ap (λ x. cons_option x []) is

pub after_some : (o : Coded) (p : Point) (n : ℕ) → number_of_next o p ≡ Some n → n ∷ [] ≡ after o p
unfolding after
after_some o p n is = sym (some_by o p (next_of_replacement o p) n is)

-- with no number there is no such point
none_by : (o : Coded) (p : Point) (next : Option Point) → ((q : Point) → next ≡ Some q → is_some (number_of o q) ≡ true) → option_and_then (number_of o) next ≡ None → next ≡ None
none_by o p None known is = refl
none_by o p (Some q) known is = absurd (false≢true (sym (ap (λ (x : Option ℕ). is_some x) is) ∙ known q refl))

none_next : (o : Coded) (p : Point) → number_of_next o p ≡ None → next_of_replacement o p ≡ None
none_next o p is = none_by o p (next_of_replacement o p) (next_is_point o p) is

pub after_none : (o : Coded) (p : Point) → number_of_next o p ≡ None → arrive o (place_behind o p) ≡ after o p
unfolding after
after_none o p is = sym (ap (after_by o p) (none_next o p is))

pub after_inside : (o : Coded) (p : Point) → All (IsNumber o) (after o p)
unfolding after
after_inside o p = by (next_of_replacement o p)
  where
    by : (next : Option Point) → All (IsNumber o) (after_by o p next)
    by None = arrive_inside o (place_behind o p)
    by (Some q) = numbers_inside o (q ∷ [])

same_none : (o : Coded) (p : Point) → is_none (number_of_next o p) ≡ is_none (next_of_replacement o p)
same_none o p = by (next_of_replacement o p) (next_is_point o p)
  where
    some_none : (x : Option ℕ) → is_some x ≡ true → is_none x ≡ false
    some_none None h = absurd (false≢true h)
    some_none (Some n) h = refl

    by : (next : Option Point) → ((q : Point) → next ≡ Some q → is_some (number_of o q) ≡ true) → is_none (option_and_then (number_of o) next) ≡ is_none next
    by None known = refl
    by (Some q) known = some_none (number_of o q) (known q refl)

pub none_is : (x : Option ℕ) (none : Bool) → is_some x ≡ not none → none ≡ is_none x
none_is None true is = refl
none_is None false is = absurd (false≢true is)
none_is (Some n) true is = absurd (false≢true (sym is))
none_is (Some n) false is = refl

pub at_end_is : (o : Coded) (p : Point) → (is_none (number_of_next o p) && not (is_boundary (texts_of o) (place_behind o p))) ≡ is_at_end o p
unfolding is_at_end
at_end_is o p = ap (λ b. b && not (is_boundary (texts_of o) (place_behind o p))) (same_none o p)
