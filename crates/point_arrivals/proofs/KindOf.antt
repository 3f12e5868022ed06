-- Kinds of points.
use Rattle.std.proofs.Common.{◌≡◌, ℕ, ◌+◌, Bool, true, false, not, ◌&&◌, if◌then◌else◌, List, [], ◌∷◌, ◌++◌, inl, inr, refl, sym, ap, ◌∙◌, arith}
use Rattle.std.proofs.lemmas.Bool.{cases_lt}
use Rattle.std.proofs.lemmas.List.{get_or_append_left, get_or_push, length-append}
use Rattle.flow_defs.specs.Coded.{Coded}
use Rattle.flow_defs.specs.Arrival.{decoded_insn}
use Rattle.flow_defs.specs.Code.{is_plain, point_at}
use Rattle.flow_defs.specs.Marks.{has_relocated_offset}
use Rattle.point_arrivals.specs.Kinds.{is_followed_kind, is_listed_kind, is_straight_kind, kind_of, AreKinds}
use Rattle.point_arrivals.specs.Marks.{is_listed}
use Rattle.point_arrivals.specs.Straight.{ends_at_next, is_before_next, is_straight, is_straight_insn, is_straight_op, may_begin_run}
use Rattle.point_arrivals.specs.declared.kind.Kind.{Kind}
use Rattle.point_arrivals.specs.declared.kind.Kind.TheVariants.{Straight, Followed, Unlisted, Listed}

-- by whether a list says anything of the point, whether the next one follows it, and whether its instruction is straight
abbrev pub kind_by : Bool → Bool → Bool → Kind
kind_by listed followed straight = if listed then Listed else if followed then (if straight then Straight else Followed) else Unlisted

pub listed_is : (o : Coded) (n : ℕ) → is_listed o (point_at o n) ≡ true → Listed ≡ kind_of o n
listed_is o n listed = ap (λ b. kind_by b (ends_at_next o n) (is_straight_insn o n)) (sym listed)

pub kind_is : (o : Coded) (n : ℕ) (followed straight : Bool) → is_listed o (point_at o n) ≡ false → ends_at_next o n ≡ followed → is_straight_insn o n ≡ straight → kind_by false followed straight ≡ kind_of o n
kind_is o n followed straight other next insn =
    ap (λ b. kind_by false b straight) (sym next)
    ∙ ap (kind_by false (ends_at_next o n)) (sym insn)
    ∙ ap (λ b. kind_by b (ends_at_next o n) (is_straight_insn o n)) (sym other)

pub unlisted_is : (o : Coded) (n : ℕ) → is_listed o (point_at o n) ≡ false → ends_at_next o n ≡ false → Unlisted ≡ kind_of o n
unlisted_is o n other next = kind_is o n false (is_straight_insn o n) other next refl

-- what the kind tells
pub straight_kind : (o : Coded) (n : ℕ) → is_straight_kind (kind_of o n) ≡ is_straight o n
straight_kind o n =
    by (is_listed o (point_at o n)) (is_plain (point_at o n))
    (is_straight_op (decoded_insn o (point_at o n)).op && not (has_relocated_offset o (point_at o n) (decoded_insn o (point_at o n))))
    (not (may_begin_run o (point_at o n)) && is_before_next o n)
  where
    by : (listed plain straight next : Bool) → is_straight_kind (kind_by listed (plain && next) (plain && straight)) ≡ (not listed && ((plain && straight) && next))
    by true plain straight next = refl
    by false false straight next = refl
    by false true true true = refl
    by false true true false = refl
    by false true false true = refl
    by false true false false = refl

pub listed_kind : (o : Coded) (n : ℕ) → is_listed_kind (kind_of o n) ≡ is_listed o (point_at o n)
listed_kind o n = by (is_listed o (point_at o n)) (ends_at_next o n) (is_straight_insn o n)
  where
    by : (listed followed straight : Bool) → is_listed_kind (kind_by listed followed straight) ≡ listed
    by true followed straight = refl
    by false true true = refl
    by false true false = refl
    by false false straight = refl

pub followed_kind : (o : Coded) (n : ℕ) → is_followed_kind (kind_of o n) ≡ (not (is_listed o (point_at o n)) && ends_at_next o n)
followed_kind o n = by (is_listed o (point_at o n)) (ends_at_next o n) (is_straight_insn o n)
  where
    by : (listed followed straight : Bool) → is_followed_kind (kind_by listed followed straight) ≡ (not listed && followed)
    by true followed straight = refl
    by false true true = refl
    by false true false = refl
    by false false straight = refl

-- none yet
pub none_yet : (o : Coded) → AreKinds o [] 0
none_yet o = record {
  each = refl;
  told = λ k inside. absurd (omega (arith, inside));
}

-- one kind more
pub one_more : (o : Coded) (kinds : List Kind) (n : ℕ) (kind : Kind) → AreKinds o kinds n → kind ≡ kind_of o n → AreKinds o (kinds ++ kind ∷ []) (n + 1)
one_more o kinds n kind all is = record {
  each = length-append kinds (kind ∷ []) ∙ ap (λ k. k + 1) all.each;
  told = λ k inside. elim (cases_lt k n) [
    | inl low ↦ get_or_append_left kinds (kind ∷ []) Listed k (omega (arith, low, all.each)) ∙ all.told k low
    | inr high ↦
        let last : n ≡ k = omega (arith, high, inside) in
        get_or_push kinds kind Listed k (all.each ∙ last) ∙ is ∙ ap (kind_of o) last
  ];
}
