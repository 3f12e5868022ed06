-- Plain points with others among them: what they have, and in what order.
use Rattle.std.proofs.Common.{◌≡◌, ℕ, zero, suc, ◌+◌, ◌<◌, ◌≤◌, Bool, true, false, cond, List, [], ◌∷◌, ◌++◌, length, get_or, map, drop, Option, Some, inl, inr, refl, sym, ap, ◌∙◌, subst, arith, append_assoc}
use Rattle.std.specs.List.{AllByRecursion}
use Rattle.std.specs.List.Sorted.{IsStrictlySortedBy}
use Rattle.std.specs.declared.cmp.Ordering.TheVariants.{Less}
use Rattle.std.specs.Ordering.{nat_cmp, is_lt, ordering_then}
use Rattle.std.proofs.lemmas.Bool.Decides.{nat_tests}
use Rattle.std.proofs.Math.Seq.{drop-cons, drop-nil}
use Rattle.std.proofs.lemmas.List.{get_or-map, length-map, map-append}
use Rattle.ot_base.specs.Places.{is_before}
use Rattle.operation_defs.specs.declared.insn.Insn.{Insn}
use Rattle.alternatives.specs.declared.point.Point.{Point}
use Rattle.alternatives.specs.Gathered.{woven, woven_at}
use Rattle.alternatives.specs.Points.{point_cmp}
use Rattle.alternatives.proofs.Ascending.{In, every-weaker}
use Rattle.alternatives.proofs.PointOrder.{point_total}

-- the next other one comes first where it is at a lower place, and the plain one else
pub woven_other : (p r : Point) (plain others : List Point) → is_before r.place p.place ≡ true → woven (p ∷ plain) (r ∷ others) ≡ r ∷ woven (p ∷ plain) others
woven_other p r plain others before = ap (λ b. cond b (r ∷ woven_at p (woven plain) others) (p ∷ woven plain (r ∷ others))) before

pub woven_plain : (p r : Point) (plain others : List Point) → is_before r.place p.place ≡ false → woven (p ∷ plain) (r ∷ others) ≡ p ∷ woven plain (r ∷ others)
woven_plain p r plain others behind = ap (λ b. cond b (r ∷ woven_at p (woven plain) others) (p ∷ woven plain (r ∷ others))) behind

module _ (P : Point → Type 0) where
  every-woven_at : (p : Point) (on : List Point → List Point) → P p → ((ys : List Point) → AllByRecursion P ys → AllByRecursion P (on ys)) → (others : List Point) → AllByRecursion P others → AllByRecursion P (woven_at p on others)
  every-woven_at p on one rest [] a = (one, rest [] tt)
  every-woven_at p on one rest (r ∷ others) a = elim (is_before r.place p.place) as (λ b. AllByRecursion P (cond b (r ∷ woven_at p on others) (p ∷ on (r ∷ others)))) [
    | true ↦ (a.0, every-woven_at p on one rest others a.1)
    | false ↦ (one, rest (r ∷ others) a)
  ]

  pub every-woven : (plain others : List Point) → AllByRecursion P plain → AllByRecursion P others → AllByRecursion P (woven plain others)
  every-woven [] others a b = b
  every-woven (p ∷ plain) others a b = every-woven_at p (woven plain) a.0 (λ ys each. every-woven plain ys a.1 each) others b

in-at_plain : (p : Point) (on : List Point → List Point) (others : List Point) → In p (woven_at p on others)
in-at_plain p on [] = inl refl
in-at_plain p on (r ∷ others) = elim (is_before r.place p.place) as (λ b. In p (cond b (r ∷ woven_at p on others) (p ∷ on (r ∷ others)))) [ true ↦ inr (in-at_plain p on others) | false ↦ inl refl ]

in-at_rest : (p q : Point) (on : List Point → List Point) → ((ys : List Point) → In q (on ys)) → (others : List Point) → In q (woven_at p on others)
in-at_rest p q on each [] = inr (each [])
in-at_rest p q on each (r ∷ others) = elim (is_before r.place p.place) as (λ b. In q (cond b (r ∷ woven_at p on others) (p ∷ on (r ∷ others)))) [ true ↦ inr (in-at_rest p q on each others) | false ↦ inr (each (r ∷ others)) ]

pub in-woven_plain : (plain others : List Point) (q : Point) → In q plain → In q (woven plain others)
in-woven_plain [] others q h = absurd h
in-woven_plain (p ∷ plain) others q (inl is) = subst (λ z. In z (woven (p ∷ plain) others)) is (in-at_plain p (woven plain) others)
in-woven_plain (p ∷ plain) others q (inr h) = in-at_rest p q (woven plain) (λ ys. in-woven_plain plain ys q h) others

in-at_other : (p q : Point) (on : List Point → List Point) → ((ys : List Point) → In q ys → In q (on ys)) → (others : List Point) → In q others → In q (woven_at p on others)
in-at_other p q on each [] h = absurd h
in-at_other p q on each (r ∷ others) (inl is) = elim (is_before r.place p.place) as (λ b. In q (cond b (r ∷ woven_at p on others) (p ∷ on (r ∷ others)))) [ true ↦ inl is | false ↦ inr (each (r ∷ others) (inl is)) ]
in-at_other p q on each (r ∷ others) (inr h) = elim (is_before r.place p.place) as (λ b. In q (cond b (r ∷ woven_at p on others) (p ∷ on (r ∷ others)))) [ true ↦ inr (in-at_other p q on each others h) | false ↦ inr (each (r ∷ others) (inr h)) ]

pub in-woven_other : (plain others : List Point) (q : Point) → In q others → In q (woven plain others)
in-woven_other [] others q h = h
in-woven_other (p ∷ plain) others q h = in-at_other p q (woven plain) (λ ys is_in. in-woven_other plain ys q is_in) others h

other_less : (a b c d e f : ℕ) → is_lt (ordering_then (nat_cmp a b) (nat_cmp c d)) ≡ true → ordering_then (ordering_then (nat_cmp a b) (nat_cmp c d)) (nat_cmp e f) ≡ Less
other_less a b c d e f before = grind (arith, nat_tests)

plain_less : (a b c d e f : ℕ) → is_lt (ordering_then (nat_cmp b a) (nat_cmp d c)) ≡ false → e < f → ordering_then (ordering_then (nat_cmp a b) (nat_cmp c d)) (nat_cmp e f) ≡ Less
plain_less a b c d e f behind less = grind (arith, nat_tests)

-- what is behind one that is behind another is behind that
all_behind : (p q : Point) (xs : List Point) → point_cmp p q ≡ Less → AllByRecursion (λ z. point_cmp q z ≡ Less) xs → AllByRecursion (λ z. point_cmp p z ≡ Less) xs
all_behind p q xs less all = every-weaker (λ z. point_cmp q z ≡ Less) (λ z. point_cmp p z ≡ Less) (λ z h. point_total.trans p q z less h) xs all

module _ (p : Point) (plain : List Point) (is_plain : p.variant ≡ 0) (less : AllByRecursion (λ z. point_cmp p z ≡ Less) plain) (on : (ys : List Point) → IsStrictlySortedBy point_cmp ys → AllByRecursion (λ (z : Point). 0 < z.variant) ys → IsStrictlySortedBy point_cmp (woven plain ys)) where
  sorted_by : (r : Point) (others : List Point) → IsStrictlySortedBy point_cmp (r ∷ others) → AllByRecursion (λ (z : Point). 0 < z.variant) (r ∷ others) → IsStrictlySortedBy point_cmp (woven_at p (woven plain) others) → (b : Bool) → is_before r.place p.place ≡ b → IsStrictlySortedBy point_cmp (cond b (r ∷ woven_at p (woven plain) others) (p ∷ woven plain (r ∷ others)))
  unfolding IsStrictlySortedBy
  sorted_by r others sorted above later true before =
      let first : point_cmp r p ≡ Less = other_less r.place.sec p.place.sec r.place.off p.place.off r.variant p.variant before in
      (every-woven_at (λ z. point_cmp r z ≡ Less) p (woven plain) first (λ ys each. every-woven (λ z. point_cmp r z ≡ Less) plain ys (all_behind r p plain first less) each) others sorted.0, later)
  sorted_by r others sorted above later false behind =
      let first : point_cmp p r ≡ Less = plain_less p.place.sec r.place.sec p.place.off r.place.off p.variant r.variant behind (omega (arith, is_plain, above.0)) in
      (every-woven (λ z. point_cmp p z ≡ Less) plain (r ∷ others) less (first, all_behind p r others first sorted.0), on (r ∷ others) sorted above)

  sorted_at : (others : List Point) → IsStrictlySortedBy point_cmp others → AllByRecursion (λ (z : Point). 0 < z.variant) others → IsStrictlySortedBy point_cmp (woven_at p (woven plain) others)
  unfolding IsStrictlySortedBy
  sorted_at [] sorted above = (every-woven (λ z. point_cmp p z ≡ Less) plain [] less tt, on [] sorted above)
  sorted_at (r ∷ others) sorted above = sorted_by r others sorted above (sorted_at others sorted.1 above.1) (is_before r.place p.place) refl

-- they ascend where both do
pub woven-sorted : (plain others : List Point) → IsStrictlySortedBy point_cmp plain → IsStrictlySortedBy point_cmp others → AllByRecursion (λ (z : Point). z.variant ≡ 0) plain → AllByRecursion (λ (z : Point). 0 < z.variant) others → IsStrictlySortedBy point_cmp (woven plain others)
unfolding IsStrictlySortedBy
woven-sorted [] others a b plain_ones above = b
woven-sorted (p ∷ plain) others a b plain_ones above = sorted_at p plain plain_ones.0 a.0 (λ ys sorted each. woven-sorted plain ys a.1 sorted plain_ones.1 each) others b above

length-at : (p : Point) (on : List Point → List Point) (n : ℕ) → ((ys : List Point) → length (on ys) ≡ n + length ys) → (others : List Point) → length (woven_at p on others) ≡ 1 + n + length others
length-at p on n each [] = omega (arith, each [])
length-at p on n each (r ∷ others) = elim (is_before r.place p.place) as (λ b. length (cond b (r ∷ woven_at p on others) (p ∷ on (r ∷ others))) ≡ 1 + n + length (r ∷ others)) [
  | true ↦ omega (arith, length-at p on n each others)
  | false ↦ omega (arith, each (r ∷ others))
]

pub length-woven : (plain others : List Point) → length (woven plain others) ≡ length plain + length others
length-woven [] others = omega arith
length-woven (p ∷ plain) others = length-at p (woven plain) (length plain) (λ ys. length-woven plain ys) others ∙ omega arith

-- one more point with its instruction
pub one_more : (told : Point → Option Insn) (points : List Point) (insns : List Insn) (p : Point) (insn : Insn) → map (λ i. Some i) insns ≡ map told points → told p ≡ Some insn → map (λ i. Some i) (insns ++ insn ∷ []) ≡ map told (points ++ p ∷ [])
one_more told points insns p insn same is =
    map-append (λ (i : Insn). Some i) insns (insn ∷ [])
    ∙ ap (λ os. os ++ Some insn ∷ []) same
    ∙ ap (λ o. map told points ++ o ∷ []) (sym is)
    ∙ sym (map-append told points (p ∷ []))

pub same_count : (told : Point → Option Insn) (points : List Point) (insns : List Insn) → map (λ i. Some i) insns ≡ map told points → length insns ≡ length points
same_count told points insns same =
    sym (length-map insns (λ (i : Insn). Some i)) ∙ ap (λ (os : List (Option Insn)). length os) same ∙ length-map points told

-- one of them has its instruction
pub its_insn : (told : Point → Option Insn) (points : List Point) (insns : List Insn) (n : ℕ) (p : Point) (insn : Insn) → map (λ i. Some i) insns ≡ map told points → n < length points → p ≡ get_or points n p → insn ≡ get_or insns n insn → told p ≡ Some insn
its_insn told points insns n p insn same inside is has =
    let count : length insns ≡ length points = same_count told points insns same in
    ap told is
    ∙ sym (get_or-map told points n p (Some insn) inside)
    ∙ ap (λ (os : List (Option Insn)). get_or os n (Some insn)) (sym same)
    ∙ get_or-map (λ (i : Insn). Some i) insns n insn (Some insn) (omega arith)
    ∙ ap (λ (i : Insn). Some i) (sym has)

-- what is left from a number on, by its first
pub dropped : {X : Type 0} (xs : List X) (n : ℕ) (x : X) → n < length xs → x ≡ get_or xs n x → drop n xs ≡ x ∷ drop (n + 1) xs
dropped xs n x inside is =
    drop-cons xs n x inside
    ∙ ap (λ z. z ∷ drop (suc n) xs) (sym is)
    ∙ ap (λ k. x ∷ drop k xs) {x = suc n} {y = n + 1} (omega arith)

pub all_dropped : {X : Type 0} (xs : List X) (n : ℕ) → length xs ≤ n → drop n xs ≡ []
all_dropped [] n past = drop-nil n
all_dropped (x ∷ xs) zero past = absurd (omega arith)
all_dropped (x ∷ xs) (suc n) past = all_dropped xs n (omega arith)

-- an other one is added before a plain one
pub step_other : (p : Point) (plain others added : List Point) (n : ℕ) (r : Point) → n < length others → r ≡ get_or others n r → is_before r.place p.place ≡ true → (added ++ r ∷ []) ++ woven (p ∷ plain) (drop (n + 1) others) ≡ added ++ woven (p ∷ plain) (drop n others)
step_other p plain others added n r inside is before =
    append_assoc added (r ∷ []) (woven (p ∷ plain) (drop (n + 1) others))
    ∙ ap (λ xs. added ++ xs) (sym (woven_other p r plain (drop (n + 1) others) before) ∙ ap (λ ys. woven (p ∷ plain) ys) (sym (dropped others n r inside is)))
