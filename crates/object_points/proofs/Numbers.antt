-- Points by their numbers.
use Rattle.std.proofs.Common.{◌≡◌, ℕ, ◌<◌, true, false, cond, eqb, ◌&&◌, List, length, get_or, map, Option, Some, None, Contains, inl, inr, sym, ap, ◌∙◌, subst, arith}
use Rattle.std.specs.Prelude.{nat_lt, position, slice_get}
use Rattle.std.specs.List.Sorted.{IsStrictlySortedBy}
use Rattle.std.specs.declared.cmp.Ordering.TheVariants.{Less}
use Rattle.std.specs.Ordering.{nat_cmp, ordering_then}
use Rattle.std.proofs.lemmas.Bool.{cases_Bool}
use Rattle.std.proofs.lemmas.Bool.Decides.{nat_tests}
use Rattle.std.proofs.lemmas.List.{get_or-map, length-map}
use Rattle.std.proofs.lemmas.List.Elements.{Contains-get_or}
use Rattle.std.proofs.lemmas.List.Sums.{position_or_len_is}
use Rattle.std.proofs.lemmas.Map.Keys.{Less-from_sorted}
use Rattle.std.proofs.lemmas.Option.{get_or_from_slice_get, slice_get_within}
use Rattle.operation_defs.specs.declared.insn.Insn.{Insn}
use Rattle.special_sections.specs.declared.entries.AltEntry.{AltEntry}
use Rattle.alternatives.specs.declared.texts.SectionText.{SectionText}
use Rattle.alternatives.specs.declared.point.Point.{Point}
use Rattle.alternatives.specs.Numbers.{IsNumberOf}
use Rattle.alternatives.specs.Points.{point_cmp, points_of}
use Rattle.alternatives.specs.Texts.{AscendBySection}
use Rattle.alternatives.proofs.Listing.{points_sorted}
use Rattle.alternatives.proofs.Placed.{rise_by_section}
use Rattle.alternatives.proofs.PointOrder as order
use Rattle.flow_defs.specs.Code.{same_point}

pub all_sorted : (texts : List SectionText) (entries : List AltEntry) → AscendBySection texts → IsStrictlySortedBy point_cmp (points_of texts entries)
all_sorted texts entries ascending = points_sorted texts entries (rise_by_section texts ascending)

-- tests on the parts of two points
same_parts : (a b i : ℕ) → ((eqb a a && eqb b b) && eqb i i) ≡ true
same_parts a b i = grind (arith, nat_tests)

less_parts : (a b i d e j : ℕ) → ordering_then (ordering_then (nat_cmp a d) (nat_cmp b e)) (nat_cmp i j) ≡ Less → ((eqb d a && eqb e b) && eqb j i) ≡ false
less_parts a b i d e j less = grind (arith, nat_tests)

sec_part : (a b i d e j : ℕ) → ((eqb a d && eqb b e) && eqb i j) ≡ true → a ≡ d
sec_part a b i d e j same = grind (arith, nat_tests)

off_part : (a b i d e j : ℕ) → ((eqb a d && eqb b e) && eqb i j) ≡ true → b ≡ e
off_part a b i d e j same = grind (arith, nat_tests)

variant_part : (a b i d e j : ℕ) → ((eqb a d && eqb b e) && eqb i j) ≡ true → i ≡ j
variant_part a b i d e j same = grind (arith, nat_tests)

one_point : (p q : Point) → same_point p q ≡ true → p ≡ q
one_point p q same =
    order.same_point p.place.sec p.place.off p.variant q
    (sec_part p.place.sec p.place.off p.variant q.place.sec q.place.off q.variant same)
    (off_part p.place.sec p.place.off p.variant q.place.sec q.place.off q.variant same)
    (variant_part p.place.sec p.place.off p.variant q.place.sec q.place.off q.variant same)

below_itself : (n m : ℕ) → n < m → nat_lt n m ≡ true
below_itself n m less = grind (arith, nat_tests)

not_below : (n : ℕ) → nat_lt n n ≡ false
not_below n = grind (arith, nat_tests)

number_at : (points : List Point) (p : Point) (n : ℕ) → IsStrictlySortedBy point_cmp points → n < length points → get_or points n p ≡ p → position (same_point p) points ≡ Some n
number_at points p n sorted inside here =
    let first = position_or_len_is (same_point p) points n p (omega (arith, inside))
    (λ k lower.
    let q : Point = get_or points k p in
    less_parts q.place.sec q.place.off q.variant p.place.sec p.place.off p.variant (subst (λ (z : Point). point_cmp q z ≡ Less) here (Less-from_sorted point_cmp points k n p sorted lower inside)))
    (λ known. ap (same_point p) here ∙ same_parts p.place.sec p.place.off p.variant) in
    ap (λ k. cond (nat_lt k (length points)) (Some k) None) first ∙ ap (λ b. cond b (Some n) None) (below_itself n (length points) inside)

not_same : (points : List Point) (p : Point) (k : ℕ) → (Contains points p → ⊥) → k < length points → same_point p (get_or points k p) ≡ false
not_same points p k without inside = elim (cases_Bool (same_point p (get_or points k p))) [
  | inl same ↦ absurd (without (subst (Contains points) (sym (one_point p (get_or points k p) same)) (Contains-get_or points k p inside)))
  | inr differs ↦ differs
]

number_none : (points : List Point) (p : Point) → (Contains points p → ⊥) → position (same_point p) points ≡ None
number_none points p without =
    let last = position_or_len_is (same_point p) points (length points) p (omega arith) (λ k inside. not_same points p k without inside) (λ inside. absurd (omega (arith, inside))) in
    ap (λ k. cond (nat_lt k (length points)) (Some k) None) last ∙ ap (λ b. cond b (Some (length points)) None) (not_below (length points))

-- the number of a point is where it stands first
pub numbered : (points : List Point) (p : Point) (found : Option ℕ) → IsStrictlySortedBy point_cmp points → IsNumberOf points p found → found ≡ position (same_point p) points
numbered points p None sorted without = sym (number_none points p without)
numbered points p (Some n) sorted here = sym (number_at points p n sorted (slice_get_within points n p here) (get_or_from_slice_get points n p p here))

abbrev some_insn : Insn → Option Insn
some_insn insn = Some insn

-- what is made of each point in a list is made of the point with a number
pub made_at : (make : Point → Option Insn) (points : List Point) (insns : List Insn) (n : ℕ) (insn : Insn) (d : Point) → map (λ i. Some i) insns ≡ map make points → n < length points → slice_get insns n ≡ Some insn → make (get_or points n d) ≡ Some insn
made_at make points insns n insn d made inside here =
    let known : n < length insns = omega (arith, inside, length-map points make, length-map insns some_insn, ap length made) in
    sym (get_or-map make points n d None inside)
    ∙ ap (λ list. get_or list n None) (sym made)
    ∙ get_or-map (λ i. Some i) insns n insn None known
    ∙ ap (λ i. Some i) (get_or_from_slice_get insns n insn insn here)
