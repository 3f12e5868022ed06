-- Ways in which control comes to a point, and one more.
use Rattle.std.proofs.Common.{◌≡◌, ◌⊎◌, inl, inr, ℕ, ◌+◌, ◌<◌, Bool, true, false, List, length, set, refl, sym, ap, ◌∙◌, subst, arith, get_or-set_same, get_or-set_other}
use Rattle.std.proofs.lemmas.Bool.{cases_eq}
use Rattle.program_check.specs.declared.access_ways.Ways.{Ways}
use Rattle.program_check.specs.declared.access_search.Visit.{Visit}
use Rattle.program_check.specs.Ways.{comes, no_ways, one_if_not, with_way, ways_at, ways_left}
use Rattle.program_check.specs.Search.{IsFound, visit}

comes_now : (w : Ways) (a h : Bool) → comes (with_way w a h) a h ≡ true
comes_now w true true = refl
comes_now w false true = refl
comes_now w true false = refl
comes_now w false false = refl

comes_still : (w : Ways) (a h b k : Bool) → comes w b k ≡ true → comes (with_way w a h) b k ≡ true
comes_still w true true true true e = refl
comes_still w false true false true e = refl
comes_still w true false true false e = refl
comes_still w false false false false e = refl
comes_still w a h b k e = e

comes_before : (w : Ways) (a h b k : Bool) → comes (with_way w a h) b k ≡ true → comes w b k ≡ true ⊎ ((b ≡ a) × (k ≡ h))
comes_before w true true true true e = inr (refl, refl)
comes_before w false true false true e = inr (refl, refl)
comes_before w true false true false e = inr (refl, refl)
comes_before w false false false false e = inr (refl, refl)
comes_before w a h b k e = inl e

-- one way fewer is left
pub left_less : (w : Ways) (a h : Bool) → comes w a h ≡ false → ways_left (with_way w a h) + 1 ≡ ways_left w
left_less w true true e = let z : one_if_not w.safe_on ≡ 1 = ap one_if_not e in omega arith
left_less w false true e = let z : one_if_not w.safe_off ≡ 1 = ap one_if_not e in omega arith
left_less w true false e = let z : one_if_not w.other_on ≡ 1 = ap one_if_not e in omega arith
left_less w false false e = let z : one_if_not w.other_off ≡ 1 = ap one_if_not e in omega arith

same_visit : (u v : Visit) → u.point ≡ v.point → u.access ≡ v.access → u.home ≡ v.home → u ≡ v
same_visit u v one two three = ap (λ (q : ℕ). visit q u.access u.home) one ∙ (ap (λ (b : Bool). visit v.point b u.home) two ∙ ap (λ (b : Bool). visit v.point v.access b) three)

-- the ways of all points, and control in one way more at one of them
abbrev pub way_more : Ways → Visit → Ways
way_more w v = with_way w v.access v.home

abbrev pub found_too : List Ways → Visit → List Ways
found_too ways v = set ways v.point (way_more (ways_at ways v.point) v)

module _ (ways : List Ways) (v : Visit) (inside : v.point < length ways) where
  written : ways_at (found_too ways v) v.point ≡ way_more (ways_at ways v.point) v
  written = get_or-set_same ways v.point (way_more (ways_at ways v.point) v) no_ways inside

  at_point : (u : Visit) → u.point ≡ v.point → ways_at (found_too ways v) u.point ≡ way_more (ways_at ways v.point) v
  at_point u same = ap (ways_at (found_too ways v)) same ∙ written

  elsewhere : (u : Visit) → (u.point ≡ v.point → ⊥) → ways_at (found_too ways v) u.point ≡ ways_at ways u.point
  elsewhere u other = get_or-set_other ways v.point u.point (way_more (ways_at ways v.point) v) no_ways other

  pub found_now : IsFound (found_too ways v) v
  found_now = subst (λ (w : Ways). comes w v.access v.home ≡ true) (sym written) (comes_now (ways_at ways v.point) v.access v.home)

  pub found_still : (u : Visit) → IsFound ways u → IsFound (found_too ways v) u
  found_still u f = elim (cases_eq u.point v.point) [
    | inl same ↦
        let g : comes (ways_at ways v.point) u.access u.home ≡ true = subst (λ (q : ℕ). comes (ways_at ways q) u.access u.home ≡ true) same f in
        subst (λ (w : Ways). comes w u.access u.home ≡ true) (sym (at_point u same)) (comes_still (ways_at ways v.point) v.access v.home u.access u.home g)
    | inr other ↦ subst (λ (w : Ways). comes w u.access u.home ≡ true) (sym (elsewhere u other)) f
  ]

  pub found_before : (u : Visit) → IsFound (found_too ways v) u → IsFound ways u ⊎ u ≡ v
  found_before u f = elim (cases_eq u.point v.point) [
    | inl same ↦
        elim (comes_before (ways_at ways v.point) v.access v.home u.access u.home (subst (λ (w : Ways). comes w u.access u.home ≡ true) (at_point u same) f)) [
          | inl was ↦ inl (subst (λ (q : ℕ). comes (ways_at ways q) u.access u.home ≡ true) (sym same) was)
          | inr is ↦ inr (same_visit u v same is.0 is.1)
        ]
    | inr other ↦ inl (subst (λ (w : Ways). comes w u.access u.home ≡ true) (elsewhere u other) f)
  ]
