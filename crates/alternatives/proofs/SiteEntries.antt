-- The entries of a site are those whose originals begin where it does.
use Rattle.std.proofs.Common.{◌≡◌, ℕ, zero, suc, ◌+◌, ◌-◌, ◌<◌, ◌≤◌, Bool, true, false, cond, not, eqb, leb, ltb, ◌&&◌, List, [], ◌∷◌, length, get_or, drop, filter, Contains, inl, inr, refl, sym, ap, ◌∙◌, subst, arith}
use Rattle.std.specs.List.{IsDistinct, range_with_len, slice_range}
use Rattle.std.specs.List.Sorted.{IsStrictlySortedBy}
use Rattle.std.specs.Ordering.{nat_cmp, ordering_then, is_lt, eq_by_cmp}
use Rattle.std.specs.declared.cmp.Ordering.TheVariants.{Less, Equal}
use Rattle.std.proofs.lemmas.Bool.{cases_lt, cases_order, cases_Bool}
use Rattle.std.proofs.lemmas.Bool.Decides.{nat_tests}
use Rattle.std.proofs.lemmas.Cmp.{nat_cmp_total, eq_by_cmp_equiv}
use Rattle.std.proofs.lemmas.List.{get_or_default, get_or-take, get_or-drop, length-drop, length-take-le}
use Rattle.std.proofs.lemmas.List.Kept.{IsStrictlySortedBy-filter}
use Rattle.std.proofs.lemmas.List.Sorted.{Contains-permutation, IsPermutation-sym}
use Rattle.std.proofs.lemmas.Map.Keys.{IsDistinct-from_sorted, IsDistinct-IsPermutation, apart_from_distinct, sorted_from_all_adjacent}
use Rattle.ot_base.specs.declared.place.Place.{Place}
use Rattle.ot_base.specs.Places.{same_place}
use Rattle.special_sections.specs.declared.entries.AltEntry.{AltEntry}
use Rattle.alternatives.specs.declared.site.AlternativesSite.{AlternativesSite}
use Rattle.alternatives.specs.Originals.{entry_at, counts, counted}
use Rattle.alternatives.specs.Points.{entries_from}
use Rattle.alternatives.specs.Sites.{in_alternatives_site, AreSitesOf, AscendApart, EndsBefore, FillFrom, IsOriginalOf}
use Rattle.alternatives.proofs.Ascending.{In, every-in, every-filter, every-from_in, every-passes, every-range, every-weaker, in_contains, contains_in, in-filter, same_elements}
use Rattle.alternatives.proofs.Opened.{same_sec, from_start, before_end}
use Rattle.alternatives.proofs.Whole.{fill_within}

-- ---- the site of an index
pub record IsWithin (sites : List AlternativesSite) (i : ℕ) : Type 0 where
  pub j : ℕ
  pub inside : j < length sites
  pub from : (d : AlternativesSite) → (get_or sites j d).first ≤ i
  pub below : (d : AlternativesSite) → i < (get_or sites j d).first + (get_or sites j d).count

pub covered : (from to i : ℕ) (sites : List AlternativesSite) → FillFrom from sites to → from ≤ i → i < to → IsWithin sites i
covered from to i [] fill low high = absurd (omega arith)
covered from to i (s ∷ sites) fill low high = elim (cases_lt i (from + s.count)) [
  | inl here ↦ record { j = 0; inside = omega arith; from = λ d. omega (arith, fill.0); below = λ d. omega (arith, fill.0) }
  | inr later ↦
      let rest : IsWithin sites i = covered (from + s.count) to i sites fill.1.1 later high in
      record { j = suc rest.j; inside = omega (arith, rest.inside); from = rest.from; below = rest.below }
]

-- ---- one site at most holds a place
never_both : (p q place : Place) (m n : ℕ) → EndsBefore p m q → (eqb p.sec place.sec && (leb p.off place.off && ltb place.off (p.off + m))) ≡ true → (eqb q.sec place.sec && (leb q.off place.off && ltb place.off (q.off + n))) ≡ true → ⊥
never_both p q place m n (inl less) h k =
    let a : p.sec ≡ place.sec = same_sec p.sec place.sec p.off place.off m h in
    let b : q.sec ≡ place.sec = same_sec q.sec place.sec q.off place.off n k in
    omega arith
never_both p q place m n (inr (same, less)) h k =
    let a : place.off < p.off + m = before_end p.sec place.sec p.off place.off m h in
    let b : q.off ≤ place.off = from_start q.sec place.sec q.off place.off n k in
    omega arith

pub one_holds : (sites : List AlternativesSite) (place : Place) (i j : ℕ) (d : AlternativesSite) → AscendApart sites → i < length sites → j < length sites → in_alternatives_site (get_or sites i d) place ≡ true → in_alternatives_site (get_or sites j d) place ≡ true → i ≡ j
one_holds sites place i j d apart in_i in_j h k = elim (cases_order i j) [
  | inl same ↦ same
  | inr (inl less) ↦ absurd (never_both (get_or sites i d).start (get_or sites j d).start place (get_or sites i d).len (get_or sites j d).len (apart i j d less in_j) h k)
  | inr (inr more) ↦ absurd (never_both (get_or sites j d).start (get_or sites i d).start place (get_or sites j d).len (get_or sites i d).len (apart j i d more in_i) k h)
]

begins_there : (a b n : ℕ) → 0 < n → (eqb a a && (leb b b && ltb b (b + n))) ≡ true
begins_there a b n some = grind (arith, nat_tests)

pub some_len : (n : ℕ) → not (eqb n 0) ≡ true → 0 < n
some_len n h = grind (arith, nat_tests)

same_numbers : (a b c d : ℕ) → (eqb a b && eqb c d) ≡ true → (a ≡ b) × (c ≡ d)
same_numbers a b c d h = (grind (arith, nat_tests), grind (arith, nat_tests))

place_same : (a b : ℕ) → (eqb a a && eqb b b) ≡ true
place_same a b = grind (arith, nat_tests)

-- ---- numbers that ascend
nat_less : (a b : ℕ) → a < b → nat_cmp a b ≡ Less
nat_less a b less = grind (arith, nat_tests)

sorted_range : (a n : ℕ) → IsStrictlySortedBy nat_cmp (range_with_len a n)
unfolding IsStrictlySortedBy
sorted_range a zero = tt
sorted_range a (suc n) = (every-weaker (λ k. (a + 1 ≤ k) × (k < a + 1 + n)) (λ k. nat_cmp a k ≡ Less) (λ k h. nat_less a k (omega (arith, h.0))) (range_with_len (a + 1) n) (every-range (a + 1) n), sorted_range (a + 1) n)

counted_sorted : (entries : List AltEntry) → IsStrictlySortedBy nat_cmp (counted entries)
counted_sorted entries = IsStrictlySortedBy-filter nat_cmp (λ k. counts (entry_at entries k)) (range_with_len 0 (length entries)) (sorted_range 0 (length entries))

nothing_kept : {X : Type 0} (p : X → Bool) (xs : List X) → ((x : X) → In x xs → p x ≡ false) → filter p xs ≡ []
nothing_kept p [] none = refl
nothing_kept p (x ∷ xs) none =
    ap (λ b. cond b (x ∷ filter p xs) (filter p xs)) (none x (inl refl))
    ∙ nothing_kept p xs (λ y h. none y (inr h))

in_kept : {X : Type 0} (p : X → Bool) (xs : List X) (q : X) → In q (filter p xs) → In q xs
in_kept p xs q h = every-in (λ x. In x xs) (filter p xs) q (every-filter (λ x. In x xs) p xs (every-from_in (λ x. In x xs) xs (λ x k. k))) h

pub place_is : (p q : Place) → same_place p q ≡ true → p ≡ q
place_is p q h =
    let parts = same_numbers p.sec q.sec p.off q.off h in
    ap (λ s. let r : Place = record { sec = s; off = p.off } in r) parts.0
    ∙ ap (λ o. let r : Place = record { sec = q.sec; off = o } in r) parts.1

pub is_place_refl : (p q : Place) → p ≡ q → same_place p q ≡ true
is_place_refl p q same = subst (λ r. same_place p r ≡ true) same (place_same p.sec p.off)

pub not_false : (b : Bool) → not b ≡ false → b ≡ true
not_false true h = refl
not_false false h = sym h

nat_equal : (a b : ℕ) → nat_cmp a b ≡ Equal → a ≡ b
nat_equal a b h = grind (arith, nat_tests)

level_less : (x y u v a b : ℕ) → is_lt (ordering_then (ordering_then (nat_cmp x u) (nat_cmp y v)) (nat_cmp b a)) ≡ false → x ≡ u → y ≡ v → eq_by_cmp nat_cmp a b ≡ false → nat_cmp a b ≡ Less
level_less x y u v a b h same level differ = grind (arith, nat_tests)

-- the site of an entry that counts
record IsHome (entries : List AltEntry) (sites : List AlternativesSite) (numbers : List ℕ) (k : ℕ) : Type 0 where
  j : ℕ
  inside : j < length sites
  i : ℕ
  at_in : i < length numbers
  at : get_or numbers i k ≡ k
  from : (d : AlternativesSite) → (get_or sites j d).first ≤ i
  below : (d : AlternativesSite) → i < (get_or sites j d).first + (get_or sites j d).count
  start : (d : AlternativesSite) → (get_or sites j d).start ≡ (entry_at entries k).original
  held : (d : AlternativesSite) → in_alternatives_site (get_or sites j d) (entry_at entries k).original ≡ true

module _ (entries : List AltEntry) (sites : List AlternativesSite) (numbers : List ℕ) (are : AreSitesOf entries sites numbers) where
  home : (k : ℕ) → In k (counted entries) → IsHome entries sites numbers k
  home k h =
      let a : AltEntry = entry_at entries k in
      let some : counts a ≡ true = every-in (λ x. counts (entry_at entries x) ≡ true) (counted entries) k (every-passes (λ x. counts (entry_at entries x)) (range_with_len 0 (length entries))) h in
      let at : Contains numbers k = Contains-permutation (counted entries) numbers k are.all (contains_in (counted entries) k h) in
      let w : IsWithin sites at.0 = covered 0 (length numbers) at.0 sites are.fill (omega arith) at.1 in
      let same : get_or numbers at.0 0 ≡ k = get_or_default numbers at.0 0 k at.1 ∙ at.2 in
      let original : (d : AlternativesSite) → IsOriginalOf entries (get_or sites w.j d) k = λ d. subst (IsOriginalOf entries (get_or sites w.j d)) same (are.alike w.j d w.inside at.0 (w.from d) (w.below d)) in
      record {
        j = w.j;
        inside = w.inside;
        i = at.0;
        at_in = at.1;
        at = at.2;
        from = w.from;
        below = w.below;
        start = λ d. sym (original d).start;
        held = λ d.
            let s : AlternativesSite = get_or sites w.j d in
            subst (λ place. in_alternatives_site s place ≡ true) (sym (original d).start) (begins_there s.start.sec s.start.off s.len (subst (λ n. 0 < n) (original d).len (some_len a.original_len some)));
      }

  -- where no site begins, no entry does
  pub none_from : (place : Place) → ((j : ℕ) (d : AlternativesSite) → j < length sites → (get_or sites j d).start ≡ place → in_alternatives_site (get_or sites j d) place ≡ true → ⊥) → entries_from entries place ≡ []
  none_from place none =
      let d : AlternativesSite = record { start = place; len = 0; first = 0; count = 0 } in
      nothing_kept (λ k. same_place (entry_at entries k).original place) (counted entries) (λ k h. elim (cases_Bool (same_place (entry_at entries k).original place)) [
        | inr other ↦ other
        | inl begins ↦
            let there : (entry_at entries k).original ≡ place = place_is (entry_at entries k).original place begins in
            let s : IsHome entries sites numbers k = home k h in
            absurd (none s.j d s.inside (s.start d ∙ there) (subst (λ q. in_alternatives_site (get_or sites s.j d) q ≡ true) there (s.held d)))
      ])

  -- the entries of a site are those that begin where it does
  pub all_from : (place : Place) (j : ℕ) (d : AlternativesSite) → j < length sites → (get_or sites j d).start ≡ place → in_alternatives_site (get_or sites j d) place ≡ true → slice_range numbers (get_or sites j d).first ((get_or sites j d).first + (get_or sites j d).count) ≡ entries_from entries place
  all_from place j d inside starts held =
      let s : AlternativesSite = get_or sites j d in
      let f : ℕ = s.first in
      let c : ℕ = s.count in
      let reach : f + c ≤ length numbers = fill_within 0 (length numbers) sites j d are.fill inside in
      let xs : List ℕ = slice_range numbers f (f + c) in
      let left : length (drop f numbers) ≡ length numbers - f = length-drop f numbers in
      let long : length xs ≡ f + c - f = length-take-le (f + c - f) (drop f numbers) (omega arith) in
      let item : (m e : ℕ) → m < c → get_or xs m e ≡ get_or numbers (f + m) e = λ m e less. get_or-take (f + c - f) (drop f numbers) m e (omega arith) ∙ get_or-drop f numbers m e in
      let original : (m : ℕ) → m < c → IsOriginalOf entries s (get_or numbers (f + m) 0) = λ m less. are.alike j d inside (f + m) (omega arith) (omega arith) in
      let distinct : IsDistinct (eq_by_cmp nat_cmp) numbers = IsDistinct-IsPermutation (eq_by_cmp nat_cmp) (λ x y. (eq_by_cmp_equiv nat_cmp_total).symm x y) (counted entries) numbers are.all (IsDistinct-from_sorted nat_cmp (counted entries) (counted_sorted entries)) in
      let rises : (m : ℕ) → m + 1 < c → nat_cmp (get_or numbers (f + m) 0) (get_or numbers (f + m + 1) 0) ≡ Less = λ m less.
      let one : ℕ = get_or numbers (f + m) 0 in
      let next : ℕ = get_or numbers (f + m + 1) 0 in
      let first : (entry_at entries one).original ≡ s.start = (original m (omega arith)).start in
      let second : (entry_at entries next).original ≡ s.start = subst (λ i. (entry_at entries (get_or numbers i 0)).original ≡ s.start) {x = f + (m + 1)} {y = f + m + 1} (omega arith) (original (m + 1) less).start in
      let p : Place = (entry_at entries next).original in
      let q : Place = (entry_at entries one).original in
      let same : p ≡ q = second ∙ sym first in
      level_less p.sec p.off q.sec q.off one next (are.ordered (f + m) 0 (omega arith) (omega arith)) (ap (λ (r : Place). r.sec) same) (ap (λ (r : Place). r.off) same)
      (apart_from_distinct (eq_by_cmp nat_cmp) numbers (f + m) (f + m + 1) 0 distinct (omega arith) (omega arith)) in
      let sorted : IsStrictlySortedBy nat_cmp xs = sorted_from_all_adjacent nat_cmp_total xs 0 (λ k within.
      ap (λ x. nat_cmp x (get_or xs (k + 1) 0)) (item k 0 (omega arith))
      ∙ ap (λ y. nat_cmp (get_or numbers (f + k) 0) y) (item (k + 1) 0 (omega arith) ∙ ap (λ i. get_or numbers i 0) {x = f + (k + 1)} {y = f + k + 1} (omega arith))
      ∙ rises k (omega arith)) in
      let to : (q : ℕ) → In q xs → In q (entries_from entries place) = λ q h.
      let at : Contains xs q = contains_in xs q h in
      let less : at.0 < c = omega (arith, at.1) in
      let is : get_or numbers (f + at.0) q ≡ q = sym (item at.0 q less) ∙ at.2 in
      let zero_is : get_or numbers (f + at.0) 0 ≡ q = get_or_default numbers (f + at.0) 0 q (omega arith) ∙ is in
      let counts_in : In q (counted entries) = in_contains (counted entries) q (Contains-permutation numbers (counted entries) q (IsPermutation-sym (counted entries) numbers are.all) (f + at.0, (omega arith), is)) in
      let there : (entry_at entries q).original ≡ place = subst (λ k. (entry_at entries k).original ≡ s.start) zero_is (original at.0 less).start ∙ starts in
      in-filter (λ k. same_place (entry_at entries k).original place) (counted entries) q counts_in
      (subst (λ r. same_place r place ≡ true) (sym there) (place_same place.sec place.off)) in
      let back : (q : ℕ) → In q (entries_from entries place) → In q xs = λ q h.
      let counts_in : In q (counted entries) = in_kept (λ k. same_place (entry_at entries k).original place) (counted entries) q h in
      let there : (entry_at entries q).original ≡ place = place_is (entry_at entries q).original place (every-in (λ k. same_place (entry_at entries k).original place ≡ true) (entries_from entries place) q (every-passes (λ k. same_place (entry_at entries k).original place) (counted entries)) h) in
      let o : IsHome entries sites numbers q = home q counts_in in
      let same : o.j ≡ j = one_holds sites place o.j j d are.apart o.inside inside (subst (λ r. in_alternatives_site (get_or sites o.j d) r ≡ true) there (o.held d)) held in
      let low : f ≤ o.i = subst (λ n. (get_or sites n d).first ≤ o.i) same (o.from d) in
      let high : o.i < f + c = subst (λ n. o.i < (get_or sites n d).first + (get_or sites n d).count) same (o.below d) in
      let less : o.i - f < c = omega arith in
      in_contains xs q (o.i - f, (omega arith), item (o.i - f) q less ∙ ap (λ n. get_or numbers n q) {x = f + (o.i - f)} {y = o.i} (omega arith) ∙ o.at) in
      same_elements nat_cmp nat_cmp_total nat_equal xs (entries_from entries place) sorted
      (IsStrictlySortedBy-filter nat_cmp (λ k. same_place (entry_at entries k).original place) (counted entries) (counted_sorted entries)) to back
