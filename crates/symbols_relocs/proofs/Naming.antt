-- Symbols that pass a test, one more at a time; and the first of some starts at a place.
use Rattle.std.proofs.Common.{◌≡◌, ℕ, zero, suc, ◌+◌, ◌<◌, ◌≤◌, Bool, true, false, not, ◌&&◌, ◌||◌, eqb, List, [], ◌∷◌, ◌++◌, length, get_or, map, Option, Some, None, cond, if◌then◌else◌, inl, inr, arith, refl, sym, ap, ◌∙◌}
use Rattle.std.specs.Prelude.{filter, option_map, slice_get}
use Rattle.std.specs.Cmp.{IsTotalOrder}
use Rattle.std.specs.List.{list_any, range_with_len}
use Rattle.std.specs.List.Sorted.{IsPartitionedBy, IsSortedByKey, IsStableByKey}
use Rattle.std.specs.Ordering.{nat_cmp, is_lt, ordering_then}
use Rattle.std.proofs.lemmas.Bool.{cases_lt}
use Rattle.std.proofs.lemmas.Bool.Decides.{nat_tests}
use Rattle.std.proofs.lemmas.Cmp.{nat_cmp_total, on_total, then_total}
use Rattle.std.proofs.lemmas.List.Elements.{filter_agree, filter-append}
use Rattle.std.proofs.lemmas.List.Folds.{list_any-append}
use Rattle.std.proofs.lemmas.List.FromFn.{map-range_with_len_more}
use Rattle.std.proofs.lemmas.List.MinMax.{ranks_by}
use Rattle.std.proofs.lemmas.List.Sorted.{sorted_far}
use Rattle.ot_base.specs.declared.place.Place.{Place}
use Rattle.ot_base.specs.Places.{is_before}
use Rattle.elf_objects.specs.Below.{first_of, least_below}
use Rattle.symbols_relocs.specs.declared.returning.NamedStart.{NamedStart}
use Rattle.symbols_relocs.specs.CodeNames.{BeginInOrder, begins_at, first_symbol_at}

-- ---- ranges
range_more : (n : ℕ) → range_with_len 0 (n + 1) ≡ range_with_len 0 n ++ n ∷ []
range_more n = sym (map_same (range_with_len 0 (n + 1))) ∙ map-range_with_len_more (λ (k : ℕ). k) 0 n n (omega arith) ∙ ap (λ (ks : List ℕ). ks ++ n ∷ []) (map_same (range_with_len 0 n))
  where
    map_same : (xs : List ℕ) → map (λ (k : ℕ). k) xs ≡ xs
    map_same [] = refl
    map_same (x ∷ xs) = ap (λ (ys : List ℕ). x ∷ ys) (map_same xs)

or_last : (a b : Bool) → a || (b || false) ≡ a || b
or_last true b = refl
or_last false true = refl
or_last false false = refl

or_none : (a b : Bool) → b ≡ false → a || b ≡ a
or_none true b is = refl
or_none false b is = is

-- some of the first symbols pass, with one more
pub any_more : (test : ℕ → Bool) (n : ℕ) → list_any test (range_with_len 0 (n + 1)) ≡ (list_any test (range_with_len 0 n) || test n)
any_more test n = ap (list_any test) (range_more n) ∙ list_any-append test (range_with_len 0 n) (n ∷ []) ∙ or_last (list_any test (range_with_len 0 n)) (test n)

-- a test of what is listed of the first symbols is one of them, where it is of what is listed of one more
pub pushed : {X : Type 0} (p : X → Bool) (test : ℕ → Bool) (xs : List X) (x : X) (n : ℕ) → list_any p xs ≡ list_any test (range_with_len 0 n) → p x ≡ test n → list_any p (xs ++ x ∷ []) ≡ list_any test (range_with_len 0 (n + 1))
pushed p test xs x n so_far own =
    list_any-append p xs (x ∷ []) ∙ or_last (list_any p xs) (p x) ∙ ap (λ (b : Bool). b || p x) so_far ∙ ap (λ (b : Bool). list_any test (range_with_len 0 n) || b) own ∙ sym (any_more test n)

pub passed_by : {X : Type 0} (p : X → Bool) (test : ℕ → Bool) (xs : List X) (n : ℕ) → list_any p xs ≡ list_any test (range_with_len 0 n) → false ≡ test n → list_any p xs ≡ list_any test (range_with_len 0 (n + 1))
passed_by p test xs n so_far none = so_far ∙ sym (or_none (list_any test (range_with_len 0 n)) (test n) (sym none)) ∙ sym (any_more test n)

-- ---- the first at a place
first_append : {X : Type 0} (xs ys : List X) (f : X → ℕ) → option_map f (slice_get (xs ++ ys) 0) ≡ first_of (option_map f (slice_get xs 0)) (option_map f (slice_get ys 0))
first_append [] ys f = none_first (option_map f (slice_get ys 0))
  where
    none_first : (o : Option ℕ) → o ≡ first_of None o
    none_first o = refl
first_append (x ∷ xs) ys f = refl

one_first : (place : Place) (s : NamedStart) (k : ℕ) → s.sym ≡ k → option_map (λ (x : NamedStart). x.sym) (slice_get (filter (begins_at place) (s ∷ [])) 0) ≡ (if begins_at place s then Some k else None)
one_first place s k own = by_test (begins_at place s) own
  where
    by_test : (b : Bool) → s.sym ≡ k → option_map (λ (x : NamedStart). x.sym) (slice_get (cond b (s ∷ []) []) 0) ≡ (if b then Some k else None)
    by_test true own = ap Some own
    by_test false own = refl

pub start_pushed : (p : ℕ → Bool) (place : Place) (starts : List NamedStart) (s : NamedStart) (n : ℕ) → first_symbol_at starts place ≡ least_below p n → begins_at place s ≡ p n → s.sym ≡ n → first_symbol_at (starts ++ s ∷ []) place ≡ least_below p (suc n)
unfolding least_below
start_pushed p place starts s n so_far test own =
    ap (λ (xs : List NamedStart). option_map (λ (x : NamedStart). x.sym) (slice_get xs 0)) (filter-append (begins_at place) starts (s ∷ []))
    ∙ first_append (filter (begins_at place) starts) (filter (begins_at place) (s ∷ [])) (λ (x : NamedStart). x.sym)
    ∙ ap (λ (o : Option ℕ). first_of o (option_map (λ (x : NamedStart). x.sym) (slice_get (filter (begins_at place) (s ∷ [])) 0))) so_far
    ∙ ap (first_of (least_below p n)) (one_first place s n own ∙ ap (λ (b : Bool). if b then Some n else None) test)

pub start_passed_by : (p : ℕ → Bool) (place : Place) (starts : List NamedStart) (n : ℕ) → first_symbol_at starts place ≡ least_below p n → false ≡ p n → first_symbol_at starts place ≡ least_below p (suc n)
unfolding least_below
start_passed_by p place starts n so_far none = so_far ∙ same (least_below p n) ∙ ap (λ (b : Bool). first_of (least_below p n) (if b then Some n else None)) none
  where
    same : (o : Option ℕ) → o ≡ first_of o None
    same (Some k) = refl
    same None = refl

pub no_start : (p : ℕ → Bool) (place : Place) → first_symbol_at [] place ≡ least_below p 0
unfolding least_below
no_start p place = refl

-- ---- their order
place_total : IsTotalOrder (λ (p q : Place). ordering_then (nat_cmp p.sec q.sec) (nat_cmp p.off q.off))
place_total = then_total (on_total (λ (p : Place). p.sec) nat_cmp_total) (on_total (λ (p : Place). p.off) nat_cmp_total)

pub starts_sorted : (ss : List NamedStart) → IsSortedByKey (λ (s : NamedStart). s.start) (λ (p q : Place). ordering_then (nat_cmp p.sec q.sec) (nat_cmp p.off q.off)) ss → BeginInOrder ss
starts_sorted ss up i j d order inside =
    sorted_far (λ (x y : NamedStart). is_before x.start y.start) (ranks_by place_total (λ (s : NamedStart). s.start)) ss up i j d order inside

tied_is_same : (a b c d : ℕ) → not (is_lt (ordering_then (nat_cmp a c) (nat_cmp b d))) && not (is_lt (ordering_then (nat_cmp c a) (nat_cmp d b))) ≡ (eqb c a && eqb d b)
tied_is_same a b c d = grind (arith, nat_tests)

pub starts_stable : (ss sorted : List NamedStart) → IsStableByKey (λ (s : NamedStart). s.start) (λ (p q : Place). ordering_then (nat_cmp p.sec q.sec) (nat_cmp p.off q.off)) ss sorted → (place : Place) → first_symbol_at sorted place ≡ first_symbol_at ss place
starts_stable ss sorted stable place =
    let tied : NamedStart → Bool = λ s. not (is_lt (ordering_then (nat_cmp place.sec s.start.sec) (nat_cmp place.off s.start.off))) && not (is_lt (ordering_then (nat_cmp s.start.sec place.sec) (nat_cmp s.start.off place.off))) in
    let agree : (s : NamedStart) → tied s ≡ begins_at place s = λ s. tied_is_same place.sec place.off s.start.sec s.start.off in
    ap (λ (xs : List NamedStart). option_map (λ (x : NamedStart). x.sym) (slice_get xs 0)) (sym (filter_agree tied (begins_at place) agree sorted) ∙ stable (record { start = place; sym = 0 }) ∙ filter_agree tied (begins_at place) agree ss)

still_before : (a b c d e f : ℕ) → is_lt (ordering_then (nat_cmp e a) (nat_cmp f b)) ≡ false → is_lt (ordering_then (nat_cmp e c) (nat_cmp f d)) ≡ true → is_lt (ordering_then (nat_cmp a c) (nat_cmp b d)) ≡ true
still_before a b c d e f x y = grind (arith, nat_tests)

pub before_parted : (ss : List NamedStart) (place : Place) → BeginInOrder ss → IsPartitionedBy (λ (s : NamedStart). is_before s.start place) ss
before_parted ss place by i j d order inside h =
    still_before (get_or ss i d).start.sec (get_or ss i d).start.off place.sec place.off (get_or ss j d).start.sec (get_or ss j d).start.off (by i j d order inside) h

before_numbers : (a b c d : ℕ) → is_lt (ordering_then (nat_cmp a c) (nat_cmp b d)) ≡ true → (eqb a c && eqb b d) ≡ false
before_numbers a b c d before = grind (arith, nat_tests)

-- what isn't before a place, and stands behind what isn't it, isn't it
far_numbers : (a b c d e f : ℕ) → is_lt (ordering_then (nat_cmp c a) (nat_cmp d b)) ≡ false → is_lt (ordering_then (nat_cmp a e) (nat_cmp b f)) ≡ false → (eqb a e && eqb b f) ≡ false → (eqb c e && eqb d f) ≡ false
far_numbers a b c d e f x y z = grind (arith, nat_tests)

-- the first that passes
first_passing : {X : Type 0} (p : X → Bool) (xs : List X) (i : ℕ) (d : X) → i < length xs → ((k : ℕ) → k < i → p (get_or xs k d) ≡ false) → p (get_or xs i d) ≡ true → slice_get (filter p xs) 0 ≡ Some (get_or xs i d)
first_passing p [] i d inside before here = absurd (omega (arith, inside))
first_passing p (x ∷ xs) zero d inside before here = ap (λ (b : Bool). slice_get (cond b (x ∷ filter p xs) (filter p xs)) 0) here
first_passing p (x ∷ xs) (suc i) d inside before here = ap (λ (b : Bool). slice_get (cond b (x ∷ filter p xs) (filter p xs)) 0) (before 0 (omega arith)) ∙ first_passing p xs i d (omega (arith, inside)) (λ k low. before (suc k) (omega (arith, low))) here

none_passing : {X : Type 0} (p : X → Bool) (xs : List X) (d : X) → ((k : ℕ) → k < length xs → p (get_or xs k d) ≡ false) → slice_get (filter p xs) 0 ≡ None
none_passing p [] d none = refl
none_passing p (x ∷ xs) d none = ap (λ (b : Bool). slice_get (cond b (x ∷ filter p xs) (filter p xs)) 0) (none 0 (omega arith)) ∙ none_passing p xs d (λ k low. none (suc k) (omega (arith, low)))

pub no_named : NamedStart
no_named = record { start = record { sec = 0; off = 0 }; sym = 0 }

module _ (ss : List NamedStart) (place : Place) (by : BeginInOrder ss) (first : ℕ) (before : (k : ℕ) (d : NamedStart) → k < first → is_before (get_or ss k d).start place ≡ true) (others : (k : ℕ) (d : NamedStart) → first ≤ k → k < length ss → is_before (get_or ss k d).start place ≡ false) where
  not_yet : (k : ℕ) → k < first → begins_at place (get_or ss k no_named) ≡ false
  not_yet k low = let s = get_or ss k no_named in before_numbers s.start.sec s.start.off place.sec place.off (before k no_named low)

  pub found_first : first < length ss → begins_at place (get_or ss first no_named) ≡ true → Some (get_or ss first no_named).sym ≡ first_symbol_at ss place
  found_first inside here = sym (ap (option_map (λ (x : NamedStart). x.sym)) (first_passing (begins_at place) ss first no_named inside not_yet here))

  pub found_none : (first < length ss → begins_at place (get_or ss first no_named) ≡ false) → None ≡ first_symbol_at ss place
  found_none other = sym (ap (option_map (λ (x : NamedStart). x.sym)) (none_passing (begins_at place) ss no_named (λ k low. elim (cases_lt k first) [
    | inl less ↦ not_yet k less
    | inr more ↦
        let a = get_or ss first no_named in
        let b = get_or ss k no_named in
        far_numbers a.start.sec a.start.off b.start.sec b.start.off place.sec place.off (by first k no_named more low) (others first no_named (omega arith) (omega (arith, more, low))) (other (omega (arith, more, low)))
  ])))
