-- Which ranges share no address, where nothing is wrong with objects.
use Rattle.std.proofs.Common.{◌≡◌, ℕ, ◌+◌, ◌^◌, ◌<◌, ◌≤◌, ◌⊎◌, Bool, true, false, cond, ◌&&◌, ◌||◌, List, [], ◌∷◌, ◌++◌, Option, Some, None, refl, sym, ◌∙◌, ap, subst, inl, inr, leb, ltb, max, length, map, append_assoc, arith}
use Rattle.std.specs.Prelude.{All, Contains, find, option_map}
use Rattle.std.specs.List.{list_any}
use Rattle.std.specs.Option.{option_or}
use Rattle.std.proofs.lemmas.Bool.{lt-ltb}
use Rattle.std.proofs.lemmas.Bool.Decides.{nat_tests}
use Rattle.std.proofs.lemmas.List.Elements.{All-contains, Contains-append_left, Contains-append_right, Contains-push}
use Rattle.table_defs.specs.declared.range.Range.{Range}
use Rattle.table_defs.specs.Placement.{covers}
use Rattle.orc_walk.specs.declared.faults.PlaceWhy.TheVariants.{Wraps, Overlaps as OverlapsWhy}
use Rattle.orc_walk.specs.declared.faults.PlaceFault.TheVariants.{At}
use Rattle.orc_walk.specs.Faults.{overlap, range_fault, first_faulty}
use Rattle.orc_merge.specs.declared.part.Part.{Part}
use Rattle.orc_merge.specs.Parts.{OwnedRange, owned_ranges, ranges_from, all_ranges}
use Rattle.orc_merge.specs.Overlaps.{overlapped, overlap_fault, first_overlap}
use Rattle.orc_merge.proofs.Latest.{Contains-head, Contains-tail, Contains-cases, Contains-none}
use Rattle.orc_merge.proofs.Bounds.{none_found}

pub map_none : {A B : Type 0} (f : A → B) (o : Option A) → option_map f o ≡ None → o ≡ None
map_none f None h = refl
map_none f (Some x) h = absurd (let e : Some (f x) ≡ None = h in cc)

pub both_none : {A : Type 0} (one other : Option A) → option_or one other ≡ None → (one ≡ None) × (other ≡ None)
both_none None other h = (refl, h)
both_none (Some x) other h = absurd (let e : Some x ≡ None = h in cc)

apart_bits : (a b c d : ℕ) → 0 < b → 0 < d → ((leb a (max a c) && ltb (max a c) (a + b)) && (leb c (max a c) && ltb (max a c) (c + d))) ≡ false → (a + b ≤ c) ⊎ (c + d ≤ a)
apart_bits a b c d some more none = grind (arith, nat_tests)

covered_bits : (a b x : ℕ) → (leb a x && ltb x (a + b)) ≡ true → (a ≤ x) × (x < a + b)
covered_bits a b x h = grind (arith, nat_tests)

-- two ranges share no address
abbrev pub IsApart : Range → Range → Type 0
IsApart one other = (overlap one other ≡ false) ⊎ (overlap other one ≡ false)

pub covered : (range : Range) (address : ℕ) → covers range address ≡ true → (range.base ≤ address) × (address < range.base + range.size)
covered range address h = covered_bits range.base range.size address h

-- a range that begins at or below an address of another ends at or below the beginning of that
pub ends_before : (one other : Range) (address : ℕ) → IsApart one other → 0 < one.size → covers other address ≡ true → one.base ≤ address → one.base + one.size ≤ other.base
ends_before one other address apart some covering from =
    let at = covered other address covering in
    let low : other.base ≤ address = at.0 in
    let high : address < other.base + other.size = at.1 in
    elim apart [
      | inl none ↦ elim (apart_bits one.base one.size other.base other.size some (omega arith) none) [ inl before ↦ before | inr behind ↦ absurd (omega arith) ]
      | inr none ↦ elim (apart_bits other.base other.size one.base one.size (omega arith) some none) [ inl behind ↦ absurd (omega arith) | inr before ↦ before ]
    ]

-- the range that has an address
pub covering : (ranges : List Range) (address : ℕ) → list_any (λ range. covers range address) ranges ≡ true → (range : Range) × Contains ranges range × (covers range address ≡ true)
covering [] address h = absurd (let e : false ≡ true = h in cc)
covering (x ∷ ranges) address h = go (covers x address) refl (λ there. covering ranges address there) h
  where
    go : (b : Bool) → covers x address ≡ b → (list_any (λ range. covers range address) ranges ≡ true → (range : Range) × Contains ranges range × (covers range address ≡ true)) → (b || list_any (λ range. covers range address) ranges) ≡ true → (range : Range) × Contains (x ∷ ranges) range × (covers range address ≡ true)
    go true is rest there = (x, Contains-head x ranges, is)
    go false is rest there = let found = rest there in (found.0, Contains-tail x found.0 ranges found.1, found.2)

-- The ranges of one object.
fits : (earlier : List Range) (range : Range) → range_fault earlier range ≡ None → All (λ other. overlap other range ≡ false) earlier
fits earlier range h = none_found (λ other. overlap other range) earlier (map_none (λ (other : Range). OverlapsWhy other.sec) (find (λ other. overlap other range) earlier) (go (leb (2 ^ 64) (range.base + range.size)) h))
  where
    go : (b : Bool) → cond b (Some Wraps) (option_map (λ (other : Range). OverlapsWhy other.sec) (find (λ other. overlap other range) earlier)) ≡ None → option_map (λ (other : Range). OverlapsWhy other.sec) (find (λ other. overlap other range) earlier) ≡ None
    go true e = absurd (let f : Some Wraps ≡ None = e in cc)
    go false e = e

behind_earlier : (earlier ranges : List Range) (one other : Range) → first_faulty earlier ranges ≡ None → Contains earlier one → Contains ranges other → overlap one other ≡ false
behind_earlier earlier [] one other h first second = absurd (Contains-none other second)
behind_earlier earlier (x ∷ ranges) one other h first second =
    let none = both_none _ _ h in
    elim (Contains-cases x other ranges second) [
      | inl same ↦ subst (λ r. overlap one r ≡ false) same (All-contains (λ r. overlap r x ≡ false) earlier one (fits earlier x (map_none (λ why. At x.sec why) (range_fault earlier x) none.0)) first)
      | inr later ↦ behind_earlier (earlier ++ x ∷ []) ranges one other none.1 (Contains-append_left earlier (x ∷ []) one first) later
    ]

pub apart_within : (earlier ranges : List Range) (one other : Range) → first_faulty earlier ranges ≡ None → Contains ranges one → Contains ranges other → (one ≡ other) ⊎ IsApart one other
apart_within earlier [] one other h first second = absurd (Contains-none one first)
apart_within earlier (x ∷ ranges) one other h first second =
    let none = both_none _ _ h in
    elim (Contains-cases x one ranges first) [
      | inl same ↦ elim (Contains-cases x other ranges second) [
        | inl alike ↦ inl (sym same ∙ alike)
        | inr later ↦ inr (inl (subst (λ r. overlap r other ≡ false) same (behind_earlier (earlier ++ x ∷ []) ranges x other none.1 (Contains-push earlier x) later)))
      ]
      | inr later ↦ elim (Contains-cases x other ranges second) [
        | inl same ↦ inr (inr (subst (λ r. overlap r one ≡ false) same (behind_earlier (earlier ++ x ∷ []) ranges x one none.1 (Contains-push earlier x) later)))
        | inr behind ↦ apart_within (earlier ++ x ∷ []) ranges one other none.1 later behind
      ]
    ]

-- The ranges of several objects.
overlap_free : (earlier : List OwnedRange) (owned : OwnedRange) → overlap_fault earlier owned ≡ None → All (λ other. (ltb other.0 owned.0 && overlap other.1 owned.1) ≡ false) earlier
overlap_free earlier owned h = none_found (λ other. ltb other.0 owned.0 && overlap other.1 owned.1) earlier (map_none (overlapped owned) _ h)

overlap_split : (earlier front back : List OwnedRange) → first_overlap earlier (front ++ back) ≡ None → first_overlap (earlier ++ front) back ≡ None
overlap_split earlier [] back h = ap (λ xs. first_overlap xs back) (append_nil earlier) ∙ h
  where
    append_nil : {A : Type 0} (xs : List A) → xs ++ [] ≡ xs
    append_nil [] = refl
    append_nil (x ∷ xs) = ap (λ ys. x ∷ ys) (append_nil xs)
overlap_split earlier (x ∷ front) back h =
    ap (λ xs. first_overlap xs back) (sym (append_assoc earlier (x ∷ []) front))
    ∙ overlap_split (earlier ++ x ∷ []) front back (both_none _ _ h).1

overlap_behind : (earlier ranges : List OwnedRange) (one other : OwnedRange) → first_overlap earlier ranges ≡ None → Contains earlier one → Contains ranges other → (ltb one.0 other.0 && overlap one.1 other.1) ≡ false
overlap_behind earlier [] one other h first second = absurd (Contains-none other second)
overlap_behind earlier (x ∷ ranges) one other h first second =
    let none = both_none _ _ h in
    elim (Contains-cases x other ranges second) [
      | inl same ↦ subst (λ (r : OwnedRange). (ltb one.0 r.0 && overlap one.1 r.1) ≡ false) same (All-contains (λ (r : OwnedRange). (ltb r.0 x.0 && overlap r.1 x.1) ≡ false) earlier one (overlap_free earlier x none.0) first)
      | inr later ↦ overlap_behind (earlier ++ x ∷ []) ranges one other none.1 (Contains-append_left earlier (x ∷ []) one first) later
    ]

Contains-map : {A B : Type 0} (f : A → B) (xs : List A) (x : A) → Contains xs x → Contains (map f xs) (f x)
Contains-map f [] x among = absurd (Contains-none x among)
Contains-map f (z ∷ xs) x among =
    elim (Contains-cases z x xs among) [
      | inl same ↦ subst (λ y. Contains (y ∷ map f xs) (f x)) (sym (ap f same)) (Contains-head (f x) (map f xs))
      | inr later ↦ Contains-tail (f z) (f x) (map f xs) (Contains-map f xs x later)
    ]

numbered_among : (k : ℕ) (parts : List Part) (part : Part) (range : Range) → Contains parts part → Contains part.ranges.items range → (j : ℕ) × (j < k + length parts) × Contains (ranges_from k parts) (j, range)
numbered_among k [] part range among has = absurd (Contains-none part among)
numbered_among k (x ∷ parts) part range among has =
    elim (Contains-cases x part parts among) [
      | inl same ↦ (k, omega arith, Contains-append_left (owned_ranges k x.ranges.items) (ranges_from (k + 1) parts) (k, range) (Contains-map (λ (r : Range). (k, r)) x.ranges.items range (subst (λ (p : Part). Contains p.ranges.items range) (sym same) has)))
      | inr later ↦ let (j, lt, there) = numbered_among (k + 1) parts part range later has in (j, omega arith, Contains-append_right (owned_ranges k x.ranges.items) (ranges_from (k + 1) parts) (j, range) there)
    ]

ranges_from-append : (k : ℕ) (xs ys : List Part) → ranges_from k (xs ++ ys) ≡ ranges_from k xs ++ ranges_from (k + length xs) ys
ranges_from-append k [] ys = ap (λ n. ranges_from n ys) (omega arith)
ranges_from-append k (x ∷ xs) ys =
    ap (λ rest. owned_ranges k x.ranges.items ++ rest) (ranges_from-append (k + 1) xs ys)
    ∙ sym (append_assoc (owned_ranges k x.ranges.items) (ranges_from (k + 1) xs) _)
    ∙ ap (λ n. (owned_ranges k x.ranges.items ++ ranges_from (k + 1) xs) ++ ranges_from n ys) (omega arith)

-- a range of an earlier object and one of a later one
pub apart_earlier : (front back : List Part) (part earlier : Part) (one other : Range) → first_overlap [] (all_ranges (front ++ part ∷ back)) ≡ None → Contains front earlier → Contains earlier.ranges.items one → Contains part.ranges.items other → overlap one other ≡ false
apart_earlier front back part earlier one other h among has_one has_other =
    let split : first_overlap [] (ranges_from 0 front ++ ranges_from (0 + length front) (part ∷ back)) ≡ None = sym (ap (first_overlap []) (ranges_from-append 0 front (part ∷ back))) ∙ h in
    let behind : first_overlap (ranges_from 0 front) (ranges_from (0 + length front) (part ∷ back)) ≡ None = overlap_split [] (ranges_from 0 front) (ranges_from (0 + length front) (part ∷ back)) split in
    let (j, lt, there) = numbered_among 0 front earlier one among has_one in
    let here = Contains-append_left (owned_ranges (0 + length front) part.ranges.items) (ranges_from (0 + length front + 1) back) (0 + length front, other) (Contains-map (λ (r : Range). (0 + length front, r)) part.ranges.items other has_other) in
    let test = overlap_behind (ranges_from 0 front) (ranges_from (0 + length front) (part ∷ back)) (j, one) (0 + length front, other) behind there here in
    sym (ap (λ b. b && overlap one other) (lt-ltb j (0 + length front) lt)) ∙ test
