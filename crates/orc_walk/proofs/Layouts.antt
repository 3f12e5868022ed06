-- Ranges that are laid out, one more of them.
use Rattle.std.proofs.Common.{◌≡◌, ℕ, suc, ◌+◌, ◌^◌, ◌<◌, ◌≤◌, ◌⊎◌, Bool, true, false, cond, ◌&&◌, List, [], ◌∷◌, ◌++◌, Option, Some, None, refl, sym, ◌∙◌, ap, subst, inl, inr, leb, ltb, eqb, max, length, get_or, take, drop, add-one, drop-cons, arith, rules}
use Rattle.std.proofs.lemmas.Option.{none-some}
use Rattle.std.specs.Prelude.{All, Contains, IsTrue, IsSome, find, option_map}
use Rattle.std.specs.Option.{option_or}
use Rattle.std.specs.Ordering.{nat_cmp, is_lt}
use Rattle.std.specs.declared.cmp.Ordering.TheVariants.{Less, Equal, Greater}
use Rattle.std.proofs.lemmas.Map.Keys.{ge_from_not_lt}
use Rattle.std.specs.BTreeMap.{BTreeMap, get, Updates}
use Rattle.std.proofs.lemmas.Bool.{cases_lt, lt-ltb, lt-leb, leb-false}
use Rattle.std.proofs.lemmas.Bool.Decides.{nat_tests}
use Rattle.std.proofs.lemmas.List.Elements.{All-nil, All-cons, All-head, All-tail, All-push, Contains-append_left, Contains-append_right}
use Rattle.std.proofs.lemmas.List.Quantifiers.{all_pairs_push}
use Rattle.std.proofs.lemmas.List.{take_more}
use Rattle.table_defs.specs.declared.range.Range.{Range}
use Rattle.table_defs.specs.Placement.{covers}
use Rattle.orc_walk.specs.declared.faults.PlaceWhy.{PlaceWhy}
use Rattle.orc_walk.specs.declared.faults.PlaceWhy.TheVariants.{Wraps, Overlaps}
use Rattle.orc_walk.specs.declared.faults.PlaceFault.TheVariants.{At}
use Rattle.orc_walk.specs.Faults.{overlap, range_fault, first_faulty}
use Rattle.orc_walk.specs.Layout.{IsRangeAt, IsLaid}
use Rattle.orc_walk.specs.Table.{IsLaidOut}
use Rattle.orc_walk.proofs.BaseLemmas.{same_key, same_section}

overlap_bits : (a b c d : ℕ) → (a + b ≤ c) ⊎ (c + d ≤ a) → ((leb a (max a c) && ltb (max a c) (a + b)) && (leb c (max a c) && ltb (max a c) (c + d))) ≡ false
overlap_bits a b c d apart = grind (arith, nat_tests)

-- ranges of which one ends where the other begins, or before, share no address
no_overlap : (one other : Range) → (one.base + one.size ≤ other.base) ⊎ (other.base + other.size ≤ one.base) → overlap one other ≡ false
no_overlap one other apart = overlap_bits one.base one.size other.base other.size apart

apart_bits : (a b c d : ℕ) → 0 < b → 0 < d → ((leb a (max a c) && ltb (max a c) (a + b)) && (leb c (max a c) && ltb (max a c) (c + d))) ≡ false → (a + b ≤ c) ⊎ (c + d ≤ a)
apart_bits a b c d some more none = grind (arith, nat_tests)

apart : (one other : Range) → 0 < one.size → 0 < other.size → overlap one other ≡ false → (one.base + one.size ≤ other.base) ⊎ (other.base + other.size ≤ one.base)
apart one other some more none = apart_bits one.base one.size other.base other.size some more none

empty_bits : (a c d : ℕ) → ((leb a (max a c) && ltb (max a c) (a + 0)) && (leb c (max a c) && ltb (max a c) (c + d))) ≡ false
empty_bits a c d = grind (arith, nat_tests)

covered_bits : (a b x : ℕ) → IsTrue (leb a x && ltb x (a + b)) → (a ≤ x) × (x < a + b)
covered_bits a b x h = grind (arith, nat_tests)

find_none : {X : Type 0} (p : X → Bool) (xs : List X) → All (λ x. p x ≡ false) xs → find p xs ≡ None
find_none p [] none = refl
find_none p (x ∷ xs) none = ap (λ b. cond b (Some x) (find p xs)) (All-head (λ x. p x ≡ false) x xs none) ∙ find_none p xs (All-tail (λ x. p x ≡ false) x xs none)

abbrev fault_found : List Range → Range → Option PlaceWhy
fault_found earlier range = option_map (λ other. Overlaps other.sec) (find (λ other. overlap other range) earlier)

pub fits_fault : (earlier : List Range) (range : Range) → range.base + range.size < 2 ^ 64 → range_fault earlier range ≡ fault_found earlier range
fits_fault earlier range lt = ap (λ b. cond b (Some Wraps) (fault_found earlier range)) (lt-leb (2 ^ 64) (range.base + range.size) lt)

no_fault : (earlier : List Range) (range : Range) → range.base + range.size < 2 ^ 64 → All (λ other. overlap other range ≡ false) earlier → range_fault earlier range ≡ None
no_fault earlier range lt none = fits_fault earlier range lt ∙ ap (option_map (λ other. Overlaps other.sec)) (find_none (λ other. overlap other range) earlier none)

empty_right : (a b c : ℕ) → ((leb a (max a c) && ltb (max a c) (a + b)) && (leb c (max a c) && ltb (max a c) (c + 0))) ≡ false
empty_right a b c = grind (arith, nat_tests)

empty_left : (a c d : ℕ) → ((leb a (max a c) && ltb (max a c) (a + 0)) && (leb c (max a c) && ltb (max a c) (c + d))) ≡ false
empty_left a c d = grind (arith, nat_tests)

-- an empty range shares no address
pub empty_fits : (earlier : List Range) (range : Range) → range.base + range.size < 2 ^ 64 → range.size ≡ 0 → range_fault earlier range ≡ None
empty_fits earlier range lt empty = no_fault earlier range lt (λ k d k_lt. shares (get_or earlier k d) range empty)
  where
    shares : (one other : Range) → other.size ≡ 0 → overlap one other ≡ false
    shares one other empty = ap (λ n. (leb one.base (max one.base other.base) && ltb (max one.base other.base) (one.base + one.size)) && (leb other.base (max one.base other.base) && ltb (max one.base other.base) (other.base + n))) empty ∙ empty_right one.base one.size other.base

other_empty : (one other : Range) → one.size ≡ 0 → overlap one other ≡ false
other_empty one other empty = ap (λ n. (leb one.base (max one.base other.base) && ltb (max one.base other.base) (one.base + n)) && (leb other.base (max one.base other.base) && ltb (max one.base other.base) (other.base + other.size))) empty ∙ empty_left one.base other.base other.size

-- no laid range begins below the end of the new one
pub first_fits : (earlier : List Range) (laid : BTreeMap ℕ Range) (range : Range) → IsLaid earlier laid → range.base + range.size < 2 ^ 64 → ((base : ℕ) → base < range.base + range.size → get nat_cmp laid base ≡ None) → range_fault earlier range ≡ None
first_fits earlier laid range is lt none = no_fault earlier range lt (λ k d k_lt. shares (get_or earlier k d) (is.kept k d k_lt))
  where
    shares : (one : Range) → (0 < one.size → get nat_cmp laid one.base ≡ Some one) → overlap one range ≡ false
    shares one kept = elim (cases_lt 0 one.size) [
      | inl some ↦ elim (cases_lt one.base (range.base + range.size)) [
        | inl below ↦ absurd (none-some _ (sym (none one.base below) ∙ kept some))
        | inr above ↦ no_overlap one range (inr (omega arith))
      ]
      | inr empty ↦ other_empty one range (omega arith)
    ]

Some-same : {A : Type 0} {x y : A} → Some x ≡ Some y → x ≡ y
Some-same h = cc

-- the last laid range that begins below the end of the new one ends at or below its base
pub later_fits : (earlier : List Range) (laid : BTreeMap ℕ Range) (range : Range) (base : ℕ) (last : Range) → IsLaid earlier laid → range.base + range.size < 2 ^ 64 → get nat_cmp laid base ≡ Some last
    → ((q : ℕ) → q < range.base + range.size → IsSome (get nat_cmp laid q) → q ≤ base) → last.base + last.size ≤ range.base → range_fault earlier range ≡ None
later_fits earlier laid range base last is lt there greatest ends = no_fault earlier range lt (λ k d k_lt. shares (get_or earlier k d) (is.kept k d k_lt))
  where
    shares : (one : Range) → (0 < one.size → get nat_cmp laid one.base ≡ Some one) → overlap one range ≡ false
    shares one kept = elim (cases_lt 0 one.size) [
      | inl some ↦ elim (cases_lt one.base (range.base + range.size)) [
        | inl below ↦
            let at_most : one.base ≤ base = greatest one.base below (subst IsSome (sym (kept some)) (search rules)) in
            let begins : last.base ≡ base = (is.of_these base last there).begins in
            elim (cases_lt one.base base) [
              | inl less ↦ let before : one.base + one.size ≤ base = is.apart one.base base one last (kept some) there less in no_overlap one range (inl (omega arith))
              | inr not_less ↦
                  let same : one.base ≡ base = omega arith in
                  let it : one ≡ last = Some-same (sym (kept some) ∙ ap (get nat_cmp laid) same ∙ there) in
                  no_overlap one range (inl (subst (λ r. r.base + r.size ≤ range.base) (sym it) ends))
            ]
        | inr above ↦ no_overlap one range (inr (omega arith))
      ]
      | inr empty ↦ other_empty one range (omega arith)
    ]

less_cmp : (a b : ℕ) → a < b → nat_cmp a b ≡ Less
less_cmp a b lt = ap (λ t. cond t Less (cond (eqb a b) Equal Greater)) (lt-ltb a b lt)

pub below_all : (end q : ℕ) → q < end → nat_cmp q end ≡ Less
below_all end q lt = less_cmp q end lt

pub at_most : (a b : ℕ) → is_lt (nat_cmp a b) ≡ false → b ≤ a
at_most a b h = ge_from_not_lt a b h

-- ---- one more range

-- what is there with one range more was there, or is the new one
updated : (m n : BTreeMap ℕ Range) (x : Range) (base : ℕ) (range : Range) → Updates nat_cmp m n x.base (Some x) → get nat_cmp n base ≡ Some range → ((base ≡ x.base) × (range ≡ x)) ⊎ (get nat_cmp m base ≡ Some range)
updated m n x base range updates there = go (eqb x.base base) refl
  where
    go : (b : Bool) → eqb x.base base ≡ b → ((base ≡ x.base) × (range ≡ x)) ⊎ (get nat_cmp m base ≡ Some range)
    go true is = inl (sym (same_section x.base base is), Some-same (sym there ∙ updates.0 base ∙ ap (λ b. cond b (Some x) (get nat_cmp m base)) (same_key x.base base ∙ is)))
    go false is = inr (sym (updates.0 base ∙ ap (λ b. cond b (Some x) (get nat_cmp m base)) (same_key x.base base ∙ is)) ∙ there)

find_all : {X : Type 0} (p : X → Bool) (xs : List X) → find p xs ≡ None → All (λ x. p x ≡ false) xs
find_all p [] none = All-nil _
find_all p (x ∷ xs) none = go (find_all p xs) (p x) refl
  where
    go : (find p xs ≡ None → All (λ x. p x ≡ false) xs) → (b : Bool) → p x ≡ b → All (λ x. p x ≡ false) (x ∷ xs)
    go rest true is = absurd (none-some _ (sym none ∙ ap (λ b. cond b (Some x) (find p xs)) is))
    go rest false is = All-cons (λ x. p x ≡ false) x xs is (rest (sym (ap (λ b. cond b (Some x) (find p xs)) is) ∙ none))

map_none : {A B : Type 0} (f : A → B) (o : Option A) → option_map f o ≡ None → o ≡ None
map_none f None h = refl
map_none f (Some x) h = absurd (none-some _ (sym h))

-- what a range without a fault meets
record IsGood (done : List Range) (x : Range) : Type 0 where
  in_memory : x.base + x.size < 2 ^ 64
  apart_from : All (λ other. overlap other x ≡ false) done

good : (done : List Range) (x : Range) → range_fault done x ≡ None → IsGood done x
good done x none = go (leb (2 ^ 64) (x.base + x.size)) refl
  where
    go : (b : Bool) → leb (2 ^ 64) (x.base + x.size) ≡ b → IsGood done x
    go true is = absurd (none-some _ (sym none ∙ ap (λ b. cond b (Some Wraps) (fault_found done x)) is))
    go false is = record {
      in_memory = leb-false _ _ is;
      apart_from = find_all (λ other. overlap other x) done (map_none (λ other. Overlaps other.sec) (find (λ other. overlap other x) done) (sym (ap (λ b. cond b (Some Wraps) (fault_found done x)) is) ∙ none));
    }

laid_out_more : (done : List Range) (x : Range) → IsLaidOut done → IsGood done x → IsLaidOut (done ++ x ∷ [])
laid_out_more done x is fine = record {
  in_memory = All-push (λ range. range.base + range.size < 2 ^ 64) done x is.in_memory fine.in_memory;
  apart = all_pairs_push (λ one other. (address : ℕ) → IsTrue (covers one address) → IsTrue (covers other address) → ⊥) done x is.apart (λ k d lt. no_shared (get_or done k d) (fine.apart_from k d lt));
}
  where
    no_shared : (one : Range) → overlap one x ≡ false → (address : ℕ) → IsTrue (covers one address) → IsTrue (covers x address) → ⊥
    no_shared one none address first second =
        let a = covered_bits one.base one.size address first in
        let b = covered_bits x.base x.size address second in
        elim (apart one x (omega (arith, a.0, a.1)) (omega (arith, b.0, b.1)) none) [
          | inl before ↦ omega (arith, a.0, a.1, b.0, b.1)
          | inr behind ↦ omega (arith, a.0, a.1, b.0, b.1)
        ]

same_base : (one x : Range) → 0 < one.size → 0 < x.size → overlap one x ≡ false → eqb x.base one.base ≡ false
same_base one x some more none = go (eqb x.base one.base) refl
  where
    go : (b : Bool) → eqb x.base one.base ≡ b → eqb x.base one.base ≡ false
    go true is =
        let same : x.base ≡ one.base = same_section x.base one.base is in
        elim (apart one x some more none) [
          | inl before ↦ absurd (omega arith)
          | inr behind ↦ absurd (omega arith)
        ]
    go false is = is

among_fits : (done : List Range) (x range : Range) → IsGood done x → Contains done range → overlap range x ≡ false
among_fits done x range fine there = subst (λ r. overlap r x ≡ false) there.2 (fine.apart_from there.0 range there.1)

here_at : (done : List Range) (x range : Range) (base : ℕ) → IsGood done x → 0 < x.size → base ≡ x.base → range ≡ x → IsRangeAt (done ++ x ∷ []) base range
here_at done x range base fine some at is = subst (λ r. IsRangeAt (done ++ x ∷ []) base r) (sym is) (record {
  begins = sym at;
  not_empty = some;
  in_memory = fine.in_memory;
  among = Contains-append_right done (x ∷ []) x (0, omega arith, refl);
})

there_at : (done : List Range) (x range : Range) (base : ℕ) → IsRangeAt done base range → IsRangeAt (done ++ x ∷ []) base range
there_at done x range base at = record {
  begins = at.begins;
  not_empty = at.not_empty;
  in_memory = at.in_memory;
  among = Contains-append_left done (x ∷ []) range at.among;
}

pub laid_more : (done : List Range) (m n : BTreeMap ℕ Range) (x : Range) → IsLaid done m → range_fault done x ≡ None → 0 < x.size → Updates nat_cmp m n x.base (Some x) → IsLaid (done ++ x ∷ []) n
laid_more done m n x is none some updates = record {
  laid_out = laid_out_more done x is.laid_out (good done x none);
  kept = All-push (λ range. 0 < range.size → get nat_cmp n range.base ≡ Some range) done x (λ k d lt. stays (get_or done k d) (is.kept k d lt) ((good done x none).apart_from k d lt)) (λ h. updates.1);
  of_these = λ base range there. found base range there;
  apart = λ base next range other first second lt. in_turn base next range other lt (updated m n x base range updates first) (updated m n x next other updates second);
}
  where
    stays : (one : Range) → (0 < one.size → get nat_cmp m one.base ≡ Some one) → overlap one x ≡ false → 0 < one.size → get nat_cmp n one.base ≡ Some one
    stays one kept apart_from more = updates.0 one.base ∙ ap (λ b. cond b (Some x) (get nat_cmp m one.base)) (same_key x.base one.base ∙ same_base one x more some apart_from) ∙ kept more

    found : (base : ℕ) (range : Range) → get nat_cmp n base ≡ Some range → IsRangeAt (done ++ x ∷ []) base range
    found base range there = elim (updated m n x base range updates there) [
      | inl new ↦ here_at done x range base (good done x none) some new.0 new.1
      | inr old ↦ there_at done x range base (is.of_these base range old)
    ]

    in_turn : (base next : ℕ) (range other : Range) → base < next → ((base ≡ x.base) × (range ≡ x)) ⊎ (get nat_cmp m base ≡ Some range) → ((next ≡ x.base) × (other ≡ x)) ⊎ (get nat_cmp m next ≡ Some other) → range.base + range.size ≤ next
    in_turn base next range other lt (inl new) (inl new2) = absurd (omega (arith, new.0, new2.0))
    in_turn base next range other lt (inl new) (inr old) =
        let at = is.of_these next other old in
        subst (λ r. r.base + r.size ≤ next) (sym new.1) (elim (apart other x at.not_empty some (among_fits done x other (good done x none) at.among)) [
          | inl before ↦ absurd (omega (arith, at.begins, new.0, at.not_empty))
          | inr behind ↦ omega (arith, at.begins)
        ])
    in_turn base next range other lt (inr old) (inl new) =
        let at = is.of_these base range old in
        elim (apart range x at.not_empty some (among_fits done x range (good done x none) at.among)) [
          | inl before ↦ omega (arith, new.0)
          | inr behind ↦ absurd (omega (arith, at.begins, new.0))
        ]
    in_turn base next range other lt (inr old) (inr old2) = is.apart base next range other old old2 lt

pub laid_empty : (done : List Range) (m : BTreeMap ℕ Range) (x : Range) → IsLaid done m → range_fault done x ≡ None → x.size ≡ 0 → IsLaid (done ++ x ∷ []) m
laid_empty done m x is none empty = record {
  laid_out = laid_out_more done x is.laid_out (good done x none);
  kept = All-push (λ range. 0 < range.size → get nat_cmp m range.base ≡ Some range) done x is.kept (λ h. absurd (omega arith));
  of_these = λ base range there. there_at done x range base (is.of_these base range there);
  apart = is.apart;
}

pub no_ranges : (m : BTreeMap ℕ Range) → ((base : ℕ) → get nat_cmp m base ≡ None) → IsLaid [] m
no_ranges m none = record {
  laid_out = record { in_memory = All-nil _; apart = (λ i j d less lt. absurd (omega arith)) };
  kept = All-nil _;
  of_these = λ base range there. absurd (none-some _ (sym (none base) ∙ there));
  apart = λ base next range other first second lt. absurd (none-some _ (sym (none base) ∙ first));
}

-- a range without a fault is passed by
pub next_faulty : (ranges : List Range) (i : ℕ) (d : Range) → i < length ranges → range_fault (take i ranges) (get_or ranges i d) ≡ None
    → first_faulty (take i ranges) (drop i ranges) ≡ first_faulty (take (i + 1) ranges) (drop (i + 1) ranges)
next_faulty ranges i d lt none =
    ap (first_faulty (take i ranges)) (drop-cons ranges i d lt)
    ∙ ap (λ o. option_or (option_map (λ why. At (get_or ranges i d).sec why) o) (first_faulty (take i ranges ++ get_or ranges i d ∷ []) (drop (suc i) ranges))) none
    ∙ ap (λ front. first_faulty front (drop (suc i) ranges)) (sym (take_more ranges i d lt))
    ∙ ap (λ n. first_faulty (take (i + 1) ranges) (drop n ranges)) (sym (add-one i))
