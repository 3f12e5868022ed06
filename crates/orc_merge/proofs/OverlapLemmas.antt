-- The ranges of all objects, laid out as those of one.
use Rattle.std.proofs.Common.{◌≡◌, ℕ, suc, ◌+◌, ◌^◌, ◌<◌, ◌≤◌, ◌⊎◌, Bool, true, false, cond, ◌&&◌, List, [], ◌∷◌, ◌++◌, Option, Some, None, refl, sym, ◌∙◌, ap, subst, inl, inr, leb, ltb, max, length, get_or, take, append_assoc, length-append, arith}
use Rattle.std.specs.Prelude.{All, AllPairs, IsTrue, find, option_map}
use Rattle.std.specs.Option.{option_or}
use Rattle.std.proofs.lemmas.Bool.{lt-ltb}
use Rattle.std.proofs.lemmas.List.{get_or_append_left, take_more, length-take-le}
use Rattle.std.proofs.Math.Seq.{get_or-append_seam}
use Rattle.std.proofs.lemmas.List.Elements.{All-nil, All-cons, All-head, All-tail, All-append, All-weaker}
use Rattle.std.proofs.lemmas.List.Kept.{AllPairs-cons}
use Rattle.table_defs.specs.declared.range.Range.{Range}
use Rattle.table_defs.specs.Placement.{covers}
use Rattle.orc_walk.specs.declared.faults.PlaceWhy.{PlaceWhy}
use Rattle.orc_walk.specs.declared.faults.PlaceWhy.TheVariants.{Wraps, Overlaps as OverlapsWhy}
use Rattle.orc_walk.specs.declared.faults.PlaceFault.{PlaceFault}
use Rattle.orc_walk.specs.declared.faults.PlaceFault.TheVariants.{At, NoMemory}
use Rattle.orc_walk.specs.Faults.{overlap, range_fault, first_faulty, place_fault}
use Rattle.orc_walk.specs.Table.{IsLaidOut}
use Rattle.orc_merge.specs.declared.part.Part.{Part}
use Rattle.orc_merge.specs.Parts.{OwnedRange, owned_ranges, ranges_from}
use Rattle.orc_merge.specs.Overlaps.{overlapped, overlap_fault, first_overlap, numbered}
use Rattle.orc_merge.proofs.Bounds.{none_found}
use Rattle.orc_merge.proofs.Apartness.{map_none, both_none}

abbrev number : ℕ → OwnedRange → Range
number k owned = record { sec = k; base = owned.1.base; size = owned.1.size }

-- the number of the next range
numbered-push : (k : ℕ) (done : List OwnedRange) (owned : OwnedRange) → numbered k (done ++ owned ∷ []) ≡ numbered k done ++ number (k + length done) owned ∷ []
numbered-push k [] owned = ap (λ n. number n owned ∷ []) (omega arith)
numbered-push k (x ∷ done) owned = ap (λ rs. number k x ∷ rs) (numbered-push (k + 1) done owned ∙ ap (λ n. numbered (k + 1) done ++ number n owned ∷ []) (omega arith))

pub numbered-more : (done : List OwnedRange) (owned : OwnedRange) → numbered 0 (done ++ owned ∷ []) ≡ numbered 0 done ++ number (length done) owned ∷ []
numbered-more done owned = numbered-push 0 done owned ∙ ap (λ n. numbered 0 done ++ number n owned ∷ []) (omega arith)

pub numbered_next : (owned : List OwnedRange) (i : ℕ) (d : OwnedRange) → i < length owned → numbered 0 (take (i + 1) owned) ≡ numbered 0 (take i owned) ++ record { sec = i; base = (get_or owned i d).1.base; size = (get_or owned i d).1.size } ∷ []
numbered_next owned i d lt =
    ap (numbered 0) (take_more owned i d lt)
    ∙ numbered-more (take i owned) (get_or owned i d)
    ∙ ap (λ n. numbered 0 (take i owned) ++ number n (get_or owned i d) ∷ []) (length-take-le i owned (omega arith))

-- a range that shares no address with the numbered ones shares none with these
free : (k : ℕ) (earlier : List OwnedRange) (range : Range) → All (λ other. overlap other range ≡ false) (numbered k earlier) → All (λ (other : OwnedRange). overlap other.1 range ≡ false) earlier
free k [] range all = All-nil _
free k (x ∷ earlier) range all = All-cons (λ (other : OwnedRange). overlap other.1 range ≡ false) x earlier (All-head (λ other. overlap other range ≡ false) (number k x) (numbered (k + 1) earlier) all) (free (k + 1) earlier range (All-tail (λ other. overlap other range ≡ false) (number k x) (numbered (k + 1) earlier) all))

find_none : {X : Type 0} (p : X → Bool) (xs : List X) → All (λ x. p x ≡ false) xs → find p xs ≡ None
find_none p [] none = refl
find_none p (x ∷ xs) none = ap (λ b. cond b (Some x) (find p xs)) (All-head (λ x. p x ≡ false) x xs none) ∙ find_none p xs (All-tail (λ x. p x ≡ false) x xs none)

and_false : (a b : Bool) → b ≡ false → (a && b) ≡ false
and_false true b h = h
and_false false b h = refl

abbrev found_fault : List Range → Range → Option PlaceWhy
found_fault earlier range = option_map (λ (other : Range). OverlapsWhy other.sec) (find (λ other. overlap other range) earlier)

-- nothing is wrong with a range among the numbered ones
fits : (earlier : List OwnedRange) (k : ℕ) (owned : OwnedRange) → range_fault (numbered 0 earlier) (number k owned) ≡ None → overlap_fault earlier owned ≡ None
fits earlier k owned h =
    let none : find (λ other. overlap other (number k owned)) (numbered 0 earlier) ≡ None = map_none (λ (other : Range). OverlapsWhy other.sec) _ (go (leb (2 ^ 64) (owned.1.base + owned.1.size)) h) in
    let all : All (λ (other : OwnedRange). overlap other.1 (number k owned) ≡ false) earlier = free 0 earlier (number k owned) (none_found (λ other. overlap other (number k owned)) (numbered 0 earlier) none) in
    ap (option_map (overlapped owned)) (find_none (λ (other : OwnedRange). ltb other.0 owned.0 && overlap other.1 owned.1) earlier (All-weaker (λ (other : OwnedRange). overlap other.1 (number k owned) ≡ false) (λ (other : OwnedRange). (ltb other.0 owned.0 && overlap other.1 owned.1) ≡ false) (λ other free. and_false (ltb other.0 owned.0) (overlap other.1 owned.1) free) earlier all))
  where
    go : (b : Bool) → cond b (Some Wraps) (found_fault (numbered 0 earlier) (number k owned)) ≡ None → found_fault (numbered 0 earlier) (number k owned) ≡ None
    go true e = absurd (let f : Some Wraps ≡ None = e in cc)
    go false e = e

abbrev tail_fault : List OwnedRange → List OwnedRange → Option PlaceFault
tail_fault earlier ranges = first_faulty (numbered 0 earlier) (numbered (length earlier) ranges)

next_tail : (earlier : List OwnedRange) (x : OwnedRange) (ranges : List OwnedRange) → first_faulty (numbered 0 earlier ++ number (length earlier) x ∷ []) (numbered (length earlier + 1) ranges) ≡ tail_fault (earlier ++ x ∷ []) ranges
next_tail earlier x ranges =
    ap (λ rs. first_faulty rs (numbered (length earlier + 1) ranges)) (sym (numbered-more earlier x))
    ∙ ap (λ n. first_faulty (numbered 0 (earlier ++ x ∷ [])) (numbered n ranges)) (sym (length-append earlier (x ∷ [])))

-- where nothing is wrong with all of them
none_overlaps : (earlier ranges : List OwnedRange) → tail_fault earlier ranges ≡ None → first_overlap earlier ranges ≡ None
none_overlaps earlier [] h = refl
none_overlaps earlier (x ∷ ranges) h =
    let none = both_none _ _ h in
    let here : overlap_fault earlier x ≡ None = fits earlier (length earlier) x (map_none (λ why. At (length earlier) why) (range_fault (numbered 0 earlier) (number (length earlier) x)) none.0) in
    ap (λ o. option_or o (first_overlap (earlier ++ x ∷ []) ranges)) here
    ∙ none_overlaps (earlier ++ x ∷ []) ranges (sym (next_tail earlier x ranges) ∙ none.1)

pub no_overlap : (ranges : List OwnedRange) → first_faulty [] (numbered 0 ranges) ≡ None → first_overlap [] ranges ≡ None
no_overlap ranges h = none_overlaps [] ranges h

-- Where ranges share an address only with those of earlier objects.
abbrev pub IsAhead : OwnedRange → OwnedRange → Type 0
IsAhead one other = overlap one.1 other.1 ≡ true → one.0 < other.0

-- the first of the numbered ranges is the first of these
found_number : (k : ℕ) (earlier : List OwnedRange) (range found : Range) (d : OwnedRange) → find (λ other. overlap other range) (numbered k earlier) ≡ Some found → (i : ℕ) × (i < length earlier) × (found.sec ≡ k + i) × (find (λ (other : OwnedRange). overlap other.1 range) earlier ≡ Some (get_or earlier i d))
found_number k [] range found d h = absurd (let e : None ≡ Some found = h in cc)
found_number k (x ∷ earlier) range found d h = go (overlap x.1 range) refl (λ there. found_number (k + 1) earlier range found d there) h
  where
    some_same : {A : Type 0} {a b : A} → Some a ≡ Some b → a ≡ b
    some_same e = cc

    go : (b : Bool) → overlap x.1 range ≡ b
        → (find (λ other. overlap other range) (numbered (k + 1) earlier) ≡ Some found → (i : ℕ) × (i < length earlier) × (found.sec ≡ k + 1 + i) × (find (λ (other : OwnedRange). overlap other.1 range) earlier ≡ Some (get_or earlier i d)))
        → cond b (Some (number k x)) (find (λ other. overlap other range) (numbered (k + 1) earlier)) ≡ Some found
        → (i : ℕ) × (i < length (x ∷ earlier)) × (found.sec ≡ k + i) × (cond (overlap x.1 range) (Some x) (find (λ (other : OwnedRange). overlap other.1 range) earlier) ≡ Some (get_or (x ∷ earlier) i d))
    go true is rest same =
        let sec : k ≡ found.sec = ap (λ (r : Range). r.sec) (some_same same) in
        (0, omega arith, omega arith, ap (λ b. cond b (Some x) (find (λ (other : OwnedRange). overlap other.1 range) earlier)) is)
    go false is rest there =
        let (i, lt, sec, at) = rest there in
        (suc i, omega arith, omega arith, ap (λ b. cond b (Some x) (find (λ (other : OwnedRange). overlap other.1 range) earlier)) is ∙ at)

find_alike : {X : Type 0} (p q : X → Bool) (xs : List X) → All (λ x. p x ≡ q x) xs → find p xs ≡ find q xs
find_alike p q [] same = refl
find_alike p q (x ∷ xs) same = ap (λ b. cond b (Some x) (find p xs)) (All-head (λ x. p x ≡ q x) x xs same) ∙ ap (cond (q x) (Some x)) (find_alike p q xs (All-tail (λ x. p x ≡ q x) x xs same))

ahead_test : (one other : OwnedRange) → IsAhead one other → (ltb one.0 other.0 && overlap one.1 other.1) ≡ overlap one.1 other.1
ahead_test one other ahead = go (overlap one.1 other.1) refl
  where
    go : (b : Bool) → overlap one.1 other.1 ≡ b → (ltb one.0 other.0 && overlap one.1 other.1) ≡ overlap one.1 other.1
    go true is = ap (λ b. b && overlap one.1 other.1) (lt-ltb one.0 other.0 (ahead is))
    go false is = and_false (ltb one.0 other.0) (overlap one.1 other.1) is ∙ sym is

-- all in front of a range are ahead of it
all_ahead : (earlier : List OwnedRange) (x : OwnedRange) (ranges : List OwnedRange) → AllPairs IsAhead (earlier ++ x ∷ ranges) → All (λ other. IsAhead other x) earlier
all_ahead earlier x ranges pairs k d lt =
    let long = length-append earlier (x ∷ ranges) in
    subst (λ o. IsAhead o x) (get_or_append_left earlier (x ∷ ranges) d k lt)
    (subst (IsAhead (get_or (earlier ++ x ∷ ranges) k d)) (get_or-append_seam earlier x ranges d) (pairs k (length earlier) d lt (omega (arith, long))))

-- what the first fault among the numbered ranges says of these
faulted : (earlier ranges : List OwnedRange) (sec other : ℕ) (d : OwnedRange) → AllPairs IsAhead (earlier ++ ranges) → tail_fault earlier ranges ≡ Some (At sec (OverlapsWhy other))
    → (sec < length (earlier ++ ranges)) × (other < length (earlier ++ ranges)) × (first_overlap earlier ranges ≡ Some (overlapped (get_or (earlier ++ ranges) sec d) (get_or (earlier ++ ranges) other d)))
faulted earlier [] sec other d pairs h = absurd (let e : None ≡ Some (At sec (OverlapsWhy other)) = h in cc)
faulted earlier (x ∷ ranges) sec other d pairs h =
    go (range_fault (numbered 0 earlier) (number (length earlier) x)) refl
    (λ rest. faulted (earlier ++ x ∷ []) ranges sec other d (subst (AllPairs IsAhead) (sym (append_assoc earlier (x ∷ []) ranges)) pairs) rest) h
  where
    at_same : {a b : ℕ} {one two : PlaceWhy} → Some (At a one) ≡ Some (At b two) → (a ≡ b) × (one ≡ two)
    at_same e = (cc, cc)

    why_same : {a b : ℕ} → OverlapsWhy a ≡ OverlapsWhy b → a ≡ b
    why_same e = cc

    some_same : {A : Type 0} {a b : A} → Some a ≡ Some b → a ≡ b
    some_same e = cc

    here : (why : PlaceWhy) → range_fault (numbered 0 earlier) (number (length earlier) x) ≡ Some why → why ≡ OverlapsWhy other → (found : Range) × (find (λ o. overlap o (number (length earlier) x)) (numbered 0 earlier) ≡ Some found) × (found.sec ≡ other)
    here why is same = wraps (leb (2 ^ 64) (x.1.base + x.1.size)) is
      where
        found : (o : Option Range) → option_map (λ (r : Range). OverlapsWhy r.sec) o ≡ Some why → (r : Range) × (o ≡ Some r) × (r.sec ≡ other)
        found None e = absurd (let f : None ≡ Some why = e in cc)
        found (Some r) e = (r, refl, why_same (some_same e ∙ same))

        wraps : (b : Bool) → cond b (Some Wraps) (found_fault (numbered 0 earlier) (number (length earlier) x)) ≡ Some why → (r : Range) × (find (λ o. overlap o (number (length earlier) x)) (numbered 0 earlier) ≡ Some r) × (r.sec ≡ other)
        wraps true e = absurd (let f : Wraps ≡ OverlapsWhy other = some_same e ∙ same in cc)
        wraps false e = found (find (λ o. overlap o (number (length earlier) x)) (numbered 0 earlier)) e

    go : (o : Option PlaceWhy) → range_fault (numbered 0 earlier) (number (length earlier) x) ≡ o
        → (tail_fault (earlier ++ x ∷ []) ranges ≡ Some (At sec (OverlapsWhy other)) → (sec < length ((earlier ++ x ∷ []) ++ ranges)) × (other < length ((earlier ++ x ∷ []) ++ ranges)) × (first_overlap (earlier ++ x ∷ []) ranges ≡ Some (overlapped (get_or ((earlier ++ x ∷ []) ++ ranges) sec d) (get_or ((earlier ++ x ∷ []) ++ ranges) other d))))
        → option_or (option_map (λ why. At (length earlier) why) o) (first_faulty (numbered 0 earlier ++ number (length earlier) x ∷ []) (numbered (length earlier + 1) ranges)) ≡ Some (At sec (OverlapsWhy other))
        → (sec < length (earlier ++ x ∷ ranges)) × (other < length (earlier ++ x ∷ ranges)) × (first_overlap earlier (x ∷ ranges) ≡ Some (overlapped (get_or (earlier ++ x ∷ ranges) sec d) (get_or (earlier ++ x ∷ ranges) other d)))
    go None is onward rest =
        let shape : (earlier ++ x ∷ []) ++ ranges ≡ earlier ++ x ∷ ranges = append_assoc earlier (x ∷ []) ranges in
        let (sec_lt, other_lt, says) = onward (sym (next_tail earlier x ranges) ∙ rest) in (
          subst (λ all. sec < length all) shape sec_lt,
          subst (λ all. other < length all) shape other_lt,
          ap (λ o. option_or o (first_overlap (earlier ++ x ∷ []) ranges)) (fits earlier (length earlier) x is)
              ∙ subst (λ all. first_overlap (earlier ++ x ∷ []) ranges ≡ Some (overlapped (get_or all sec d) (get_or all other d))) shape says,
        )
    go (Some why) is onward same =
        let known = at_same same in
        let at : length earlier ≡ sec = known.0 in
        let (found, found_is, found_sec) = here why is known.1 in
        let (i, i_lt, i_is, first) = found_number 0 earlier (number (length earlier) x) found d found_is in
        let long = length-append earlier (x ∷ ranges) in
        let place : i ≡ other = omega arith in
        let one : get_or (earlier ++ x ∷ ranges) sec d ≡ x = ap (λ n. get_or (earlier ++ x ∷ ranges) n d) (sym at) ∙ get_or-append_seam earlier x ranges d in
        let two : get_or (earlier ++ x ∷ ranges) other d ≡ get_or earlier i d = ap (λ n. get_or (earlier ++ x ∷ ranges) n d) (sym place) ∙ get_or_append_left earlier (x ∷ ranges) d i i_lt in (
          omega (arith, long),
          omega (arith, long),
          ap (λ o. option_or o (first_overlap (earlier ++ x ∷ []) ranges))
              (ap (option_map (overlapped x))
              (find_alike (λ (o : OwnedRange). ltb o.0 x.0 && overlap o.1 x.1) (λ (o : OwnedRange). overlap o.1 (number (length earlier) x)) earlier (All-weaker (λ o. IsAhead o x) (λ (o : OwnedRange). (ltb o.0 x.0 && overlap o.1 x.1) ≡ overlap o.1 x.1) (λ o ahead. ahead_test o x ahead) earlier (all_ahead earlier x ranges pairs))
              ∙ first)
              ∙ ap Some (sym (ap (overlapped (get_or (earlier ++ x ∷ ranges) sec d)) two ∙ ap (λ o. overlapped o (get_or earlier i d)) one))),
        )

pub overlap_told : (ranges : List OwnedRange) (sec other : ℕ) (d : OwnedRange) → AllPairs IsAhead ranges → first_faulty [] (numbered 0 ranges) ≡ Some (At sec (OverlapsWhy other))
    → (sec < length ranges) × (other < length ranges) × (first_overlap [] ranges ≡ Some (overlapped (get_or ranges sec d) (get_or ranges other d)))
overlap_told ranges sec other d pairs h = faulted [] ranges sec other d pairs h

-- The ranges of objects that are each laid out.
not_shared : (one other : Range) → ((address : ℕ) → IsTrue (covers one address) → IsTrue (covers other address) → ⊥) → overlap one other ≡ true → ⊥
not_shared one other apart h = go (covers one (max one.base other.base)) refl h
  where
    go : (b : Bool) → covers one (max one.base other.base) ≡ b → (b && covers other (max one.base other.base)) ≡ true → ⊥
    go true is there = apart (max one.base other.base) is there
    go false is there = absurd (let e : false ≡ true = there in cc)

later_owners : (k : ℕ) (parts : List Part) → All (λ (other : OwnedRange). k ≤ other.0) (ranges_from k parts)
later_owners k [] = All-nil _
later_owners k (part ∷ parts) =
    All-append (λ (other : OwnedRange). k ≤ other.0) (owned_ranges k part.ranges.items) (ranges_from (k + 1) parts)
    (own part.ranges.items)
    (All-weaker (λ (other : OwnedRange). k + 1 ≤ other.0) (λ (other : OwnedRange). k ≤ other.0) (λ other le. omega arith) (ranges_from (k + 1) parts) (later_owners (k + 1) parts))
  where
    own : (ranges : List Range) → All (λ (other : OwnedRange). k ≤ other.0) (owned_ranges k ranges)
    own [] = All-nil _
    own (r ∷ ranges) = All-cons (λ (other : OwnedRange). k ≤ other.0) (k, r) (owned_ranges k ranges) (omega arith) (own ranges)

ahead_with : (k : ℕ) (ranges : List Range) (others : List OwnedRange) → AllPairs (λ one other. (address : ℕ) → IsTrue (covers one address) → IsTrue (covers other address) → ⊥) ranges → All (λ (other : OwnedRange). k < other.0) others → AllPairs IsAhead others → AllPairs IsAhead (owned_ranges k ranges ++ others)
ahead_with k [] others apart above pairs = pairs
ahead_with k (r ∷ ranges) others apart above pairs =
    AllPairs-cons IsAhead (k, r) (owned_ranges k ranges ++ others)
    (All-append (IsAhead (k, r)) (owned_ranges k ranges) others (inside ranges (λ i d lt. apart 0 (suc i) d (omega arith) (omega arith))) (All-weaker (λ (other : OwnedRange). k < other.0) (IsAhead (k, r)) (λ other lt is. lt) others above))
    (ahead_with k ranges others (λ i j d less lt. apart (suc i) (suc j) d (omega arith) (omega arith)) above pairs)
  where
    inside : (rest : List Range) → All (λ other. (address : ℕ) → IsTrue (covers r address) → IsTrue (covers other address) → ⊥) rest → All (IsAhead (k, r)) (owned_ranges k rest)
    inside [] all = All-nil _
    inside (x ∷ rest) all =
        All-cons (IsAhead (k, r)) (k, x) (owned_ranges k rest)
        (λ is. absurd (not_shared r x (All-head (λ other. (address : ℕ) → IsTrue (covers r address) → IsTrue (covers other address) → ⊥) x rest all) is))
        (inside rest (All-tail (λ other. (address : ℕ) → IsTrue (covers r address) → IsTrue (covers other address) → ⊥) x rest all))

pub all_are_ahead : (k : ℕ) (parts : List Part) → All (λ part. IsLaidOut part.ranges.items) parts → AllPairs IsAhead (ranges_from k parts)
all_are_ahead k [] all = λ i j d less lt. absurd (omega arith)
all_are_ahead k (part ∷ parts) all =
    ahead_with k part.ranges.items (ranges_from (k + 1) parts)
    (All-head (λ part. IsLaidOut part.ranges.items) part parts all).apart
    (All-weaker (λ (other : OwnedRange). k + 1 ≤ other.0) (λ (other : OwnedRange). k < other.0) (λ other le. omega arith) (ranges_from (k + 1) parts) (later_owners (k + 1) parts))
    (all_are_ahead (k + 1) parts (All-tail (λ part. IsLaidOut part.ranges.items) part parts all))

-- What placing all of them, with no row, says of them.
pub placing_told : (parts : List Part) (owned : List OwnedRange) (ranges : List Range) (fault : PlaceFault) (sec other : ℕ) (d : OwnedRange) → All (λ part. IsLaidOut part.ranges.items) parts → owned ≡ ranges_from 0 parts → ranges ≡ numbered 0 owned → (fault ≡ NoMemory) ⊎ (place_fault [] ranges ≡ Some fault) → fault ≡ At sec (OverlapsWhy other)
    → (sec < length owned) × (other < length owned) × (first_overlap [] (ranges_from 0 parts) ≡ Some (overlapped (get_or owned sec d) (get_or owned other d)))
placing_told parts owned ranges fault sec other d laid owned_is ranges_is (inl want) is = absurd (let e : NoMemory ≡ At sec (OverlapsWhy other) = sym want ∙ is in cc)
placing_told parts owned ranges fault sec other d laid owned_is ranges_is (inr says) is =
    let first : first_faulty [] (numbered 0 owned) ≡ Some (At sec (OverlapsWhy other)) = ap (first_faulty []) (sym ranges_is) ∙ says ∙ ap Some is in
    let ahead : AllPairs IsAhead owned = subst (AllPairs IsAhead) (sym owned_is) (all_are_ahead 0 parts laid) in
    let (one, two, three) = overlap_told owned sec other d ahead first in
    (one, two, ap (first_overlap []) (sym owned_is) ∙ three)

pub placing_fits : (parts : List Part) (owned : List OwnedRange) (ranges : List Range) → owned ≡ ranges_from 0 parts → ranges ≡ numbered 0 owned → place_fault [] ranges ≡ None → first_overlap [] (ranges_from 0 parts) ≡ None
placing_fits parts owned ranges owned_is ranges_is fits = ap (first_overlap []) (sym owned_is) ∙ no_overlap owned (ap (first_faulty []) (sym ranges_is) ∙ fits)
