-- A look-up in the rows of several objects tells what a look-up in one object's own rows tells.
use Rattle.std.proofs.Common.{◌≡◌, ℕ, ◌+◌, ◌≤◌, true, List, [], ◌∷◌, ◌++◌, Option, Some, None, sym, ◌∙◌, ap, subst, inl, inr, leb, arith, append_assoc}
use Rattle.std.specs.Prelude.{All, Contains}
use Rattle.std.proofs.lemmas.Bool.{leb-true, le-leb}
use Rattle.std.proofs.lemmas.List.Elements.{All-contains, All-contains_itself, All-weaker, All-head, All-tail, All-filter, filter-append, filter_passes, Contains-append_left, Contains-append_right}
use Rattle.std.proofs.lemmas.List.Concat.{flat_map-append}
use Rattle.ot_base.specs.declared.row.PlacedRow.{PlacedRow}
use Rattle.table_defs.specs.declared.range.Range.{Range}
use Rattle.table_defs.specs.Placement.{covers}
use Rattle.table_defs.specs.Lookup.{AddressedRow, addressed, at_or_below, last_of}
use Rattle.orc_walk.specs.Faults.{place_fault, first_missing, first_faulty}
use Rattle.orc_merge.specs.declared.part.Part.{Part}
use Rattle.orc_merge.specs.declared.faults.MergeFault.TheVariants.{Place, NotEnded}
use Rattle.orc_merge.specs.Parts.{all_rows, all_ranges, rows_of_part, first_in}
use Rattle.orc_merge.specs.Ends.{first_unended}
use Rattle.orc_merge.specs.Overlaps.{first_overlap}
use Rattle.orc_merge.specs.MergeFaults.{merge_fault, unplaced, unended, too_many}
use Rattle.orc_merge.specs.Merged.{MergeIsDetermined}
use Rattle.orc_merge.specs.Alike.{MergedTellAlike}
use Rattle.orc_merge.proofs.Latest.{rank, latest, last_of-append, IsGreatest, last_is_greatest, told, IsQuiet, IsQuietBelow, no_later, quiet_front, quiet_back, quiet_both, higher, Contains-head, Contains-tail, Contains-cases, Contains-none}
use Rattle.orc_merge.proofs.Bounds.{IsBounded, bounded, Contains-filter}
use Rattle.orc_merge.proofs.Stable.{same_low, same_in_order}
use Rattle.orc_merge.proofs.Apartness.{map_none, both_none, IsApart, covered, ends_before, covering, apart_within, apart_earlier}

-- The last row at or below an address of a range says nothing where it lies in another range, and lies at or below the range.
settled : (rows : List PlacedRow) (ranges : List Range) (r : Range) (address : ℕ) (x : AddressedRow) → covers r address ≡ true
    → Contains (at_or_below address (addressed ranges rows)) x → All (λ y. rank y ≤ rank x) (at_or_below address (addressed ranges rows))
    → (b : IsBounded rows ranges x) → IsApart b.range r → (x.row.kind ≡ 0) × (x.address ≤ r.base)
settled rows ranges r address x inside among all b apart =
    let low : x.address ≤ address = leb-true _ _ (All-contains (λ y. leb y.address address ≡ true) (at_or_below address (addressed ranges rows)) x (filter_passes (λ y. leb y.address address) (addressed ranges rows)) among) in
    let from : b.range.base ≤ x.address = b.from in
    let before : b.range.base + b.range.size ≤ r.base = ends_before b.range r address apart b.filled inside (omega arith) in
    let r_low : r.base ≤ address = base_low inside in
    let end_at : b.end.address ≡ b.range.base + b.range.size = b.end_at in
    let end_low : leb b.end.address address ≡ true = le-leb _ _ (omega arith) in
    let end_there = Contains-filter (λ y. leb y.address address) (addressed ranges rows) b.end b.held end_low in
    let le : rank b.end ≤ rank x = All-contains (λ y. rank y ≤ rank x) (at_or_below address (addressed ranges rows)) b.end all end_there in
    elim (no_later b.end x b.says_nothing b.no_later) [
      | inl below ↦ absurd (higher b.end x below le)
      | inr same ↦ (same.1, let e : x.address ≡ b.end.address = same.0 in omega arith)
    ]
  where
    base_low : covers r address ≡ true → r.base ≤ address
    base_low h = (covered r address h).0

-- another object's last row says nothing there
other_quiet : (rows : List PlacedRow) (ranges : List Range) (r : Range) (address : ℕ) → first_unended rows ranges ≡ None → covers r address ≡ true → ((t : Range) → Contains ranges t → IsApart t r)
    → IsQuiet r.base (last_of (at_or_below address (addressed ranges rows)))
other_quiet rows ranges r address ended inside apart = go (last_of (at_or_below address (addressed ranges rows))) (last_is_greatest (at_or_below address (addressed ranges rows)))
  where
    go : (o : Option AddressedRow) → IsGreatest (at_or_below address (addressed ranges rows)) o → IsQuiet r.base o
    go None none = tt
    go (Some x) greatest =
        let b : IsBounded rows ranges x = All-contains (IsBounded rows ranges) (at_or_below address (addressed ranges rows)) x (All-filter (λ y. leb y.address address) (IsBounded rows ranges) (addressed ranges rows) (bounded rows ranges ended)) greatest.0 in
        settled rows ranges r address x inside greatest.0 greatest.1 b (apart b.range b.among)

-- the object's own last row says nothing where it lies below the range
own_quiet : (rows : List PlacedRow) (ranges : List Range) (r : Range) (address : ℕ) → first_unended rows ranges ≡ None → first_faulty [] ranges ≡ None → covers r address ≡ true → Contains ranges r
    → IsQuietBelow r.base (last_of (at_or_below address (addressed ranges rows)))
own_quiet rows ranges r address ended laid inside own = go (last_of (at_or_below address (addressed ranges rows))) (last_is_greatest (at_or_below address (addressed ranges rows)))
  where
    go : (o : Option AddressedRow) → IsGreatest (at_or_below address (addressed ranges rows)) o → IsQuietBelow r.base o
    go None none = tt
    go (Some x) greatest = λ lt.
        let b : IsBounded rows ranges x = All-contains (IsBounded rows ranges) (at_or_below address (addressed ranges rows)) x (All-filter (λ y. leb y.address address) (IsBounded rows ranges) (addressed ranges rows) (bounded rows ranges ended)) greatest.0 in
        elim (apart_within [] ranges b.range r laid b.among own) [
          | inl same ↦ let from : b.range.base ≤ x.address = b.from in let e : b.range.base ≡ r.base = ap (λ (t : Range). t.base) same in absurd (omega arith)
          | inr apart ↦ (settled rows ranges r address x inside greatest.0 greatest.1 b apart).0
        ]

abbrev last_in : ℕ → List AddressedRow → Option AddressedRow
last_in address rows = last_of (at_or_below address rows)

last_in-append : (address : ℕ) (xs ys : List AddressedRow) → last_in address (xs ++ ys) ≡ latest (last_in address xs) (last_in address ys)
last_in-append address xs ys = ap last_of (filter-append (λ y. leb y.address address) xs ys) ∙ last_of-append (at_or_below address xs) (at_or_below address ys)

all_quiet : (base address : ℕ) (parts : List Part) → All (λ part. IsQuiet base (last_in address (rows_of_part part))) parts → IsQuiet base (last_in address (all_rows parts))
all_quiet base address [] all = tt
all_quiet base address (part ∷ parts) all =
    subst (IsQuiet base) (sym (last_in-append address (rows_of_part part) (all_rows parts)))
    (quiet_both base (last_in address (rows_of_part part)) (last_in address (all_rows parts))
    (All-head (λ part. IsQuiet base (last_in address (rows_of_part part))) part parts all)
    (all_quiet base address parts (All-tail (λ part. IsQuiet base (last_in address (rows_of_part part))) part parts all)))

-- no object has the fault
none_in : {F : Type 0} (f : ℕ → Part → Option F) (k : ℕ) (parts : List Part) → first_in f k parts ≡ None → (part : Part) → Contains parts part → (j : ℕ) × (f j part ≡ None)
none_in f k [] h part among = absurd (Contains-none part among)
none_in f k (x ∷ parts) h part among =
    elim (Contains-cases x part parts among) [
      | inl same ↦ (k, ap (f k) (sym same) ∙ (both_none _ _ h).0)
      | inr later ↦ none_in f (k + 1) parts (both_none _ _ h).1 part later
    ]

split_at : {A : Type 0} (xs : List A) (x : A) → Contains xs x → (front : List A) × (back : List A) × (xs ≡ front ++ x ∷ back)
split_at [] x among = absurd (Contains-none x among)
split_at (z ∷ xs) x among =
    elim (Contains-cases z x xs among) [
      | inl same ↦ ([], xs, ap (λ y. y ∷ xs) same)
      | inr later ↦ let (front, back, is) = split_at xs x later in (z ∷ front, back, ap (λ ys. z ∷ ys) is)
    ]

module _ (parts : List Part) (clean : merge_fault parts ≡ None) where
  no_fault : (first_in unplaced 0 parts ≡ None) × (first_in unended 0 parts ≡ None) × (first_overlap [] (all_ranges parts) ≡ None)
  no_fault =
      let one = both_none (first_in unplaced 0 parts) _ clean in
      let two = both_none (first_in unended 0 parts) _ one.1 in
      let three = both_none (first_overlap [] (all_ranges parts)) (too_many parts) two.1 in
      (one.0, two.0, three.0)

  ended : (part : Part) → Contains parts part → first_unended part.rows.items part.ranges.items ≡ None
  ended part among =
      let (k, none) = none_in unended 0 parts no_fault.1 part among in
      map_none (λ (range : Range). NotEnded k range.sec) (first_unended part.rows.items part.ranges.items) none

  laid : (part : Part) → Contains parts part → first_faulty [] part.ranges.items ≡ None
  laid part among =
      let (k, none) = none_in unplaced 0 parts no_fault.0 part among in
      (both_none (first_missing part.ranges.items part.rows.items) _ (map_none (λ fault. Place k fault) (place_fault part.rows.items part.ranges.items) none)).1

  module _ (front back : List Part) (part : Part) (is : parts ≡ front ++ part ∷ back) (r : Range) (own : Contains part.ranges.items r) (address : ℕ) (inside : covers r address ≡ true) where
    here : Contains parts part
    here = subst (λ ps. Contains ps part) (sym is) (Contains-append_right front (part ∷ back) part (Contains-head part back))

    front_among : (q : Part) → Contains front q → Contains parts q
    front_among q among = subst (λ ps. Contains ps q) (sym is) (Contains-append_left front (part ∷ back) q among)

    back_among : (q : Part) → Contains back q → Contains parts q
    back_among q among = subst (λ ps. Contains ps q) (sym is) (Contains-append_right front (part ∷ back) q (Contains-tail part q back among))

    front_quiet : IsQuiet r.base (last_in address (all_rows front))
    front_quiet =
        all_quiet r.base address front
        (All-weaker (Contains front) (λ q. IsQuiet r.base (last_in address (rows_of_part q)))
        (λ q among. other_quiet q.rows.items q.ranges.items r address (ended q (front_among q among)) inside
        (λ t has. inl (apart_earlier front back part q t r (subst (λ ps. first_overlap [] (all_ranges ps) ≡ None) is no_fault.2) among has own)))
        front (All-contains_itself front))

    back_apart : (q : Part) → Contains back q → (t : Range) → Contains q.ranges.items t → IsApart t r
    back_apart q among t has =
        let (middle, rest, there) = split_at back q among in
        let whole : parts ≡ (front ++ part ∷ middle) ++ q ∷ rest = is ∙ ap (λ ps. front ++ part ∷ ps) there ∙ sym (append_assoc front (part ∷ middle) (q ∷ rest)) in
        inr (apart_earlier (front ++ part ∷ middle) rest q part r t (subst (λ ps. first_overlap [] (all_ranges ps) ≡ None) whole no_fault.2) (Contains-append_right front (part ∷ middle) part (Contains-head part middle)) own has)

    back_quiet : IsQuiet r.base (last_in address (all_rows back))
    back_quiet =
        all_quiet r.base address back
        (All-weaker (Contains back) (λ q. IsQuiet r.base (last_in address (rows_of_part q)))
        (λ q among. other_quiet q.rows.items q.ranges.items r address (ended q (back_among q among)) inside (back_apart q among))
        back (All-contains_itself back))

    same_told : told (last_in address (all_rows parts)) ≡ told (last_in address (rows_of_part part))
    same_told =
        let own_part = own_quiet part.rows.items part.ranges.items r address (ended part here) (laid part here) inside own in
        let with_back = quiet_back r.base (last_in address (all_rows back)) (last_in address (rows_of_part part)) back_quiet own_part in
        let with_front = quiet_front r.base (last_in address (all_rows front)) (latest (last_in address (rows_of_part part)) (last_in address (all_rows back))) front_quiet with_back.1 in
        ap told
        (ap (λ ps. last_in address (all_rows ps)) is
        ∙ ap (last_in address) (flat_map-append rows_of_part front (part ∷ back))
        ∙ last_in-append address (all_rows front) (rows_of_part part ++ all_rows back)
        ∙ ap (latest (last_in address (all_rows front))) (last_in-append address (rows_of_part part) (all_rows back)))
        ∙ with_front.0
        ∙ with_back.0

pub tell_alike : MergedTellAlike
tell_alike parts rows part clean merge among address inside =
    let (front, back, is) = split_at parts part among in
    let (r, own, covers_it) = covering part.ranges.items address inside in
    ap told (same_low (all_rows parts) rows address merge.ties)
    ∙ same_told parts clean front back part is r own address covers_it

-- and only one list is the merged rows
pub one_merge : MergeIsDetermined
one_merge parts one other first second =
    sym (same_in_order one other first.in_order second.in_order (λ row. second.ties row ∙ sym (first.ties row)))
