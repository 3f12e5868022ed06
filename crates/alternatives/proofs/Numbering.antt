-- Points that ascend, by their numbers.
use Rattle.std.proofs.Common.{◌≡◌, ℕ, ◌+◌, ◌-◌, ◌<◌, ◌≤◌, Bool, true, false, cond, not, List, length, get_or, All, Contains, Some, None, if◌then◌else◌, inl, inr, refl, sym, ap, ◌∙◌, arith}
use Rattle.std.specs.List.Sorted.{IsStrictlySortedBy, IsSortedBy, IsNonDecreasingBy, IsPartitionPoint, IsPartitionedBy}
use Rattle.std.specs.declared.cmp.Ordering.{Ordering}
use Rattle.std.specs.declared.cmp.Ordering.TheVariants.{Less, Equal, Greater}
use Rattle.std.specs.Ordering.{nat_cmp, ordering_then, ordering_reverse, ordering_index, is_lt}
use Rattle.std.proofs.lemmas.Bool.{cases_lt, cases_Bool, ne_eqb, false≢true}
use Rattle.std.proofs.lemmas.Bool.Decides.{nat_tests}
use Rattle.std.proofs.lemmas.Cmp.{tied_itself}
use Rattle.std.proofs.lemmas.List.Elements.{recursion_from_All}
use Rattle.std.proofs.lemmas.List.Sorted.{searchable_from_sorted}
use Rattle.std.proofs.lemmas.Map.Keys.{Less-from_sorted}
use Rattle.ot_base.specs.declared.place.Place.{Place}
use Rattle.ot_base.specs.Places.{is_before, place_cmp}
use Rattle.special_sections.specs.declared.entries.AltEntry.{AltEntry}
use Rattle.alternatives.specs.declared.fault.SiteWhy.{SiteWhy}
use Rattle.alternatives.specs.declared.fault.SiteWhy.TheVariants.{NotBoundary, Overlap, Replacement}
use Rattle.alternatives.specs.declared.texts.SectionText.{SectionText}
use Rattle.alternatives.specs.declared.point.Point.{Point}
use Rattle.alternatives.specs.Faults.{AreRight}
use Rattle.alternatives.specs.Texts.{behind, is_cut, is_whole, AreShort}
use Rattle.alternatives.specs.Originals.{entry_at, counts, overlaps_earlier}
use Rattle.alternatives.specs.Points.{address_of_point, entry_of, point_cmp, IsPoint}
use Rattle.alternatives.specs.Numbers.{IsKept, IsRunOf}
use Rattle.alternatives.proofs.Ascending.{every-in}
use Rattle.alternatives.proofs.Placed.{HasText, cut_has_text, and_both}
use Rattle.alternatives.proofs.Opened.{counts_inside, plain_or_replaced, point_has_text, variant_inside}
use Rattle.alternatives.proofs.PointOrder.{point_total, place_total, place_equal}

-- ---- halving
less_apart : (p q : Point) → point_cmp p q ≡ Less → is_lt (point_cmp q p) ≡ false
less_apart p q less = ap is_lt (point_total.antisymm q p ∙ ap ordering_reverse less)

sorted_by : (points : List Point) → IsStrictlySortedBy point_cmp points → IsSortedBy (λ p q. is_lt (point_cmp p q)) points
sorted_by points sorted k d from inside = less_apart (get_or points k d) (get_or points (k + 1) d) (Less-from_sorted point_cmp points k (k + 1) d sorted (omega arith) inside)

equal_less : Equal ≡ Less → ⊥
equal_less e = cc

equal_greater : Equal ≡ Greater → ⊥
equal_greater e = cc

-- a point that halving doesn't find isn't there
pub never_found : (points : List Point) (q : Point) (i : ℕ) → IsStrictlySortedBy point_cmp points → (IsNonDecreasingBy (λ p. ordering_index (point_cmp p q)) points → IsPartitionPoint (λ p. point_cmp p q ≡ Less) (λ p. point_cmp p q ≡ Greater) points i) → Contains points q → ⊥
never_found points q i sorted found at =
    let parts = found (searchable_from_sorted point_total (λ (p : Point). p) points q (sorted_by points sorted)) in
    let tied : point_cmp (get_or points at.0 q) q ≡ Equal = ap (λ (p : Point). point_cmp p q) at.2 ∙ tied_itself point_total q in
    elim (cases_lt at.0 i) [
      | inl lower ↦ equal_less (sym tied ∙ parts.0 at.0 q (omega arith) lower)
      | inr not_lower ↦ equal_greater (sym tied ∙ parts.1 at.0 q not_lower at.1)
    ]

before_numbers : (a b v c d w e f : ℕ) → ordering_then (ordering_then (nat_cmp a c) (nat_cmp b d)) (nat_cmp v w) ≡ Less → is_lt (ordering_then (nat_cmp c e) (nat_cmp d f)) ≡ true → is_lt (ordering_then (nat_cmp a e) (nat_cmp b f)) ≡ true
before_numbers a b v c d w e f less before = grind (arith, nat_tests)

behind_numbers : (a b v c d w e f : ℕ) → ordering_then (ordering_then (nat_cmp a c) (nat_cmp b d)) (nat_cmp v w) ≡ Less → is_lt (ordering_then (nat_cmp e a) (nat_cmp f b)) ≡ true → is_lt (ordering_then (nat_cmp e c) (nat_cmp f d)) ≡ true
behind_numbers a b v c d w e f less before = grind (arith, nat_tests)

pub before_parted : (points : List Point) (place : Place) → IsStrictlySortedBy point_cmp points → IsPartitionedBy (λ (p : Point). is_before p.place place) points
before_parted points place sorted i j d order inside h = elim (cases_lt i j) [
  | inl lower ↦
      let p : Point = get_or points i d in
      let q : Point = get_or points j d in
      before_numbers p.place.sec p.place.off p.variant q.place.sec q.place.off q.variant place.sec place.off (Less-from_sorted point_cmp points i j d sorted lower inside) h
  | inr last ↦ let is : j ≡ i = omega arith in ap (λ k. is_before (get_or points k d).place place) (sym is) ∙ h
]

pub upto_parted : (points : List Point) (place : Place) → IsStrictlySortedBy point_cmp points → IsPartitionedBy (λ (p : Point). not (is_before place p.place)) points
upto_parted points place sorted i j d order inside h = elim (cases_lt i j) [
  | inl lower ↦
      let p : Point = get_or points i d in
      let q : Point = get_or points j d in
      elim (cases_Bool (is_before place p.place)) [
        | inr clear ↦ ap not clear
        | inl behind_p ↦
            let behind_q : is_before place q.place ≡ true = behind_numbers p.place.sec p.place.off p.variant q.place.sec q.place.off q.variant place.sec place.off (Less-from_sorted point_cmp points i j d sorted lower inside) behind_p in
            absurd (false≢true (sym (ap not behind_q) ∙ h))
      ]
  | inr last ↦ let is : j ≡ i = omega arith in ap (λ k. not (is_before place (get_or points k d).place)) (sym is) ∙ h
]

not_both : (p q : Place) → is_before p q ≡ true → is_before q p ≡ true → ⊥
not_both p q h k = go (place_cmp p q) refl
  where
    go : (o : Ordering) → place_cmp p q ≡ o → ⊥
    go Less is = false≢true (sym (ap is_lt (place_total.antisymm q p ∙ ap ordering_reverse is)) ∙ k)
    go Equal is = false≢true (sym (ap is_lt is) ∙ h)
    go Greater is = false≢true (sym (ap is_lt is) ∙ h)

neither : (p q : Place) → is_before p q ≡ false → is_before q p ≡ false → p ≡ q
neither p q h k = go (place_cmp p q) refl
  where
    go : (o : Ordering) → place_cmp p q ≡ o → p ≡ q
    go Less is = absurd (false≢true (sym h ∙ ap is_lt is))
    go Equal is = place_equal p q is
    go Greater is = absurd (false≢true (sym k ∙ ap is_lt (place_total.antisymm q p ∙ ap ordering_reverse is)))

-- the points at a place lie between those that are counted
pub run_between : (points : List Point) (place : Place) (first end : ℕ) → first ≤ length points → end ≤ length points → ((k : ℕ) (d : Point) → k < first → is_before (get_or points k d).place place ≡ true) → ((k : ℕ) (d : Point) → first ≤ k → k < length points → is_before (get_or points k d).place place ≡ false) → ((k : ℕ) (d : Point) → k < end → is_before place (get_or points k d).place ≡ false) → ((k : ℕ) (d : Point) → end ≤ k → k < length points → is_before place (get_or points k d).place ≡ true) → IsRunOf points place first end
run_between points place first end first_in end_in before others upto behind_it = record {
  order = elim (cases_lt end first) [
    | inr not_less ↦ not_less
    | inl less ↦
        let d : Point = record { place = place; variant = 0 } in
        absurd (not_both (get_or points end d).place place (before end d less) (behind_it end d (omega arith) (omega arith)))
  ];
  within = end_in;
  below = before;
  here = λ k d from less. neither (get_or points k d).place place (others k d from (omega arith)) (upto k d less);
  above = behind_it;
}

-- ---- what is kept of points
some_why : (w : SiteWhy) → Some w ≡ None → ⊥
some_why w h = cc

whole_parts : (c w o r : Bool) → c ≡ true → (if not c then None else if not w then Some NotBoundary else if o then Some Overlap else if not r then Some Replacement else None) ≡ None → (w ≡ true) × (r ≡ true)
whole_parts false w o r e h = absurd (false≢true e)
whole_parts true false o r e h = absurd (some_why NotBoundary h)
whole_parts true true true r e h = absurd (some_why Overlap h)
whole_parts true true false false e h = absurd (some_why Replacement h)
whole_parts true true false true e h = (refl, refl)

-- the address of a point of a replacement
replaced_address : (entries : List AltEntry) (k : ℕ) (place : Place) → (let p : Point = record { place = place; variant = k + 1 } in address_of_point entries p).off ≡ (entry_at entries k).original.off + (place.off - (entry_at entries k).replacement.off)
replaced_address entries k place =
    let a : AltEntry = entry_of entries (k + 1) in
    ap (λ b. (cond b place (behind a.original (place.off - a.replacement.off))).off) (ne_eqb (k + 1) 0 (λ e. omega arith))
    ∙ ap (λ j. (entry_at entries j).original.off + (place.off - (entry_at entries j).replacement.off)) {x = k + 1 - 1} {y = k} (omega arith)

module _ (texts : List SectionText) (entries : List AltEntry) (are_short : AreShort texts) (right : AreRight texts entries (length entries)) where
  low : (place : Place) → HasText texts place (λ t. place.off ≤ length t.text.bytes) → place.off ≤ 16777216
  low place has =
      let most : length has.t.text.bytes ≤ 16777216 = every-in (λ (t : SectionText). length t.text.bytes ≤ 16777216) texts has.t (recursion_from_All (λ (t : SectionText). length t.text.bytes ≤ 16777216) texts are_short) has.is_in in
      omega (arith, has.holds)

  parts : (k : ℕ) → k < length entries → counts (entry_at entries k) ≡ true → (is_whole texts (entry_at entries k).original (entry_at entries k).original_len ≡ true) × (is_whole texts (entry_at entries k).replacement (entry_at entries k).replacement_len ≡ true)
  parts k inside some =
      let a : AltEntry = entry_at entries k in
      whole_parts (counts a) (is_whole texts a.original a.original_len) (overlaps_earlier entries k) (is_whole texts a.replacement a.replacement_len) some (right k inside)

  start_low : (place : Place) (len : ℕ) → is_whole texts place len ≡ true → place.off ≤ 16777216
  start_low place len whole = low place (cut_has_text texts place (and_both (is_cut texts place) (is_cut texts (behind place len)) whole).0)

  -- the replacement of an entry that counts begins in a text
  pub replacement_low : (k : ℕ) → k < length entries → counts (entry_at entries k) ≡ true → (entry_at entries k).replacement.off ≤ 16777216
  replacement_low k inside some = start_low (entry_at entries k).replacement (entry_at entries k).replacement_len (parts k inside some).1

  original_low : (k : ℕ) → k < length entries → counts (entry_at entries k) ≡ true → (entry_at entries k).original.off ≤ 16777216
  original_low k inside some = start_low (entry_at entries k).original (entry_at entries k).original_len (parts k inside some).0

  address_low : (q : Point) → IsPoint texts entries q → q.place.off ≤ 16777216 → (address_of_point entries q).off ≤ 33554432
  address_low q point at = elim (plain_or_replaced texts entries q point) [
    | inl (zero, some) ↦
        let is : (address_of_point entries q).off ≡ q.place.off = ap (λ v. (let p : Point = record { place = q.place; variant = v } in address_of_point entries p).off) zero in
        omega arith
    | inr r ↦
        let inside : r.k < length entries = counts_inside entries r.k r.counts in
        let a : AltEntry = entry_at entries r.k in
        let most : a.original.off ≤ 16777216 = original_low r.k inside r.counts in
        let is : (address_of_point entries q).off ≡ a.original.off + (q.place.off - a.replacement.off) =
        ap (λ v. (let p : Point = record { place = q.place; variant = v } in address_of_point entries p).off) (sym r.variant)
        ∙ replaced_address entries r.k q.place in
        omega arith
  ]

  pub points_kept : (points : List Point) → All (IsPoint texts entries) points → All (IsKept entries) points
  points_kept points each i d inside =
      let q : Point = get_or points i d in
      let point : IsPoint texts entries q = each i d inside in
      let at : q.place.off ≤ 16777216 = low q.place (point_has_text texts entries q point) in
      let runs : (address_of_point entries q).off ≤ 33554432 = address_low q point at in
      record { variant = variant_inside texts entries q point; place = omega (arith, at); address = omega (arith, runs) }
