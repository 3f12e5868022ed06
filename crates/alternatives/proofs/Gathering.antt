-- The points of an object, the plain ones with those of replacements woven among them.
use Rattle.std.proofs.Common.{◌≡◌, ℕ, ◌+◌, ◌-◌, ◌<◌, ◌≤◌, ◌⊎◌, true, false, List, length, get_or, map, inl, inr, refl, sym, ap, subst, arith}
use Rattle.std.specs.Prelude.{filter, not}
use Rattle.std.proofs.lemmas.Bool.{eq-eqb, ne_eqb}
use Rattle.std.specs.List.{AllByRecursion, flat_map, range_with_len, sum_by}
use Rattle.std.specs.List.Sorted.{IsStrictlySortedBy, IsSortedBy, IsPermutation}
use Rattle.std.specs.Ordering.{is_lt, eq_by_cmp}
use Rattle.std.specs.List.{IsDistinct}
use Rattle.std.proofs.lemmas.Cmp.{eq_by_cmp_equiv}
use Rattle.std.proofs.lemmas.List.{length-map}
use Rattle.std.proofs.lemmas.List.Concat.{length-flat_map}
use Rattle.std.proofs.lemmas.List.Sums.{sum_by-le-sum_by}
use Rattle.std.proofs.lemmas.List.Kept.{IsStrictlySortedBy-filter}
use Rattle.std.proofs.lemmas.List.Elements.{All-from_recursion, recursion_from_All}
use Rattle.std.proofs.lemmas.List.Sorted.{All-permutation, Contains-permutation}
use Rattle.std.proofs.lemmas.Map.Keys.{IsDistinct-from_sorted, IsDistinct-IsPermutation, apart_from_distinct, sorted_from_all_adjacent}
use Rattle.ot_base.specs.declared.place.Place.{Place}
use Rattle.special_sections.specs.declared.entries.AltEntry.{AltEntry}
use Rattle.x86_text.specs.declared.placed.PlacedInsn.{PlacedInsn}
use Rattle.x86_text.specs.Code.{code_of}
use Rattle.alternatives.specs.declared.texts.SectionText.{SectionText}
use Rattle.alternatives.specs.declared.point.Point.{Point}
use Rattle.alternatives.specs.Texts.{text_bytes, AscendBySection}
use Rattle.alternatives.specs.Originals.{entry_at, counts, counted}
use Rattle.alternatives.specs.Points.{is_point, points_of, point_cmp, IsPoint}
use Rattle.alternatives.specs.Gathered.{is_plain, is_replaced, plain_at, plain_of, plain_points, replaced_at, replaced_of, replacement_points, woven}
use Rattle.alternatives.proofs.Ascending.{In, every-each, every-filter, every-from_in, every-in, every-flat_map, every-map, every-passes, every-weaker, in_contains, contains_in, in-filter, in-flat_map, in-map, in-range, rising-filter, rising-range, sorted-flat_map, sorted-map}
use Rattle.alternatives.proofs.Placed.{RiseBySection, rise_by_section, BeginsAt, code_rising, code_short, insn_has_text, listed_begins, begins_listed, text_has_insn}
use Rattle.alternatives.proofs.Opened.{counts_inside, plain_or_replaced}
use Rattle.alternatives.proofs.PointOrder.{variant_cmp, variant_total, point_total, same_point, less_from, then_off, variant_first, first_by_off, first_by_sec}
use Rattle.alternatives.proofs.Listing.{points_are}
use Rattle.alternatives.proofs.Merging.{plain_pass, others_pass}
use Rattle.alternatives.proofs.Weaving.{every-woven, in-woven_plain, in-woven_other, woven-sorted}

-- each point of a replacement that is gathered is one
pub replaced_sound : (texts : List SectionText) (entries : List AltEntry) → AllByRecursion (IsPoint texts entries) (replacement_points texts entries)
replaced_sound texts entries =
    every-flat_map (IsPoint texts entries) (replaced_of texts entries) (counted entries) (every-each (λ k. AllByRecursion (IsPoint texts entries) (replaced_of texts entries k)) (λ k.
    every-passes (is_point texts entries) (map (replaced_at entries k) (range_with_len 0 ((entry_at entries k).replacement_len + 1)))) (counted entries))

module _ (texts : List SectionText) (entries : List AltEntry) (rise : RiseBySection texts) where
  abbrev plain : List Point
  plain = plain_points texts

  abbrev replaced : List Point
  replaced = replacement_points texts entries

  abbrev distances : ℕ → List ℕ
  distances k = range_with_len 0 ((entry_at entries k).replacement_len + 1)

  -- plain ones ascend
  plain_sorted : IsStrictlySortedBy point_cmp plain
  plain_sorted =
      sorted-flat_map point_cmp (λ (t u : SectionText). t.sec < u.sec) (λ (t : SectionText) (p : Point). p.place.sec ≡ t.sec)
      (λ t u a b less of-t of-u. first_by_sec a.place.sec b.place.sec a.place.off b.place.off a.variant b.variant (omega (arith, of-t, of-u)))
      plain_of
      (λ t. every-map (λ (p : Point). p.place.sec ≡ t.sec) (plain_at t.sec) (code_of t.text) (every-each (λ (p : PlacedInsn). t.sec ≡ t.sec) (λ p. refl) (code_of t.text)))
      (λ t. sorted-map point_cmp (λ (p q : PlacedInsn). p.off < q.off) (plain_at t.sec) (λ p q less. first_by_off t.sec t.sec p.off q.off 0 0 refl less) (code_of t.text) (code_rising t.text))
      texts rise

  one_sorted : (k : ℕ) → IsStrictlySortedBy variant_cmp (replaced_of texts entries k)
  one_sorted k =
      let r : Place = (entry_at entries k).replacement in
      IsStrictlySortedBy-filter variant_cmp (is_point texts entries) (map (replaced_at entries k) (distances k))
      (sorted-map variant_cmp (λ i j. i < j) (replaced_at entries k) (λ i j less. then_off r.sec r.sec (r.off + i) (r.off + j) (k + 1) (k + 1) refl refl (omega arith)) (distances k) (rising-range 0 ((entry_at entries k).replacement_len + 1)))

  one_variant : (k : ℕ) → AllByRecursion (λ (p : Point). p.variant ≡ k + 1) (replaced_of texts entries k)
  one_variant k =
      every-filter (λ (p : Point). p.variant ≡ k + 1) (is_point texts entries) (map (replaced_at entries k) (distances k))
      (every-map (λ (p : Point). p.variant ≡ k + 1) (replaced_at entries k) (distances k) (every-each (λ d. k + 1 ≡ k + 1) (λ d. refl) (distances k)))

  -- those of replacements ascend by variant
  replaced_sorted : IsStrictlySortedBy variant_cmp replaced
  replaced_sorted =
      sorted-flat_map variant_cmp (λ i j. i < j) (λ k (p : Point). p.variant ≡ k + 1)
      (λ i j a b less of-i of-j. variant_first a.place.sec b.place.sec a.place.off b.place.off a.variant b.variant (omega (arith, of-i, of-j)))
      (replaced_of texts entries) one_variant one_sorted
      (counted entries) (rising-filter (λ i j. i < j) (λ k. counts (entry_at entries k)) (range_with_len 0 (length entries)) (rising-range 0 (length entries)))

  plain_zero : AllByRecursion (λ (p : Point). p.variant ≡ 0) plain
  plain_zero =
      every-flat_map (λ (p : Point). p.variant ≡ 0) plain_of texts (every-each (λ t. AllByRecursion (λ (p : Point). p.variant ≡ 0) (plain_of t)) (λ t.
      every-map (λ (p : Point). p.variant ≡ 0) (plain_at t.sec) (code_of t.text) (every-each (λ (p : PlacedInsn). 0 ≡ 0) (λ p. refl) (code_of t.text))) texts)

  replaced_above : AllByRecursion (λ (p : Point). 0 < p.variant) replaced
  replaced_above =
      every-flat_map (λ (p : Point). 0 < p.variant) (replaced_of texts entries) (counted entries) (every-each (λ k. AllByRecursion (λ (p : Point). 0 < p.variant) (replaced_of texts entries k)) (λ k.
      every-weaker (λ (p : Point). p.variant ≡ k + 1) (λ (p : Point). 0 < p.variant) (λ p is. omega (arith, is)) (replaced_of texts entries k) (one_variant k)) (counted entries))

  -- each is a point
  plain_sound : AllByRecursion (IsPoint texts entries) plain
  plain_sound =
      every-flat_map (IsPoint texts entries) plain_of texts (every-from_in (λ t. AllByRecursion (IsPoint texts entries) (plain_of t)) texts (λ t is_in.
      every-map (IsPoint texts entries) (plain_at t.sec) (code_of t.text) (every-from_in (λ p. IsPoint texts entries (plain_at t.sec p)) (code_of t.text) (λ p listed. text_has_insn texts t p.off rise is_in (begins_listed (code_of t.text) p listed)))))

  -- and each point is one of them
  gathered_complete : (q : Point) → IsPoint texts entries q → In q plain ⊎ In q replaced
  gathered_complete q point = elim (plain_or_replaced texts entries q point) [
    | inl (zero, some) ↦
        let has = insn_has_text texts q.place some in
        let t : SectionText = has.t in
        let begins : BeginsAt (code_of t.text) q.place.off = listed_begins (code_of t.text) q.place.off has.holds in
        let is : plain_at t.sec begins.p ≡ q = same_point t.sec begins.p.off 0 q has.sec begins.at (sym zero) in
        inl (in-flat_map plain_of texts t q has.is_in
        (subst (λ z. In z (plain_of t)) is (in-map (plain_at t.sec) (code_of t.text) begins.p begins.is_in)))
    | inr r ↦
        let k : ℕ = r.k in
        let start : Place = (entry_at entries k).replacement in
        let len : ℕ = (entry_at entries k).replacement_len in
        let distance : ℕ = q.place.off - start.off in
        let from : start.off ≤ q.place.off = r.place.from in
        let upto : q.place.off ≤ start.off + len = r.place.upto in
        let there : start.off + distance ≡ q.place.off = omega arith in
        let is : replaced_at entries k distance ≡ q = same_point start.sec (start.off + distance) (k + 1) q r.place.sec there r.variant in
        let inside : k < length entries = counts_inside entries k r.counts in
        let at : In distance (distances k) = in-range 0 (len + 1) distance (omega arith) (omega arith) in
        inr (in-flat_map (replaced_of texts entries) (counted entries) k q
        (in-filter (λ i. counts (entry_at entries i)) (range_with_len 0 (length entries)) k (in-range 0 (length entries) k (omega arith) (omega arith)) r.counts)
        (in-filter (is_point texts entries) (map (replaced_at entries k) (distances k)) q
        (subst (λ z. In z (map (replaced_at entries k) (distances k))) is (in-map (replaced_at entries k) (distances k) distance at)) point))
  ]

  -- those of replacements once they are sorted by place
  module _ (others : List Point) (moved : IsPermutation replaced others) (sorted : IsSortedBy (λ p q. is_lt (point_cmp p q)) others) where
    others_sorted : IsStrictlySortedBy point_cmp others
    others_sorted =
        let distinct : IsDistinct (eq_by_cmp variant_cmp) others =
        IsDistinct-IsPermutation (eq_by_cmp variant_cmp) (λ p q. (eq_by_cmp_equiv variant_total).symm p q) replaced others moved
        (IsDistinct-from_sorted variant_cmp replaced replaced_sorted) in
        let d : Point = record { place = record { sec = 0; off = 0 }; variant = 0 } in
        sorted_from_all_adjacent point_total others d (λ k inside. less_from (get_or others k d) (get_or others (k + 1) d) (sorted k d (omega arith) inside) (apart_from_distinct (eq_by_cmp variant_cmp) others k (k + 1) d distinct (omega arith) inside))

    others_above : AllByRecursion (λ (p : Point). 0 < p.variant) others
    others_above = recursion_from_All (λ (p : Point). 0 < p.variant) others (All-permutation (λ (p : Point). 0 < p.variant) replaced others moved (All-from_recursion (λ (p : Point). 0 < p.variant) replaced replaced_above))

    others_sound : AllByRecursion (IsPoint texts entries) others
    others_sound = recursion_from_All (IsPoint texts entries) others (All-permutation (IsPoint texts entries) replaced others moved (All-from_recursion (IsPoint texts entries) replaced (replaced_sound texts entries)))

    woven_complete : (q : Point) → In q plain ⊎ In q replaced → In q (woven plain others)
    woven_complete q (inl h) = in-woven_plain plain others q h
    woven_complete q (inr h) = in-woven_other plain others q (in_contains others q (Contains-permutation replaced others q moved (contains_in replaced q h)))

    all_points : AscendBySection texts → woven plain others ≡ points_of texts entries
    all_points ascend =
        points_are texts entries ascend (woven plain others)
        (woven-sorted plain others plain_sorted others_sorted plain_zero others_above)
        (λ q h. every-in (IsPoint texts entries) (woven plain others) q (every-woven (IsPoint texts entries) plain others plain_sound others_sound) h)
        (λ q point. woven_complete q (gathered_complete q point))

-- woven among the plain ones, they are the points in their order
pub woven_points : (texts : List SectionText) (entries : List AltEntry) (others : List Point) → AscendBySection texts → IsPermutation (replacement_points texts entries) others → IsSortedBy (λ p q. is_lt (point_cmp p q)) others → woven (plain_points texts) others ≡ points_of texts entries
woven_points texts entries others ascend moved sorted = all_points texts entries (rise_by_section texts ascend) others moved sorted ascend

few_of : (t : SectionText) → length (plain_of t) ≤ length t.text.bytes
few_of t =
    let same : length (plain_of t) ≡ length (code_of t.text) = length-map (code_of t.text) (plain_at t.sec) in
    omega (arith, code_short t.text)

-- the code as it is assembled has no more points than bytes
pub few_plain : (texts : List SectionText) → length (plain_points texts) ≤ text_bytes texts
few_plain texts =
    let whole : length (flat_map plain_of texts) ≡ sum_by (λ t. length (plain_of t)) texts = length-flat_map plain_of texts in
    let most : sum_by (λ t. length (plain_of t)) texts ≤ sum_by (λ (t : SectionText). length t.text.bytes) texts = sum_by-le-sum_by (λ t. length (plain_of t)) (λ (t : SectionText). length t.text.bytes) texts few_of in
    omega arith

-- the plain ones among them, and the others
module _ (texts : List SectionText) (entries : List AltEntry) (others : List Point) (ascend : AscendBySection texts) (moved : IsPermutation (replacement_points texts entries) others) (sorted : IsSortedBy (λ p q. is_lt (point_cmp p q)) others) where
  plains_are : AllByRecursion (λ p. is_plain p ≡ true) (plain_points texts)
  plains_are = every-weaker (λ (p : Point). p.variant ≡ 0) (λ p. is_plain p ≡ true) (λ p is. eq-eqb p.variant 0 is) (plain_points texts) (plain_zero texts entries (rise_by_section texts ascend))

  others_are : AllByRecursion (λ p. is_plain p ≡ false) others
  others_are = every-weaker (λ (p : Point). 0 < p.variant) (λ p. is_plain p ≡ false) (λ p is. ne_eqb p.variant 0 (λ e. omega (arith, e, is))) others (others_above texts entries (rise_by_section texts ascend) others moved sorted)

  pub plain_ones : filter is_plain (woven (plain_points texts) others) ≡ plain_points texts
  plain_ones = plain_pass is_plain (plain_points texts) others plains_are others_are

  pub replaced_ones : filter is_replaced (woven (plain_points texts) others) ≡ others
  replaced_ones =
      others_pass is_replaced (plain_points texts) others
      (every-weaker (λ p. is_plain p ≡ true) (λ p. is_replaced p ≡ false) (λ p is. ap not is) (plain_points texts) plains_are)
      (every-weaker (λ p. is_plain p ≡ false) (λ p. is_replaced p ≡ true) (λ p is. ap not is) others others_are)
