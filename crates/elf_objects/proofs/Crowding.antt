-- Marking the extents that others meet.
use Rattle.std.proofs.Common.{◌≡◌, ◌≢◌, ◌<◌, ◌≤◌, ◌+◌, ◌⊎◌, inl, inr, max, ℕ, zero, suc, Bool, true, false, List, [], ◌∷◌, length, get_or, set, replicate, ◌++◌, eqb, leb, refl, ap, sym, ◌∙◌, arith, below_more, get_or-set_same, get_or-set_other}
use Rattle.std.proofs.lemmas.Bool.Decides.{leb_tells}
use Rattle.std.proofs.lemmas.List.{get_or_default, length-replicate}
use Rattle.std.proofs.Math.ListN.{length-set}
use Rattle.std.specs.List.{All, AllPairs, Contains}
use Rattle.std.specs.List.Sorted.{IsNonDecreasingBy, IsPermutation}
use Rattle.std.proofs.lemmas.Bool.{eqb-false, ne_eqb}
use Rattle.std.proofs.lemmas.Bool.Decides.{nat_tests}
use Rattle.std.proofs.lemmas.List.Elements.{All-push, Contains-append_left, Contains-push}
use Rattle.std.proofs.lemmas.List.Quantifiers.{all_pairs_push}
use Rattle.std.proofs.lemmas.List.Sorted.{All-permutation, Contains-permutation}
use Rattle.std.proofs.lemmas.Map.Keys.{IsDistinct-IsPermutation, IsDistinct-from_apart, apart_from_distinct}
use Rattle.elf_objects.specs.declared.header.SectionHeader.{SectionHeader}
use Rattle.elf_objects.specs.Header.{has_body}
use Rattle.elf_objects.specs.Sections.{IsAlone, SharesByte}
use Rattle.elf_objects.specs.File.{section_count, section_header}
use Rattle.elf_objects.specs.Extents.{IsShared, TellsShared, AreExtents, IsExtent, has_bytes, extent_of, no_extent, AreInOrder, AreMarked, IsCrowded, IsReach, extent_at}
use Rattle.elf_objects.specs.declared.extents.Extent.{Extent}

-- before the first extent nothing is reached
pub IsReach-none : (xs : List Extent) → IsReach xs 0 0
IsReach-none xs = record { above = λ q h. absurd (omega arith); reached = λ at h. absurd (omega arith) }

-- one extent more
pub IsReach-more : (xs : List Extent) (p reach r : ℕ) → r ≡ max reach (extent_at xs p).end → IsReach xs p reach → IsReach xs (p + 1) r
IsReach-more xs p reach r e known = record {
  above = below_more (λ q. (extent_at xs q).end ≤ r) p (λ q h. (let below = known.above q h in omega arith)) (omega arith);
  reached = λ at h. reached at h (leb_tells reach at);
} where
  reached : (at : ℕ) → at < r → ((leb reach at ≡ true) × (reach ≤ at)) ⊎ ((leb reach at ≡ false) × (at < reach)) → (q : ℕ) × (q < p + 1) × (at < (extent_at xs q).end)
  reached at h (inr before) = let found = known.reached at before.1 in (found.0, omega (arith, found.1), found.2)
  reached at h (inl here) = (p, omega arith, omega (arith, here.1))

clear-replicate : (n i : ℕ) → get_or (replicate n false) i false ≡ false
clear-replicate zero i = refl
clear-replicate (suc n) zero = refl
clear-replicate (suc n) (suc i) = clear-replicate n i

-- at first nothing is marked
pub AreMarked-none : (n : ℕ) (xs : List Extent) (marks : List Bool) → marks ≡ replicate n false → AreMarked n xs 0 marks
AreMarked-none n xs marks e = record {
  size = rw e (length-replicate n false);
  marked = λ q h. absurd (omega arith);
  clear = λ q h. absurd (omega arith);
  others = λ i h. rw e (clear-replicate n i);
}

-- the next extent is marked where another one meets it
pub AreMarked-more : (n : ℕ) (xs : List Extent) (p : ℕ) (marks : List Bool) (x : Bool) → p < length xs → AreInOrder n xs → AreMarked n xs p marks → (x ≡ true → IsCrowded xs p) → (IsCrowded xs p → x ≡ true) → AreMarked n xs (p + 1) (set marks (extent_at xs p).sec x)
AreMarked-more n xs p marks x known order m shows tells = record {
  size = length-set marks (extent_at xs p).sec x ∙ m.size;
  marked = below_more (λ q. get_or (set marks (extent_at xs p).sec x) (extent_at xs q).sec false ≡ true → IsCrowded xs q) p (λ q h e. m.marked q h (sym (other q h) ∙ e)) (λ e. shows (sym same ∙ e));
  clear = below_more (λ q. get_or (set marks (extent_at xs p).sec x) (extent_at xs q).sec false ≡ false → ¬ IsCrowded xs q) p (λ q h e. m.clear q h (sym (other q h) ∙ e)) (λ e crowded. (let is = tells crowded in let h : true ≡ false = sym is ∙ sym same ∙ e in cc));
  others = λ i h. (let ne : i ≢ (extent_at xs p).sec = λ e. h p (omega arith) (sym e) in rw get_or-set_other (m.others i (λ q lt. h q (omega arith))));
} where
  inside : (extent_at xs p).sec < length marks
  inside = let small = order.small p known in omega (arith, small, m.size)

  same : get_or (set marks (extent_at xs p).sec x) (extent_at xs p).sec false ≡ x
  same = let i = inside in rw get_or-set_same refl

  other : (q : ℕ) → q < p → get_or (set marks (extent_at xs p).sec x) (extent_at xs q).sec false ≡ get_or marks (extent_at xs q).sec false
  other q h = let ne : (extent_at xs q).sec ≢ (extent_at xs p).sec = order.apart q p (omega (arith, known)) known (λ e. absurd (omega arith)) in rw get_or-set_other refl

-- another order of the same extents
pub AreExtents-permutation : (b : List ℕ) (n : ℕ) (xs ys : List Extent) → IsPermutation xs ys → AreExtents b n xs → AreExtents b n ys
AreExtents-permutation b n xs ys moved known = record {
  each = All-permutation (IsExtent b n) xs ys moved known.each;
  all = λ k h some. Contains-permutation xs ys (extent_of (section_header b k) k) moved (known.all k h some);
}

-- a section more, with a body that is not empty and without one
pub AreExtents-more : (b : List ℕ) (n : ℕ) (xs : List Extent) → AreExtents b n xs → has_bytes (section_header b n) ≡ true → AreExtents b (n + 1) (xs ++ extent_of (section_header b n) n ∷ [])
AreExtents-more b n xs known some = record {
  each = All-push (IsExtent b (n + 1)) xs _ (λ p d h. (let e = known.each p d h in record { below = omega (arith, e.below); some = e.some; is = e.is })) (record { below = omega arith; some = some; is = refl });
  all = below_more (λ k. has_bytes (section_header b k) ≡ true → Contains (xs ++ extent_of (section_header b n) n ∷ []) (extent_of (section_header b k) k)) n (λ k h body. Contains-append_left xs _ _ (known.all k h body)) (λ body. Contains-push xs _);
}

pub AreExtents-skip : (b : List ℕ) (n : ℕ) (xs : List Extent) → AreExtents b n xs → has_bytes (section_header b n) ≡ false → AreExtents b (n + 1) xs
AreExtents-skip b n xs known none = record {
  each = λ p d h. (let e = known.each p d h in record { below = omega (arith, e.below); some = e.some; is = e.is });
  all = below_more (λ k. has_bytes (section_header b k) ≡ true → Contains xs (extent_of (section_header b k) k)) n known.all (λ body. (let no : true ≡ false = sym body ∙ none in cc));
}

-- the extents keep rising
pub rising-more : (b : List ℕ) (n : ℕ) (xs : List Extent) → AreExtents b n xs → AllPairs (λ x y. x.sec < y.sec) xs → AllPairs (λ x y. x.sec < y.sec) (xs ++ extent_of (section_header b n) n ∷ [])
rising-more b n xs known rising = all_pairs_push (λ x y. x.sec < y.sec) xs _ rising (λ k d h. (known.each k d h).below)

same_section : Extent → Extent → Bool
same_section x y = eqb x.sec y.sec

eqb-flips : (a b : ℕ) → eqb a b ≡ eqb b a
eqb-flips a b = grind (arith, nat_tests)

apart-sections : (xs ys : List Extent) → AllPairs (λ x y. x.sec < y.sec) xs → IsPermutation xs ys → (p q : ℕ) → p < q → q < length ys → (extent_at ys p).sec ≢ (extent_at ys q).sec
unfolding same_section
apart-sections xs ys rising moved p q before inside =
    let distinct = IsDistinct-from_apart same_section xs (λ i j d lt h. (let below = rising i j d lt h in ne_eqb _ _ (λ e. absurd (omega arith)))) in
    let kept = IsDistinct-IsPermutation same_section (λ x y. eqb-flips x.sec y.sec) xs ys moved distinct in
    eqb-false _ _ (apart_from_distinct same_section ys p q no_extent kept before inside)

not-empty : (h : SectionHeader) → has_bytes h ≡ true → h.offset < h.offset + h.size
not-empty h e = grind (arith, nat_tests)

-- sorted by their offsets, the extents are in order
pub AreInOrder-sorted : (b : List ℕ) (n : ℕ) (xs ys : List Extent) → AreExtents b n xs → AllPairs (λ x y. x.sec < y.sec) xs → IsPermutation xs ys → IsNonDecreasingBy (λ e. e.offset) ys → AreInOrder n ys
AreInOrder-sorted b n xs ys known rising moved sorted = record {
  small = λ p h. (each p no_extent h).below;
  some = λ p h. (let e = each p no_extent h in let lt = not-empty (section_header b (extent_at ys p).sec) e.some in rw (e.is) lt);
  apart = λ p q hp hq ne. apart p q hp hq ne (leb_tells p q);
  rising = λ p q le h. sorted p q no_extent le h;
} where
  each : All (IsExtent b n) ys
  each = All-permutation (IsExtent b n) xs ys moved known.each

  apart : (p q : ℕ) → p < length ys → q < length ys → p ≢ q → ((leb p q ≡ true) × (p ≤ q)) ⊎ ((leb p q ≡ false) × (q < p)) → (extent_at ys p).sec ≢ (extent_at ys q).sec
  apart p q hp hq ne (inl le) = apart-sections xs ys rising moved p q (omega (arith, le.1, ne)) hq
  apart p q hp hq ne (inr lt) = λ e. apart-sections xs ys rising moved q p lt.1 hp (sym e)

-- a byte of a body is one of an extent
has_bytes-inside : (h : SectionHeader) (x : ℕ) → has_body h ≡ true → h.offset ≤ x → x < h.offset + h.size → has_bytes h ≡ true
has_bytes-inside h x body from to = grind (arith, nat_tests)

has_bytes-body : (h : SectionHeader) → has_bytes h ≡ true → has_body h ≡ true
has_bytes-body h e = grind (arith, nat_tests)

-- the place of the extent of a section
place_of : (b : List ℕ) (n k : ℕ) (xs : List Extent) → AreExtents b n xs → k < n → has_bytes (section_header b k) ≡ true → (p : ℕ) × (p < length xs) × (extent_at xs p ≡ extent_of (section_header b k) k)
place_of b n k xs known h some =
    let found = known.all k h some in
    (found.0, found.1, get_or_default xs found.0 no_extent (extent_of (section_header b k) k) found.1 ∙ found.2)

-- a marked section shares a byte
marked-shares : (b : List ℕ) (xs : List Extent) (marks : List Bool) (i : ℕ) (x : Bool) → AreExtents b (section_count b) xs → AreInOrder (section_count b) xs → AreMarked (section_count b) xs (length xs) marks → i < section_count b → has_bytes (section_header b i) ≡ x → get_or marks i false ≡ true → IsShared b i
marked-shares b xs marks i false known order m h none e =
    let clear = m.others i (λ q lt is. (let some = (known.each q no_extent lt).some in let no : true ≡ false = sym some ∙ ap (λ (k : ℕ). has_bytes (section_header b k)) is ∙ none in cc)) in
    let no : true ≡ false = sym e ∙ clear in
    absurd (let bad : true ≡ false = no in cc)
marked-shares b xs marks i true known order m h some e =
    let place = place_of b (section_count b) i xs known h some in
    let sec : (extent_at xs place.0).sec ≡ i = ap (λ (y : Extent). y.sec) place.2 in
    let crowded = m.marked place.0 place.1 (ap (λ (k : ℕ). get_or marks k false) sec ∙ e) in
    let other = known.each crowded.other no_extent crowded.inside in
    let k = (extent_at xs crowded.other).sec in
    let byte = crowded.meets.byte in
    let from_i = ap (λ (y : Extent). y.offset) place.2 in
    let to_i = ap (λ (y : Extent). y.end) place.2 in
    let from_k = ap (λ (y : Extent). y.offset) other.is in
    let to_k = ap (λ (y : Extent). y.end) other.is in
    let fx = crowded.meets.from_x in
    let tx = crowded.meets.to_x in
    let fy = crowded.meets.from_y in
    let ty = crowded.meets.to_y in
    record {
      other = k;
      exists = other.below;
      differs = λ same. order.apart crowded.other place.0 crowded.inside place.1 crowded.differs (same ∙ sym sec);
      shares = (byte, (has_bytes-body (section_header b i) some, omega (arith, from_i, fx), omega (arith, to_i, tx)), (has_bytes-body (section_header b k) other.some, omega (arith, from_k, fy), omega (arith, to_k, ty)));
    }

-- one that is not marked shares none
clear-alone : (b : List ℕ) (xs : List Extent) (marks : List Bool) (i : ℕ) → AreExtents b (section_count b) xs → AreMarked (section_count b) xs (length xs) marks → i < section_count b → get_or marks i false ≡ false → IsAlone b i
clear-alone b xs marks i known m h e = record { apart = λ k below ne shares. apart k below ne shares } where
  apart : (k : ℕ) → k < section_count b → k ≢ i → SharesByte (section_header b i) (section_header b k) → ⊥
  apart k below ne shares =
      let byte = shares.0 in
      let in_i = shares.1 in
      let in_k = shares.2 in
      let p = place_of b (section_count b) i xs known h (has_bytes-inside (section_header b i) byte in_i.0 in_i.1 in_i.2) in
      let q = place_of b (section_count b) k xs known below (has_bytes-inside (section_header b k) byte in_k.0 in_k.1 in_k.2) in
      let sec : (extent_at xs p.0).sec ≡ i = ap (λ (y : Extent). y.sec) p.2 in
      let sec_k : (extent_at xs q.0).sec ≡ k = ap (λ (y : Extent). y.sec) q.2 in
      let from_i = ap (λ (y : Extent). y.offset) p.2 in
      let to_i = ap (λ (y : Extent). y.end) p.2 in
      let from_k = ap (λ (y : Extent). y.offset) q.2 in
      let to_k = ap (λ (y : Extent). y.end) q.2 in
      m.clear p.0 p.1 (ap (λ (j : ℕ). get_or marks j false) sec ∙ e) (record {
        other = q.0;
        inside = q.1;
        differs = λ same. ne (sym sec_k ∙ ap (λ (j : ℕ). (extent_at xs j).sec) same ∙ sec);
        meets = record {
          byte = byte;
          from_x = omega (arith, from_i, in_i.1);
          to_x = omega (arith, to_i, in_i.2);
          from_y = omega (arith, from_k, in_k.1);
          to_y = omega (arith, to_k, in_k.2);
        };
      })

pub TellsShared-marked : (b : List ℕ) (xs : List Extent) (marks : List Bool) → AreExtents b (section_count b) xs → AreInOrder (section_count b) xs → AreMarked (section_count b) xs (length xs) marks → TellsShared b marks
TellsShared-marked b xs marks known order m = record {
  size = m.size;
  marked = λ i h. marked-shares b xs marks i (has_bytes (section_header b i)) known order m h refl;
  clear = λ i h. clear-alone b xs marks i known m h;
}
