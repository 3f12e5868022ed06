-- The points of an object, listed by place.
use Rattle.std.proofs.Common.{◌≡◌, ℕ, ◌+◌, ◌<◌, ◌≤◌, List, length, map, refl, ap, subst, arith}
use Rattle.std.specs.List.{AllByRecursion, range_with_len}
use Rattle.std.specs.List.Sorted.{IsStrictlySortedBy}
use Rattle.std.proofs.lemmas.List.Kept.{IsStrictlySortedBy-filter}
use Rattle.ot_base.specs.declared.place.Place.{Place}
use Rattle.special_sections.specs.declared.entries.AltEntry.{AltEntry}
use Rattle.alternatives.specs.declared.texts.SectionText.{SectionText}
use Rattle.alternatives.specs.declared.point.Point.{Point}
use Rattle.alternatives.specs.Texts.{AscendBySection}
use Rattle.alternatives.specs.Points.{is_point, points_at, points_in, points_of, point_cmp, IsPoint}
use Rattle.alternatives.proofs.Ascending.{In, every-each, every-filter, every-passes, every-map, every-flat_map, every-in, in-map, in-flat_map, in-filter, in-range, rising-range, sorted-map, sorted-flat_map, same_elements}
use Rattle.alternatives.proofs.Placed.{RiseBySection, rise_by_section}
use Rattle.alternatives.proofs.Opened.{point_has_text, variant_inside}
use Rattle.alternatives.proofs.PointOrder.{point_total, point_equal, first_by_variant, first_by_off, first_by_sec}

module _ (texts : List SectionText) (entries : List AltEntry) where
  abbrev at : Place → ℕ → Point
  at place variant = record { place = place; variant = variant }

  -- each point is listed
  pub points_complete : (q : Point) → IsPoint texts entries q → In q (points_of texts entries)
  points_complete q point =
      let has = point_has_text texts entries q point in
      let t : SectionText = has.t in
      let place : Place = record { sec = t.sec; off = q.place.off } in
      let within : q.variant ≤ length entries = variant_inside texts entries q point in
      let upto : q.place.off ≤ length t.text.bytes = has.holds in
      let one : In (at place q.variant) (map (at place) (range_with_len 0 (length entries + 1))) = in-map (at place) (range_with_len 0 (length entries + 1)) q.variant (in-range 0 (length entries + 1) q.variant (omega arith) (omega arith)) in
      let here : In q (map (at place) (range_with_len 0 (length entries + 1))) =
      subst (λ (z : Point). In z (map (at place) (range_with_len 0 (length entries + 1)))) (ap (λ s. at (record { sec = s; off = q.place.off }) q.variant) has.sec) one in
      in-flat_map (points_in texts entries) texts t q has.is_in
      (in-flat_map (λ off. points_at texts entries (record { sec = t.sec; off = off })) (range_with_len 0 (length t.text.bytes + 1)) q.place.off q
      (in-range 0 (length t.text.bytes + 1) q.place.off (omega arith) (omega arith))
      (in-filter (is_point texts entries) (map (at place) (range_with_len 0 (length entries + 1))) q here point))

  -- and nothing else
  pub points_sound : AllByRecursion (IsPoint texts entries) (points_of texts entries)
  points_sound =
      every-flat_map (IsPoint texts entries) (points_in texts entries) texts (every-each (λ t. AllByRecursion (IsPoint texts entries) (points_in texts entries t)) (λ t.
      every-flat_map (IsPoint texts entries) (λ off. points_at texts entries (record { sec = t.sec; off = off })) (range_with_len 0 (length t.text.bytes + 1)) (every-each (λ off. AllByRecursion (IsPoint texts entries) (points_at texts entries (record { sec = t.sec; off = off }))) (λ off.
      every-passes (is_point texts entries) (map (at (record { sec = t.sec; off = off })) (range_with_len 0 (length entries + 1)))) (range_with_len 0 (length t.text.bytes + 1)))) texts)

  at_sorted : (place : Place) → IsStrictlySortedBy point_cmp (points_at texts entries place)
  at_sorted place =
      IsStrictlySortedBy-filter point_cmp (is_point texts entries) (map (at place) (range_with_len 0 (length entries + 1)))
      (sorted-map point_cmp (λ i j. i < j) (at place) (λ i j less. first_by_variant place.sec place.off i j less) (range_with_len 0 (length entries + 1)) (rising-range 0 (length entries + 1)))

  abbrev StandsAt : ℕ → ℕ → Point → Type 0
  StandsAt sec off p = (p.place.sec ≡ sec) × (p.place.off ≡ off)

  at_stands : (sec off : ℕ) → AllByRecursion (StandsAt sec off) (points_at texts entries (record { sec = sec; off = off }))
  at_stands sec off =
      every-filter (StandsAt sec off) (is_point texts entries) (map (at (record { sec = sec; off = off })) (range_with_len 0 (length entries + 1)))
      (every-map (StandsAt sec off) (at (record { sec = sec; off = off })) (range_with_len 0 (length entries + 1))
      (every-each (λ v. StandsAt sec off (at (record { sec = sec; off = off }) v)) (λ v. (refl, refl)) (range_with_len 0 (length entries + 1))))

  in_sorted : (t : SectionText) → IsStrictlySortedBy point_cmp (points_in texts entries t)
  in_sorted t =
      sorted-flat_map point_cmp (λ i j. i < j) (StandsAt t.sec)
      (λ x y a b less of-x of-y. first_by_off a.place.sec b.place.sec a.place.off b.place.off a.variant b.variant (omega (arith, of-x.0, of-y.0)) (omega (arith, of-x.1, of-y.1)))
      (λ off. points_at texts entries (record { sec = t.sec; off = off }))
      (λ off. at_stands t.sec off) (λ off. at_sorted (record { sec = t.sec; off = off }))
      (range_with_len 0 (length t.text.bytes + 1)) (rising-range 0 (length t.text.bytes + 1))

  in_section : (t : SectionText) → AllByRecursion (λ (p : Point). p.place.sec ≡ t.sec) (points_in texts entries t)
  in_section t =
      every-flat_map (λ (p : Point). p.place.sec ≡ t.sec) (λ off. points_at texts entries (record { sec = t.sec; off = off })) (range_with_len 0 (length t.text.bytes + 1))
      (every-each (λ off. AllByRecursion (λ (p : Point). p.place.sec ≡ t.sec) (points_at texts entries (record { sec = t.sec; off = off }))) (λ off.
      every-filter (λ (p : Point). p.place.sec ≡ t.sec) (is_point texts entries) (map (at (record { sec = t.sec; off = off })) (range_with_len 0 (length entries + 1)))
      (every-map (λ (p : Point). p.place.sec ≡ t.sec) (at (record { sec = t.sec; off = off })) (range_with_len 0 (length entries + 1))
      (every-each (λ v. t.sec ≡ t.sec) (λ v. refl) (range_with_len 0 (length entries + 1))))) (range_with_len 0 (length t.text.bytes + 1)))

  -- they ascend
  pub points_sorted : RiseBySection texts → IsStrictlySortedBy point_cmp (points_of texts entries)
  points_sorted rise =
      sorted-flat_map point_cmp (λ (t u : SectionText). t.sec < u.sec) (λ (t : SectionText) (p : Point). p.place.sec ≡ t.sec)
      (λ t u a b less of-t of-u. first_by_sec a.place.sec b.place.sec a.place.off b.place.off a.variant b.variant (omega (arith, of-t, of-u)))
      (points_in texts entries) in_section in_sorted texts rise

  -- a list that ascends and has exactly the points is that of the points
  pub points_are : AscendBySection texts → (ps : List Point) → IsStrictlySortedBy point_cmp ps → ((q : Point) → In q ps → IsPoint texts entries q) → ((q : Point) → IsPoint texts entries q → In q ps) → ps ≡ points_of texts entries
  points_are ascend ps sorted sound complete =
      same_elements point_cmp point_total point_equal ps (points_of texts entries) sorted (points_sorted (rise_by_section texts ascend))
      (λ q h. points_complete q (sound q h)) (λ q h. complete q (every-in (IsPoint texts entries) (points_of texts entries) q points_sound h))
