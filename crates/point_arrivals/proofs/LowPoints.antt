-- The points of code that is read lie low.
use Rattle.std.proofs.Common.{◌≡◌, ℕ, ◌+◌, ◌-◌, ◌≤◌, Bool, true, false, not, eqb, List, length, get_or, Some, None, if◌then◌else◌, inl, inr, refl, sym, ap, ◌∙◌, arith}
use Rattle.std.proofs.lemmas.Bool.{false≢true}
use Rattle.std.proofs.lemmas.Bool.Decides.{nat_tests}
use Rattle.std.proofs.lemmas.List.Sums.{get_or-le-sum_by}
use Rattle.ot_base.specs.declared.place.Place.{Place}
use Rattle.flow_defs.specs.Coded.{Coded}
use Rattle.special_sections.specs.declared.entries.AltEntry.{AltEntry}
use Rattle.alternatives.specs.declared.fault.SiteWhy.{SiteWhy}
use Rattle.alternatives.specs.declared.fault.SiteWhy.TheVariants.{NotBoundary, Overlap, Replacement}
use Rattle.alternatives.specs.declared.texts.SectionText.{SectionText}
use Rattle.alternatives.specs.declared.point.Point.{Point}
use Rattle.alternatives.specs.Faults.{AreRight}
use Rattle.alternatives.specs.Originals.{counts, entry_at, overlaps_earlier}
use Rattle.alternatives.specs.Points.{end_of_site, IsPoint}
use Rattle.alternatives.specs.Texts.{behind, is_cut, is_whole, text_bytes}
use Rattle.alternatives.proofs.Ascending.{contains_in}
use Rattle.alternatives.proofs.Opened.{counts_inside, plain_or_replaced, point_has_text}
use Rattle.alternatives.proofs.Placed.{and_both, cut_has_text, HasText}
use Rattle.flow_defs.specs.Code.{alternatives_of, point_at, texts_of}
use Rattle.object_points.proofs.Points.{numbered_point}
use Rattle.point_arrivals.specs.Low.{AreLow}

some_why : (w : SiteWhy) → Some w ≡ None → ⊥
some_why w h = cc

-- the original of an entry that counts and isn't refused is whole
original_whole : (c w o r : Bool) → c ≡ true → (if not c then None else if not w then Some NotBoundary else if o then Some Overlap else if not r then Some Replacement else None) ≡ None → w ≡ true
original_whole false w o r e h = absurd (false≢true e)
original_whole true false o r e h = absurd (some_why NotBoundary h)
original_whole true true o r e h = refl

same_variant : (v : ℕ) → v ≡ 0 → eqb v 0 ≡ true
same_variant v zero = grind (arith, nat_tests)

module _ (texts : List SectionText) (entries : List AltEntry) (little : text_bytes texts ≤ 16777216) (right : AreRight texts entries (length entries)) where
  low : (place : Place) → HasText texts place (λ t. place.off ≤ length t.text.bytes) → place.off ≤ 16777216
  low place has =
      let at = contains_in texts has.t has.is_in in
      let most = get_or-le-sum_by (λ (t : SectionText). length t.text.bytes) texts at.0 has.t at.1 in
      let same : length (get_or texts at.0 has.t).text.bytes ≡ length has.t.text.bytes = ap (λ (t : SectionText). length t.text.bytes) at.2 in
      omega (arith, has.holds, most, same)

  end_low : (k : ℕ) → counts (entry_at entries k) ≡ true → (entry_at entries k).original.off + (entry_at entries k).original_len ≤ 16777216
  end_low k some =
      let a : AltEntry = entry_at entries k in
      let whole : is_whole texts a.original a.original_len ≡ true =
      original_whole (counts a) (is_whole texts a.original a.original_len) (overlaps_earlier entries k) (is_whole texts a.replacement a.replacement_len) some (right k (counts_inside entries k some)) in
      low (behind a.original a.original_len) (cut_has_text texts (behind a.original a.original_len) (and_both (is_cut texts a.original) (is_cut texts (behind a.original a.original_len)) whole).1)

  pub place_low : (p : Point) → IsPoint texts entries p → p.place.off ≤ 16777216
  place_low p point = low p.place (point_has_text texts entries p point)

  pub site_low : (p : Point) → IsPoint texts entries p → eqb p.variant 0 ≡ false → (end_of_site entries p).off ≤ 16777216
  site_low p point replaced = elim (plain_or_replaced texts entries p point) [
    | inl (zero, some) ↦ absurd (false≢true (sym replaced ∙ same_variant p.variant zero))
    | inr r ↦
        let known : (entry_at entries r.k).original.off + (entry_at entries r.k).original_len ≤ 16777216 = end_low r.k r.counts in
        let index : p.variant - 1 ≡ r.k = omega (arith, r.variant) in
        let same : (end_of_site entries p).off ≡ (entry_at entries r.k).original.off + (entry_at entries r.k).original_len =
        ap (λ k. (entry_at entries k).original.off + (entry_at entries k).original_len) index in
        omega (arith, known, same)
  ]

pub all_low : (o : Coded) → text_bytes (texts_of o) ≤ 16777216 → AreRight (texts_of o) (alternatives_of o) (length (alternatives_of o)) → AreLow o
all_low o little right n inside = record {
  place = place_low (texts_of o) (alternatives_of o) little right (point_at o n) (numbered_point o n inside);
  site = site_low (texts_of o) (alternatives_of o) little right (point_at o n) (numbered_point o n inside);
}
