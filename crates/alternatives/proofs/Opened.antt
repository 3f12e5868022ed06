-- What it says of a point that it is one.
use Rattle.std.proofs.Common.{◌≡◌, ℕ, ◌+◌, ◌-◌, ◌<◌, ◌≤◌, Bool, true, false, cond, not, eqb, leb, ltb, ◌&&◌, List, length, Option, Some, None, is_some, ◌⊎◌, inl, inr, refl, sym, ap, ◌∙◌, arith}
use Rattle.std.proofs.lemmas.Bool.{cases_lt, false≢true}
use Rattle.std.proofs.lemmas.Bool.Decides.{eqb_tells, nat_tests}
use Rattle.std.proofs.lemmas.List.{get_or_past}
use Rattle.ot_base.specs.declared.place.Place.{Place}
use Rattle.ot_base.specs.Places.{is_within, same_place}
use Rattle.special_sections.specs.declared.entries.AltEntry.{AltEntry}
use Rattle.alternatives.specs.declared.texts.SectionText.{SectionText}
use Rattle.alternatives.specs.declared.point.Point.{Point}
use Rattle.alternatives.specs.Texts.{insn_at, is_cut, behind}
use Rattle.alternatives.specs.Originals.{entry_at, no_entry, counts}
use Rattle.alternatives.specs.Points.{entry_of, is_padded, padding_of, replacement_insn, IsPoint}
use Rattle.alternatives.proofs.Placed.{HasText, insn_within, cut_has_text, and_both}

-- only an entry that is there counts
pub counts_inside : (entries : List AltEntry) (k : ℕ) → counts (entry_at entries k) ≡ true → k < length entries
counts_inside entries k passes = elim (cases_lt k (length entries)) [
  | inl inside ↦ inside
  | inr past ↦ absurd (false≢true (sym (ap counts (get_or_past entries k no_entry past)) ∙ passes))
]

pub same_sec : (a b c d n : ℕ) → (eqb a b && (leb c d && ltb d (c + n))) ≡ true → a ≡ b
same_sec a b c d n h = grind (arith, nat_tests)

pub from_start : (a b c d n : ℕ) → (eqb a b && (leb c d && ltb d (c + n))) ≡ true → c ≤ d
from_start a b c d n h = grind (arith, nat_tests)

pub before_end : (a b c d n : ℕ) → (eqb a b && (leb c d && ltb d (c + n))) ≡ true → d < c + n
before_end a b c d n h = grind (arith, nat_tests)

eqb_same : (a b : ℕ) → eqb a b ≡ true → a ≡ b
eqb_same a b h = grind (arith, nat_tests)

-- a place of a replacement
pub record IsPlaceOf (texts : List SectionText) (a : AltEntry) (place : Place) : Type 0 where
  pub sec : a.replacement.sec ≡ place.sec
  pub from : a.replacement.off ≤ place.off
  pub upto : place.off ≤ a.replacement.off + a.replacement_len
  pub text : HasText texts place (λ t. place.off ≤ length t.text.bytes)

opened : {X : Type 0} (n w pd : Bool) (o : Option X) (x : X) → is_some (cond n None (cond w o (cond pd (Some x) None))) ≡ true → (n ≡ false) × (((w ≡ true) × (is_some o ≡ true)) ⊎ (pd ≡ true))
opened true w pd o x h = absurd (false≢true h)
opened false true pd o x h = (refl, inl (refl, h))
opened false false true o x h = (refl, inr refl)
opened false false false o x h = absurd (false≢true h)

not_false : (b : Bool) → not b ≡ false → b ≡ true
not_false true h = refl
not_false false h = absurd (false≢true (sym h))

pub record IsReplaced (texts : List SectionText) (entries : List AltEntry) (q : Point) : Type 0 where
  pub k : ℕ
  pub variant : k + 1 ≡ q.variant
  pub counts : counts (entry_at entries k) ≡ true
  pub place : IsPlaceOf texts (entry_at entries k) q.place

replaced_place : (texts : List SectionText) (a : AltEntry) (place : Place) → ((is_within a.replacement a.replacement_len place ≡ true) × (is_some (insn_at texts place) ≡ true)) ⊎ (is_padded texts a place ≡ true) → IsPlaceOf texts a place
replaced_place texts a place (inl (within, some)) =
    let r : Place = a.replacement in
    let below : place.off < r.off + a.replacement_len = before_end r.sec place.sec r.off place.off a.replacement_len within in
    record {
      sec = same_sec r.sec place.sec r.off place.off a.replacement_len within;
      from = from_start r.sec place.sec r.off place.off a.replacement_len within;
      upto = omega arith;
      text = insn_within texts place some;
    }
replaced_place texts a place (inr padded) =
    let r : Place = a.replacement in
    let rest = (and_both (ltb a.replacement_len a.original_len) (same_place place (behind r a.replacement_len) && is_cut texts place) padded).1 in
    let both = and_both (same_place place (behind r a.replacement_len)) (is_cut texts place) rest in
    let there = and_both (eqb place.sec r.sec) (eqb place.off (r.off + a.replacement_len)) both.0 in
    let at : place.off ≡ r.off + a.replacement_len = eqb_same place.off (r.off + a.replacement_len) there.1 in
    record {
      sec = sym (eqb_same place.sec r.sec there.0);
      from = omega arith;
      upto = omega arith;
      text = cut_has_text texts place both.1;
    }

-- a point of the code as it is assembled, or one of a replacement
pub plain_or_replaced : (texts : List SectionText) (entries : List AltEntry) (q : Point) → IsPoint texts entries q → ((q.variant ≡ 0) × (is_some (insn_at texts q.place) ≡ true)) ⊎ IsReplaced texts entries q
plain_or_replaced texts entries q point =
    let a : AltEntry = entry_of entries q.variant in
    elim (eqb_tells q.variant 0) [
      | inl (is, same) ↦ inl (same, sym (ap (λ b. is_some (cond b (insn_at texts q.place) (replacement_insn texts a q.place))) is) ∙ point)
      | inr (is_not, differ) ↦
          let some : is_some (replacement_insn texts a q.place) ≡ true = sym (ap (λ b. is_some (cond b (insn_at texts q.place) (replacement_insn texts a q.place))) is_not) ∙ point in
          let parts = opened (not (counts a)) (is_within a.replacement a.replacement_len q.place) (is_padded texts a q.place) (insn_at texts q.place) (padding_of a) some in
          inr (record {
            k = q.variant - 1;
            variant = omega arith;
            counts = not_false (counts a) parts.0;
            place = replaced_place texts a q.place parts.1;
          })
    ]

-- it stands in a text or at its end
pub point_has_text : (texts : List SectionText) (entries : List AltEntry) (q : Point) → IsPoint texts entries q → HasText texts q.place (λ t. q.place.off ≤ length t.text.bytes)
point_has_text texts entries q point = elim (plain_or_replaced texts entries q point) [
  | inl (zero, some) ↦ insn_within texts q.place some
  | inr replaced ↦ replaced.place.text
]

-- its variant is 0 or that of an entry
pub variant_inside : (texts : List SectionText) (entries : List AltEntry) (q : Point) → IsPoint texts entries q → q.variant ≤ length entries
variant_inside texts entries q point = elim (plain_or_replaced texts entries q point) [
  | inl (zero, some) ↦ omega arith
  | inr replaced ↦ let inside : replaced.k < length entries = counts_inside entries replaced.k replaced.counts in omega (arith, replaced.variant)
]
