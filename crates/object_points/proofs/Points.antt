-- The points of an object, and what is found among them.
use Rattle.std.proofs.Common.{◌≡◌, ℕ, ◌+◌, ◌<◌, Bool, true, false, not, eqb, leb, ltb, ◌&&◌, if◌then◌else◌, List, length, Option, Some, None, Contains, inl, inr, refl, sym, ap, ◌∙◌, subst, arith}
use Rattle.std.specs.Prelude.{is_some, nat_le, slice_get}
use Rattle.std.proofs.lemmas.Bool.{cases_Bool, false≢true}
use Rattle.std.proofs.lemmas.Bool.Decides.{nat_tests}
use Rattle.std.proofs.lemmas.List.Elements.{Contains-get_or}
use Rattle.std.proofs.lemmas.Option.{get_or_from_slice_get, slice_get_within}
use Rattle.ot_base.specs.declared.place.Place.{Place}
use Rattle.ot_base.specs.Places.{is_within}
use Rattle.operation_defs.specs.declared.insn.Insn.{Insn}
use Rattle.special_sections.specs.declared.entries.AltEntry.{AltEntry}
use Rattle.alternatives.specs.declared.texts.SectionText.{SectionText}
use Rattle.alternatives.specs.declared.point.Point.{Point}
use Rattle.alternatives.specs.Numbers.{IsNumberOf}
use Rattle.alternatives.specs.Originals.{counts}
use Rattle.alternatives.specs.Texts.{insn_at, is_cut}
use Rattle.alternatives.specs.Points.{entry_of, is_padded, is_padding_point, is_point, padding_of, points_of, replacement_insn, IsPoint}
use Rattle.alternatives.proofs.Ascending.{contains_in, every-in, in_contains}
use Rattle.flow_defs.specs.Coded.{Coded}
use Rattle.flow_defs.specs.Code.{alternatives_of, no_point, point_at, points_of_object, texts_of}
use Rattle.alternatives.proofs.Listing.{points_complete, points_sound}

-- each in the list is a point
pub listed_point : (texts : List SectionText) (entries : List AltEntry) (p : Point) → Contains (points_of texts entries) p → is_point texts entries p ≡ true
listed_point texts entries p listed =
    every-in (IsPoint texts entries) (points_of texts entries) p (points_sound texts entries) (in_contains (points_of texts entries) p listed)

listed_at : (points : List Point) (p : Point) (n : ℕ) → slice_get points n ≡ Some p → Contains points p
listed_at points p n here =
    subst (Contains points) (get_or_from_slice_get points n p p here) (Contains-get_or points n p (slice_get_within points n p here))

-- what has a number is a point
pub known_point : (texts : List SectionText) (entries : List AltEntry) (p : Point) (found : Option ℕ) → IsNumberOf (points_of texts entries) p found → is_some found ≡ is_point texts entries p
known_point texts entries p None without = elim (cases_Bool (is_point texts entries p)) [
  | inl point ↦ absurd (without (contains_in (points_of texts entries) p (points_complete texts entries p point)))
  | inr none ↦ sym none
]
known_point texts entries p (Some n) here = sym (listed_point texts entries p (listed_at (points_of texts entries) p n here))

-- of a replacement's points, the padding is the one at its end or behind
last_case : (counted within padded : Bool) (found : Option Insn) (pad : Insn) → is_some (if not counted then None else if within then found else if padded then Some pad else None) ≡ true → within ≡ false → padded ≡ true
last_case false within padded found pad some other = absurd (false≢true some)
last_case true true padded found pad some other = absurd (false≢true (sym other))
last_case true false true found pad some other = refl
last_case true false false found pad some other = absurd (false≢true some)

within_below : (s p a b n : ℕ) → (eqb s p && (leb a b && ltb b (a + n))) ≡ true → leb (a + n) b ≡ false
within_below s p a b n within = grind (arith, nat_tests)

padded_behind : (short cut : Bool) (s p a b n : ℕ) → (short && ((eqb p s && eqb b (a + n)) && cut)) ≡ true → leb (a + n) b ≡ true
padded_behind true true s p a b n padded = grind (arith, nat_tests)
padded_behind true false s p a b n padded = grind (arith, nat_tests)
padded_behind false cut s p a b n padded = absurd (false≢true padded)

padding_behind : (texts : List SectionText) (a : AltEntry) (place : Place) → is_some (replacement_insn texts a place) ≡ true → is_padded texts a place ≡ nat_le (a.replacement.off + a.replacement_len) place.off
padding_behind texts a place some =
    let behind : is_padded texts a place ≡ true → nat_le (a.replacement.off + a.replacement_len) place.off ≡ true = λ padded. padded_behind (ltb a.replacement_len a.original_len) (is_cut texts place) a.replacement.sec place.sec a.replacement.off place.off a.replacement_len padded in
    elim (cases_Bool (is_within a.replacement a.replacement_len place)) [
      | inl within ↦
          let below = within_below a.replacement.sec place.sec a.replacement.off place.off a.replacement_len within in
          elim (cases_Bool (is_padded texts a place)) [
            | inl padded ↦ absurd (false≢true (sym below ∙ behind padded))
            | inr other ↦ other ∙ sym below
          ]
      | inr other ↦
          let padded = last_case (counts a) (is_within a.replacement a.replacement_len place) (is_padded texts a place) (insn_at texts place) (padding_of a) some other in
          padded ∙ sym (behind padded)
    ]

pub replaced_padding : (texts : List SectionText) (entries : List AltEntry) (p : Point) → is_point texts entries p ≡ true → eqb p.variant 0 ≡ false → is_padding_point texts entries p ≡ nat_le ((entry_of entries p.variant).replacement.off + (entry_of entries p.variant).replacement_len) p.place.off
replaced_padding texts entries p point replaced =
    ap (λ b. not b && is_padded texts (entry_of entries p.variant) p.place) replaced
    ∙ padding_behind texts (entry_of entries p.variant) p.place
    (sym (ap (λ b. is_some (if b then insn_at texts p.place else replacement_insn texts (entry_of entries p.variant) p.place)) replaced) ∙ point)

pub plain_padding : (texts : List SectionText) (entries : List AltEntry) (p : Point) → eqb p.variant 0 ≡ true → false ≡ is_padding_point texts entries p
plain_padding texts entries p plain = sym (ap (λ b. not b && is_padded texts (entry_of entries p.variant) p.place) plain)

-- so is the point with a number
pub numbered_point : (o : Coded) (n : ℕ) → n < length (points_of_object o) → is_point (texts_of o) (alternatives_of o) (point_at o n) ≡ true
unfolding points_of_object
numbered_point o n inside =
    listed_point (texts_of o) (alternatives_of o) (point_at o n) (Contains-get_or (points_of (texts_of o) (alternatives_of o)) n no_point inside)

pub is_replaced : (v w : ℕ) → v ≡ w → 0 < v → eqb w 0 ≡ false
is_replaced v w same some = grind (arith, nat_tests)
