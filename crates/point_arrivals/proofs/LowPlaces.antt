-- The points of an object in order stand low.
use Rattle.std.proofs.Common.{◌≡◌, ℕ, ◌+◌, ◌-◌, ◌^◌, ◌<◌, ◌≤◌, false, List, length, ap, arith, if◌then◌else◌}
use Rattle.std.proofs.lemmas.List.Elements.{All-from_recursion}
use Rattle.std.proofs.lemmas.List.Sums.{get_or-le-sum_by}
use Rattle.ot_base.specs.NameLists.{NameLists}
use Rattle.flow_defs.specs.Coded.{Coded}
use Rattle.special_sections.specs.declared.entries.AltEntry.{AltEntry}
use Rattle.alternatives.specs.declared.texts.SectionText.{SectionText}
use Rattle.alternatives.specs.declared.point.Point.{Point}
use Rattle.alternatives.specs.Numbers.{IsKept}
use Rattle.alternatives.specs.Points.{address_of_point, entry_of, points_of, IsPoint}
use Rattle.alternatives.specs.Texts.{behind, text_bytes, AreShort}
use Rattle.alternatives.proofs.Listing.{points_sound}
use Rattle.alternatives.proofs.Numbering.{points_kept}
use Rattle.flow_defs.specs.Code.{alternatives_of, is_plain, no_point, point_at, points_of_object, texts_of}
use Rattle.object_points.specs.Linked.{IsLinked}

-- no text has more bytes than all together
short_texts : (texts : List SectionText) → text_bytes texts ≤ 16777216 → AreShort texts
short_texts texts little i d inside = omega (arith, little, get_or-le-sum_by (λ (t : SectionText). length t.text.bytes) texts i d inside)

pub low_point : (o : Coded) (lists : NameLists) (n : ℕ) → IsLinked o lists → text_bytes (texts_of o) ≤ 16777216 → n < length (points_of_object o) → IsKept (alternatives_of o) (point_at o n)
unfolding points_of_object
low_point o lists n linked little inside =
    points_kept (texts_of o) (alternatives_of o) (short_texts (texts_of o) little) linked.sites (points_of (texts_of o) (alternatives_of o))
    (All-from_recursion (IsPoint (texts_of o) (alternatives_of o)) (points_of (texts_of o) (alternatives_of o)) (points_sound (texts_of o) (alternatives_of o)))
    n no_point inside

-- so does the original that the replacement of a point may be patched over
pub low_original : (entries : List AltEntry) (point : Point) → IsKept entries point → is_plain point ≡ false → (entry_of entries point.variant).original.off < 2 ^ 32
low_original entries point kept replaced =
    let a : AltEntry = entry_of entries point.variant in
    let at : (address_of_point entries point).off ≡ a.original.off + (point.place.off - a.replacement.off) = ap (λ b. (if b then point.place else behind a.original (point.place.off - a.replacement.off)).off) replaced in
    omega (arith, kept.address, at)
