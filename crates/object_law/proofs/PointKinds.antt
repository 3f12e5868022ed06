-- What the points of an object are: instructions of its code, instructions of replacements, and padding.
use Rattle.std.proofs.Common.{◌≡◌, ℕ, ◌<◌, Bool, true, false, not, cond, Option, Some, None, refl, subst}
use Rattle.std.specs.Prelude.{is_some, unwrap_or, ◌==◌}
use Rattle.std.proofs.lemmas.Bool.{eqb-true, false≢true}
use Rattle.std.proofs.lemmas.List.Elements.{Contains-get_or}
use Rattle.ot_base.specs.Places.{is_within}
use Rattle.operation_defs.specs.declared.insn.Insn.{Insn}
use Rattle.flow_defs.specs.Coded.{Coded}
use Rattle.alternatives.specs.declared.point.Point.{Point}
use Rattle.alternatives.specs.Originals.{counts}
use Rattle.alternatives.specs.Points.{IsPoint, entry_of, insn_of_point, is_padded, padding_of, points_of, replacement_insn}
use Rattle.alternatives.specs.Texts.{insn_at}
use Rattle.alternatives.proofs.Ascending.{every-in, in_contains}
use Rattle.alternatives.proofs.Listing.{points_sound}
use Rattle.flow_defs.specs.Code.{alternatives_of, no_point, point_at, points_of_object, texts_of}
use Rattle.flow_defs.specs.Decoded.{decoded_insn, no_insn}
use Rattle.object_law.specs.Flows.{HasBytes}
use Rattle.object_law.proofs.Bodies.{IsAt, is_at}
use Rattle.object_law.proofs.Numbers.{point_count}
use Rattle.table_law.proofs.Lists.{some_is}

-- what a point is, with its instruction as it is decoded
pub data PointIs (o : Coded) (point : Point) : Insn → Type 0 where
  plain : (insn : Insn) → point.variant ≡ 0 → IsAt o point.place insn → PointIs o point insn
  replaced : (insn : Insn) → (point.variant == 0) ≡ false → counts (entry_of (alternatives_of o) point.variant) ≡ true
      → is_within (entry_of (alternatives_of o) point.variant).replacement (entry_of (alternatives_of o) point.variant).replacement_len point.place ≡ true
      → IsAt o point.place insn → PointIs o point insn
  padding : (point.variant == 0) ≡ false → counts (entry_of (alternatives_of o) point.variant) ≡ true
      → is_padded (texts_of o) (entry_of (alternatives_of o) point.variant) point.place ≡ true
      → PointIs o point (padding_of (entry_of (alternatives_of o) point.variant))

insn_is : (o : Coded) (point : Point) (insn : Insn) → HasBytes o → insn_of_point (texts_of o) (alternatives_of o) point ≡ Some insn → PointIs o point insn
insn_is o point insn are is = by_variant (point.variant == 0) refl is
  where
    padded : (b : Bool) → (point.variant == 0) ≡ false → counts (entry_of (alternatives_of o) point.variant) ≡ true → is_padded (texts_of o) (entry_of (alternatives_of o) point.variant) point.place ≡ b
        → cond b (Some (padding_of (entry_of (alternatives_of o) point.variant))) None ≡ Some insn → PointIs o point insn
    padded true other counting p e = subst (PointIs o point) (some_is e) (PointIs.padding other counting p)
    padded false other counting p e = absurd (let k : ⊥ = cc in k)

    within : (b : Bool) → (point.variant == 0) ≡ false → counts (entry_of (alternatives_of o) point.variant) ≡ true
        → is_within (entry_of (alternatives_of o) point.variant).replacement (entry_of (alternatives_of o) point.variant).replacement_len point.place ≡ b
        → cond b (insn_at (texts_of o) point.place) (cond (is_padded (texts_of o) (entry_of (alternatives_of o) point.variant) point.place) (Some (padding_of (entry_of (alternatives_of o) point.variant))) None) ≡ Some insn
        → PointIs o point insn
    within true other counting w e = PointIs.replaced insn other counting w (is_at o point.place insn are e)
    within false other counting w e = padded (is_padded (texts_of o) (entry_of (alternatives_of o) point.variant) point.place) other counting refl e

    counted : (b : Bool) → (point.variant == 0) ≡ false → counts (entry_of (alternatives_of o) point.variant) ≡ b
        → cond (not b) None (cond (is_within (entry_of (alternatives_of o) point.variant).replacement (entry_of (alternatives_of o) point.variant).replacement_len point.place) (insn_at (texts_of o) point.place) (cond (is_padded (texts_of o) (entry_of (alternatives_of o) point.variant) point.place) (Some (padding_of (entry_of (alternatives_of o) point.variant))) None)) ≡ Some insn
        → PointIs o point insn
    counted false other c e = absurd (let k : ⊥ = cc in k)
    counted true other c e = within (is_within (entry_of (alternatives_of o) point.variant).replacement (entry_of (alternatives_of o) point.variant).replacement_len point.place) other c refl e

    by_variant : (b : Bool) → (point.variant == 0) ≡ b → cond b (insn_at (texts_of o) point.place) (replacement_insn (texts_of o) (entry_of (alternatives_of o) point.variant) point.place) ≡ Some insn → PointIs o point insn
    by_variant true v e = PointIs.plain insn (eqb-true point.variant 0 v) (is_at o point.place insn are e)
    by_variant false v e = counted (counts (entry_of (alternatives_of o) point.variant)) v refl e

-- the points by number are points
pub point_listed : (o : Coded) (q : ℕ) → q < point_count o → IsPoint (texts_of o) (alternatives_of o) (point_at o q)
unfolding points_of_object
point_listed o q here =
    every-in (IsPoint (texts_of o) (alternatives_of o)) (points_of (texts_of o) (alternatives_of o)) (point_at o q) (points_sound (texts_of o) (alternatives_of o))
    (in_contains (points_of (texts_of o) (alternatives_of o)) (point_at o q) (Contains-get_or (points_of (texts_of o) (alternatives_of o)) q no_point here))

pub point_is : (o : Coded) (q : ℕ) → HasBytes o → q < point_count o → PointIs o (point_at o q) (decoded_insn o (point_at o q))
unfolding decoded_insn
point_is o q are here = go (insn_of_point (texts_of o) (alternatives_of o) (point_at o q)) refl (point_listed o q here)
  where
    go : (found : Option Insn) → insn_of_point (texts_of o) (alternatives_of o) (point_at o q) ≡ found → is_some found ≡ true → PointIs o (point_at o q) (unwrap_or found no_insn)
    go None is some = absurd (false≢true some)
    go (Some insn) is some = insn_is o (point_at o q) insn are is
