-- The point right behind another, by its number among the points of an object.
use Rattle.std.proofs.Common.{◌≡◌, ℕ, ◌<◌, List, Option, Some, None, map, length, get_or, sym, ap, ◌∙◌, subst}
use Rattle.std.specs.Prelude.{IfSome, slice_get, unwrap_or}
use Rattle.std.proofs.lemmas.List.{get_or-map, length-map}
use Rattle.std.proofs.lemmas.Option.{get_or_from_slice_get, slice_get-get_or, slice_get_within}
use Rattle.operation_defs.specs.declared.insn.Insn.{Insn}
use Rattle.alternatives.specs.declared.point.Point.{Point}
use Rattle.alternatives.specs.Numbers.{IsNumberOf}
use Rattle.alternatives.specs.Points.{insn_of_point, point_after}
use Rattle.flow_defs.specs.Arrival.{decoded_insn}
use Rattle.flow_defs.specs.Decoded.{no_insn}
use Rattle.flow_defs.specs.Code.{alternatives_of, no_point, point_at, points_of_object, texts_of}
use Rattle.flow_defs.specs.Coded.{Coded}

module _ (o : Coded) (points : List Point) (insns : List Insn) (all : points ≡ points_of_object o) (made : map (λ (insn : Insn). Some insn) insns ≡ map (insn_of_point (texts_of o) (alternatives_of o)) points) where
  -- the instruction of the point with a number
  pub decoded_at : (k : ℕ) (insn : Insn) → k < length points → slice_get insns k ≡ Some insn → decoded_insn o (point_at o k) ≡ insn
  unfolding decoded_insn
  decoded_at k insn inside has =
      let is : insn_of_point (texts_of o) (alternatives_of o) (get_or points k no_point) ≡ Some insn =
      sym (get_or-map (insn_of_point (texts_of o) (alternatives_of o)) points k no_point None inside)
      ∙ sym (ap (λ (xs : List (Option Insn)). get_or xs k None) made)
      ∙ get_or-map (λ (i : Insn). Some i) insns k insn None (slice_get_within insns k insn has)
      ∙ ap (λ (i : Insn). Some i) (get_or_from_slice_get insns k insn insn has) in
      ap (λ (ps : List Point). unwrap_or (insn_of_point (texts_of o) (alternatives_of o) (get_or ps k no_point)) no_insn) (sym all)
      ∙ ap (λ (x : Option Insn). unwrap_or x no_insn) is

  even : length insns ≡ length points
  even = sym (length-map insns (λ (insn : Insn). Some insn)) ∙ ap length made ∙ length-map points (insn_of_point (texts_of o) (alternatives_of o))

  -- what is looked up behind a point
  pub looked_up : (n : ℕ) (found : Option ℕ) → n < length points → IfSome (slice_get points n) (λ p. IfSome (slice_get insns n) (λ insn. IsNumberOf points (point_after p insn) found))
      → IsNumberOf (points_of_object o) (point_after (point_at o n) (decoded_insn o (point_at o n))) found
  looked_up n found inside here =
      let p : Point = get_or points n no_point in
      let insn : Insn = get_or insns n no_insn in
      let known : n < length insns = subst (λ (m : ℕ). n < m) (sym even) inside in
      let has : slice_get insns n ≡ Some insn = slice_get-get_or insns n no_insn known in
      let at_point : IfSome (slice_get insns n) (λ insn. IsNumberOf points (point_after p insn) found) =
      subst (λ x. IfSome x (λ p. IfSome (slice_get insns n) (λ insn. IsNumberOf points (point_after p insn) found))) (slice_get-get_or points n no_point inside) here in
      let at_insn : IsNumberOf points (point_after p insn) found = subst (λ x. IfSome x (λ insn. IsNumberOf points (point_after p insn) found)) has at_point in
      let own : IsNumberOf (points_of_object o) (point_after p insn) found = subst (λ (ps : List Point). IsNumberOf ps (point_after p insn) found) all at_insn in
      let same : p ≡ point_at o n = ap (λ (ps : List Point). get_or ps n no_point) all in
      subst (λ (i : Insn). IsNumberOf (points_of_object o) (point_after (point_at o n) i) found) (sym (decoded_at n insn inside has))
      (subst (λ (q : Point). IsNumberOf (points_of_object o) (point_after q insn) found) same own)
