-- The decoded instructions of points, by numbers.
use Rattle.std.proofs.Common.{◌≡◌, ℕ, ◌<◌, List, Some, length, map, get_or, sym, ap, ◌∙◌, arith}
use Rattle.std.specs.Prelude.{slice_get, unwrap_or}
use Rattle.std.proofs.lemmas.List.{length-map}
use Rattle.std.proofs.lemmas.Option.{slice_get-get_or, slice_get_within}
use Rattle.operation_defs.specs.declared.insn.Insn.{Insn}
use Rattle.alternatives.specs.declared.point.Point.{Point}
use Rattle.alternatives.specs.Points.{insn_of_point}
use Rattle.x86_text.specs.InsnLists.{AreNumbered}
use Rattle.flow_defs.specs.Coded.{Coded}
use Rattle.flow_defs.specs.Decoded.{decoded_insn, no_insn}
use Rattle.flow_defs.specs.Code.{alternatives_of, no_point, point_at, points_of_object, texts_of}
use Rattle.object_points.specs.Decoded.{AreDecoded}
use Rattle.object_points.proofs.Numbers.{made_at}

module _ (o : Coded) (points : List Point) (insns : List Insn) (points_are : points ≡ points_of_object o) (insns_are : map (λ insn. Some insn) insns ≡ map (insn_of_point (texts_of o) (alternatives_of o)) points) where
  counted : length insns ≡ length points
  counted = omega (arith, length-map points (insn_of_point (texts_of o) (alternatives_of o)), length-map insns (λ (insn : Insn). Some insn), ap length insns_are)

  decoded_at : (n : ℕ) (insn : Insn) → n < length points → slice_get insns n ≡ Some insn → decoded_insn o (point_at o n) ≡ insn
  unfolding decoded_insn
  decoded_at n insn inside at =
      ap (λ ps. unwrap_or (insn_of_point (texts_of o) (alternatives_of o) (get_or ps n no_point)) no_insn) (sym points_are)
      ∙ ap (λ i. unwrap_or i no_insn) (made_at (insn_of_point (texts_of o) (alternatives_of o)) points insns n insn no_point insns_are inside at)

  -- that of each point is the one with its number
  pub numbered_decoded : (kinds : List Insn) (numbers : List ℕ) → AreNumbered insns kinds numbers → AreDecoded o kinds numbers
  numbered_decoded kinds numbers are = record {
    long = omega (arith, are.long, counted, ap length points_are);
    each = λ n k number.
        let inside : n < length insns = omega (arith, slice_get_within numbers n k number, are.long) in
        let insn : Insn = get_or insns n no_insn in
        let at : slice_get insns n ≡ Some insn = slice_get-get_or insns n no_insn inside in
        are.each n k insn number at ∙ ap (λ (i : Insn). Some i) (sym (decoded_at n insn (omega (arith, inside, counted)) at));
  }
