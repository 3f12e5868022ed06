use Rattle.std.proofs.Common.{rules, ◌≡◌, ◌+◌, ◌++◌, ◌∷◌, [], ℕ, List, Option, Some, map, take, get_or, sym, ap, ◌∙◌}
use Rattle.std.proofs.lemmas.List.{map-append, take_more}
use Rattle.operation_defs.specs.declared.insn.Insn.{Insn}
use Rattle.alternatives.specs.declared.point.Point.{Point}
use Rattle.alternatives.specs.Points.{insn_of_point}
use Rattle.alternatives.proofs.points.insns_of.Goals.{in-Some+in_ok-push, in_default}
use Rattle.alternatives.proofs.points.insns_of.Goals as goal

pub loop-point-preserved : goal.loop-point-preserved
loop-point-preserved c = elim c.match-insn_of_point.branch [
  | in-Some+in_ok-push w ↦
      let points : List Point = c.args.points.now in
      let i : ℕ = c.loop-point.point-index in
      let of : Point → Option Insn = insn_of_point c.args.texts.now c.args.entries.now in
      let before : List Insn = c.loop-point.insns in
      let some : Insn → Option Insn = λ insn. Some insn in
      let last : of (get_or points i c.point-item.result) ≡ Some w.in-Some.insn =
      ap of (sym (c.point.ensures ∙ c.point-item.is)) ∙ sym c.insn_of_point.ensures ∙ w.in-Some.is in
      ap (map some) (w.insns-is ∙ w.in_ok-push.ensures)
      ∙ map-append some before (w.in-Some.insn ∷ [])
      ∙ ap (λ insns. insns ++ Some w.in-Some.insn ∷ []) c.loop-point.invariant
      ∙ ap (λ insn. map of (take i points) ++ insn ∷ []) (sym last)
      ∙ sym (map-append of (take i points) (get_or points i c.point-item.result ∷ []))
      ∙ ap (map of) (sym (take_more points i c.point-item.result c.loop-point-test.true))
  | in_default w ↦ search rules
]
