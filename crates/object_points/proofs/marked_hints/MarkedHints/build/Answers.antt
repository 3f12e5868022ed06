use Rattle.std.proofs.Common.{ℕ, List, length, map, ◌∙◌, subst}
use Rattle.special_sections.specs.declared.entries.HintEntry.{HintEntry}
use Rattle.object_points.specs.Marks.{AreMarked}
use Rattle.object_points.proofs.MarkedHints.{no_hint}
use Rattle.object_points.proofs.marked_hints.MarkedHints.build.Goals as goal

pub invariant_of-result : goal.invariant_of-result
invariant_of-result c =
    let marks : List ℕ = c.in_ok-marks.marks.items in
    let set : AreMarked (length marks) (map (λ (h : HintEntry). h.place) c.args.special.now.hints) marks = subst (λ (hints : List HintEntry). AreMarked (length marks) (map (λ (h : HintEntry). h.place) hints) marks) c.hints.ensures c.in_ok-marks.ensures.set in (
      λ place unset. c.in_ok-hints.ensures.same place ∙ no_hint (length marks) c.args.special.now.hints marks place set unset,
      c.in_ok-marks.ensures.some,
    )
