use Rattle.std.proofs.Common.{◌≡◌, ◌++◌, List, ℕ, ap, ◌∙◌}
use Rattle.eh_frame.specs.RowFrames.{start_bytes}
use Rattle.eh_frame.proofs.SpellSteps.{all_spelled, both_appended, none_spelled, row_passed, row_spelled}
use Rattle.eh_frame.proofs.writing.spell_rows.Goals as goal
use Rattle.eh_frame.proofs.writing.spell_rows.Goals.{then-off-from+in_ok-push_move+in_ok-push_rule, else-off-from}

pub loop-placed-init : goal.loop-placed-init
loop-placed-init c =
    none_spelled c.args.size c.args.rows.now c.push_start.new.spelled.items
    (c.in_ok-push_start.ensures ∙ ap (λ (bs : List ℕ). bs ++ start_bytes c.args.rows.now) c.new-spelled.ensures.items)

pub loop-placed-preserved : goal.loop-placed-preserved
loop-placed-preserved c =
    elim c.if-off-from.branch [
      | then-off-from+in_ok-push_move+in_ok-push_rule w ↦
          rw (w.location-is, w.spelled-is)
          (row_spelled c.args.size c.from.result c.args.rows.now c.loop-placed.placed-index c.loop-placed.location c.loop-placed.spelled.items _ _ c.loop-placed-test.true c.loop-placed.invariant c.requires.ascend c.from.ensures w.if-off-from.true
          (both_appended c.loop-placed.spelled.items _ _ _ _ _ w.in_ok-push_move.ensures w.in_ok-push_rule.ensures w.rule_of_row.ensures))
      | else-off-from w ↦
          rw (w.location-is, w.spelled-is)
          (row_passed c.args.size c.from.result c.args.rows.now c.loop-placed.placed-index c.loop-placed.location c.loop-placed.spelled.items _ c.loop-placed-test.true c.loop-placed.invariant c.from.ensures w.if-off-from.false)
    ]

pub returns : goal.returns
returns c = all_spelled c.args.size c.args.rows.now c.loop-placed.placed-index c.loop-placed.location c.loop-placed.spelled.items c.pad.new.spelled.items c.loop-placed-test.false c.loop-placed.invariant c.in_ok-pad.ensures
