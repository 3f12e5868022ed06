use Rattle.std.proofs.Common.{sym, subst, ◌∙◌, get_or, take, [], ◌∷◌, ◌++◌}
use Rattle.std.proofs.lemmas.List.{take_more}
use Rattle.orc_walk.proofs.BaseLemmas.{some_placed}
use Rattle.orc_merge.specs.Ends.{HasLasts}
use Rattle.orc_merge.proofs.EndLemmas.{lasts_more, lasts_stay}
use Rattle.orc_merge.proofs.ends.last_rows.Goals as goal
use Rattle.orc_merge.proofs.ends.last_rows.Goals.{then-goes_last+in_ok-insert, else-goes_last}

pub loop-placed-preserved : goal.loop-placed-preserved
loop-placed-preserved c =
    let placed = get_or c.args.rows.now c.loop-placed.placed-index some_placed in
    let done = take c.loop-placed.placed-index c.args.rows.now in
    let more = take_more c.args.rows.now c.loop-placed.placed-index some_placed c.loop-placed-test.true in
    elim c.if-goes_last.branch [
      | then-goes_last+in_ok-insert w ↦
          subst (λ rows. HasLasts rows c.if-goes_last.lasts) (sym more)
          (subst (λ lasts. HasLasts (done ++ placed ∷ []) lasts) (sym w.lasts-is)
          (lasts_more done placed c.loop-placed.lasts w.insert.new.self c.loop-placed.invariant (sym c.goes_last.ensures ∙ w.if-goes_last.true) w.in_ok-insert.ensures.updates))
      | else-goes_last w ↦
          subst (λ rows. HasLasts rows c.if-goes_last.lasts) (sym more)
          (subst (λ lasts. HasLasts (done ++ placed ∷ []) lasts) (sym w.lasts-is)
          (lasts_stay done placed c.loop-placed.lasts c.loop-placed.invariant (sym c.goes_last.ensures ∙ w.if-goes_last.false)))
    ]
