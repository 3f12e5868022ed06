use Rattle.std.proofs.Common.{arith, sym, subst, ◌∙◌, get_or, take, [], ◌∷◌, ◌++◌}
use Rattle.std.proofs.lemmas.List.{take_more}
use Rattle.table_defs.specs.declared.range.Range.{Range}
use Rattle.orc_walk.specs.Layout.{IsLaid}
use Rattle.orc_walk.proofs.Layouts.{laid_more, laid_empty, next_faulty}
use Rattle.orc_walk.proofs.layout.lay.Goals as goal
use Rattle.orc_walk.proofs.layout.lay.Goals.{then-range-gt0+in_ok-insert, else-range-gt0}

pub loop-i-preserved : goal.loop-i-preserved
loop-i-preserved c =
    let d : Range = record { sec = 0; base = 0; size = 0 } in
    let i = c.loop-i.i in
    let ranges = c.args.ranges.now in
    let more = take_more ranges i d c.loop-i-test.true in
    let none = sym c.range_fault.ensures ∙ c.in_default.is in
    record {
      laid = subst (λ done. IsLaid done c.if-range-gt0.laid) (sym more) (elim c.if-range-gt0.branch [
        | then-range-gt0+in_ok-insert w ↦ subst (IsLaid (take i ranges ++ get_or ranges i d ∷ [])) (sym w.laid-is) (laid_more (take i ranges) c.loop-i.laid w.insert.new.self (get_or ranges i d) c.loop-i.invariant.laid none w.if-range-gt0.true w.in_ok-insert.ensures.updates)
        | else-range-gt0 w ↦ subst (IsLaid (take i ranges ++ get_or ranges i d ∷ [])) (sym w.laid-is) (laid_empty (take i ranges) c.loop-i.laid (get_or ranges i d) c.loop-i.invariant.laid none (omega (arith, w.if-range-gt0.false)))
      ]);
      rest = c.loop-i.invariant.rest ∙ next_faulty ranges i d c.loop-i-test.true none;
    }
