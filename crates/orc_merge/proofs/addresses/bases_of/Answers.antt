use Rattle.std.proofs.Common.{◌≡◌, sym, subst, ◌∙◌, get_or, take, false, [], ◌∷◌, ◌++◌}
use Rattle.std.specs.Prelude.{is_some}
use Rattle.std.specs.Ordering.{nat_cmp}
use Rattle.std.specs.BTreeMap.{get}
use Rattle.std.proofs.lemmas.List.{take_more}
use Rattle.table_defs.specs.declared.range.Range.{Range}
use Rattle.orc_walk.specs.Bases.{HasBases}
use Rattle.orc_walk.proofs.BaseLemmas.{bases_more, bases_stay, none_there}
use Rattle.orc_merge.proofs.addresses.bases_of.Goals as goal
use Rattle.orc_merge.proofs.addresses.bases_of.Goals.{then-not-contains_key+in_ok-insert, else-not-contains_key}

pub loop-range-preserved : goal.loop-range-preserved
loop-range-preserved c =
    let d : Range = record { sec = 0; base = 0; size = 0 } in
    let more = take_more c.args.ranges.now c.loop-range.range-index d c.loop-range-test.true in
    elim c.if-not-contains_key.branch [
      | then-not-contains_key+in_ok-insert w ↦
          let absent : is_some (get nat_cmp c.loop-range.bases (get_or c.args.ranges.now c.loop-range.range-index d).sec) ≡ false = sym c.contains_key.ensures ∙ w.if-not-contains_key.true in
          subst (λ done. HasBases done c.if-not-contains_key.bases) (sym more)
          (subst (λ bases. HasBases (take c.loop-range.range-index c.args.ranges.now ++ get_or c.args.ranges.now c.loop-range.range-index d ∷ []) bases) (sym w.bases-is)
          (bases_more (take c.loop-range.range-index c.args.ranges.now) (get_or c.args.ranges.now c.loop-range.range-index d) c.loop-range.bases w.insert.new.self c.loop-range.invariant (none_there _ absent) w.in_ok-insert.ensures.updates))
      | else-not-contains_key w ↦
          subst (λ done. HasBases done c.if-not-contains_key.bases) (sym more)
          (subst (λ bases. HasBases (take c.loop-range.range-index c.args.ranges.now ++ get_or c.args.ranges.now c.loop-range.range-index d ∷ []) bases) (sym w.bases-is)
          (bases_stay (take c.loop-range.range-index c.args.ranges.now) (get_or c.args.ranges.now c.loop-range.range-index d) c.loop-range.bases c.loop-range.invariant (sym c.contains_key.ensures ∙ w.if-not-contains_key.false)))
    ]
