use Rattle.std.proofs.Common.{◌∙◌, ℕ, List, [], ◌∷◌, ◌++◌, take, ap, sym, subst}
use Rattle.std.proofs.lemmas.List.{map-append, take_all, take_more}
use Rattle.std.proofs.lemmas.List.Elements.{All-push}
use Rattle.std.specs.Prelude.{All}
use Rattle.table_defs.specs.declared.range.Range.{Range}
use Rattle.orc_walk.specs.declared.blocks.Blocks.{Blocks}
use Rattle.orc_walk.specs.Blocks.{HasFirsts, ranges_of}
use Rattle.orc_walk.specs.Rows.{rows_of}
use Rattle.orc_walk.proofs.blocks.blocks_of.Goals as goal

pub loop-range-preserved : goal.loop-range-preserved
loop-range-preserved c =
    let ranges : List Range = c.args.ranges.now in
    let i : ℕ = c.loop-range.range-index in
    let before : List Blocks = c.loop-range.blocks.items in
    let blocks : Blocks = c.in_ok-of.field-0 in
    let items = c.in_ok-push.ensures.items in
    record {
      ranges =
          ap ranges_of items
          ∙ map-append (λ b. b.range) before (blocks ∷ [])
          ∙ ap (λ rs. rs ++ blocks.range ∷ []) c.loop-range.invariant.ranges
          ∙ ap (λ r. take i ranges ++ r ∷ []) c.in_ok-of.ensures.range
          ∙ sym (take_more ranges i (record { sec = 0; base = 0; size = 0 }) c.loop-range-test.true);
      firsts = subst (All (HasFirsts (rows_of c.args.items.now))) (sym items) (All-push (HasFirsts (rows_of c.args.items.now)) before blocks c.loop-range.invariant.firsts c.in_ok-of.ensures.firsts);
    }

pub returns : goal.returns
returns c = record {
  ranges = c.loop-range.invariant.ranges ∙ take_all c.loop-range.range-index c.args.ranges.now c.loop-range-test.false;
  firsts = c.loop-range.invariant.firsts;
}
