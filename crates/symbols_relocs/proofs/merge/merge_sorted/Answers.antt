use Rattle.std.proofs.Common.{List, rules, subst}
use Rattle.std.proofs.lemmas.List.{take_all}
use Rattle.symbols_relocs.specs.declared.function.Function.{Function}
use Rattle.symbols_relocs.specs.Lists.{AreMerged}
use Rattle.symbols_relocs.proofs.Merging.{merged_more}
use Rattle.symbols_relocs.proofs.merge.merge_sorted.Goals as goal

pub loop-symbol-preserved : goal.loop-symbol-preserved
loop-symbol-preserved c =
    rw (c.in_ok-add_symbol.ensures) (merged_more c.args.symbols.now c.loop-symbol.functions.items c.loop-symbol.symbol-index _ c.requires c.loop-symbol-test.true (search rules) c.loop-symbol.invariant)

pub returns : goal.returns
returns c = subst (λ (xs : List Function). AreMerged xs c.loop-symbol.functions.items) (take_all c.loop-symbol.symbol-index c.args.symbols.now c.loop-symbol-test.false) c.loop-symbol.invariant
