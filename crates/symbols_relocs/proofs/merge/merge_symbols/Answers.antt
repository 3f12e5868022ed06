use Rattle.std.proofs.Common.{Vec, Global}
use Rattle.symbols_relocs.specs.declared.function.Function.{Function}
use Rattle.symbols_relocs.proofs.Merging.{merged_result}
use Rattle.symbols_relocs.proofs.merge.merge_symbols.Goals as goal

pub returns : goal.returns
returns c = merged_result (λ (fs : Vec Function Global). fs.items) _ _ _ c.merge_sorted.result c.in_ok-sort_by_start.ensures.same c.deref.ensures.value c.merge_sorted.ensures
