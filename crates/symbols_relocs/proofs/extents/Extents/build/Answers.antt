use Rattle.std.proofs.Common.{List}
use Rattle.std.proofs.lemmas.List.Sorted.{list_any-IsPermutation}
use Rattle.symbols_relocs.specs.declared.extents.Extent.{Extent}
use Rattle.symbols_relocs.specs.Extents.{has_byte, starts_upto}
use Rattle.symbols_relocs.proofs.ExtentOrder.{reach_first, same_from_sort}
use Rattle.symbols_relocs.proofs.extents.Extents.build.Goals as goal

pub loop-k-init : goal.loop-k-init
loop-k-init c =
    let es : List Extent = c.args.extents.items in
    let sorted : List Extent = c.sort_by_start.new.extents.items in
    record {
      sorted = c.sort_by_start.ensures.sorted;
      reach = reach_first sorted;
      same = same_from_sort es sorted (λ place. list_any-IsPermutation (has_byte place) es sorted c.sort_by_start.ensures.same) (λ place. list_any-IsPermutation (starts_upto place) es sorted c.sort_by_start.ensures.same);
    }
