use Rattle.std.proofs.Common.{◌+◌, ◌<◌, ◌^◌, sym, subst, get_or}
use Rattle.std.specs.Prelude.{All, IfSome}
use Rattle.std.specs.Ordering.{nat_cmp}
use Rattle.std.specs.BTreeMap.{get}
use Rattle.ot_base.specs.declared.row.PlacedRow.{PlacedRow}
use Rattle.orc_walk.specs.Bases.{HasBases}
use Rattle.orc_walk.proofs.Placing.{sum_fits}
use Rattle.orc_merge.proofs.addresses.add_part.Goals as goal

pub add_rows-requires : goal.add_rows-requires
add_rows-requires c =
    let has = subst (λ ranges. HasBases ranges c.in_ok-bases.bases) c.deref.ensures.value c.in_ok-bases.ensures in
    subst (All (λ (placed : PlacedRow). IfSome (get nat_cmp c.in_ok-bases.bases placed.place.sec) (λ base. base + placed.place.off < 2 ^ 64))) (sym c.deref-2.ensures.value)
    (λ k d lt. sum_fits c.args.part.now.ranges.items c.in_ok-bases.bases (get_or c.args.part.now.rows.items k d) has c.requires.laid_out (c.requires.within k d lt))
