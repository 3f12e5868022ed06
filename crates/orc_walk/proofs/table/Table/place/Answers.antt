use Rattle.std.proofs.Common.{◌<◌, ◌≤◌, [], arith, ap, sym, subst, ◌∙◌, inl, inr, get_or, length}
use Rattle.std.proofs.lemmas.Result.{err_from_is_err_and}
use Rattle.std.specs.Option.{option_or}
use Rattle.std.specs.Prelude.{option_map, IsPermutation}
use Rattle.std.proofs.lemmas.List.Sorted.{length_permutation, IsPermutation-map}
use Rattle.ot_base.specs.CountedItems.{CountedItems}
use Rattle.table_defs.specs.Placement.{is_inside}
use Rattle.table_defs.specs.Lookup.{addressed}
use Rattle.orc_walk.specs.declared.faults.PlaceWhy.TheVariants.{Missing}
use Rattle.orc_walk.specs.declared.faults.PlaceFault.TheVariants.{At}
use Rattle.orc_walk.specs.Faults.{first_faulty}
use Rattle.orc_walk.specs.Rows.{addressed_row, rows_of, row_at}
use Rattle.orc_walk.proofs.LastRow.{ascends}
use Rattle.orc_walk.proofs.Placing.{missing_same, sum_fits}
use Rattle.orc_walk.proofs.table.Table.place.Goals as goal

pub returns-in-Some-clause-fault : goal.returns-in-Some-clause-fault
returns-in-Some-clause-fault c =
    let missing = missing_same c.args.ranges.now c.in_ok-bases.bases c.args.rows.now c.in_ok-bases.ensures in
    inr (ap (λ o. option_or o (first_faulty [] c.args.ranges.now)) (missing ∙ ap (option_map (λ placed. At placed.place.sec Missing)) (sym c.first_unplaced.ensures ∙ c.in-Some.is)))

pub returns-in_err-laid-clause-fault : goal.returns-in_err-laid-clause-fault
returns-in_err-laid-clause-fault c =
    let missing = missing_same c.args.ranges.now c.in_ok-bases.bases c.args.rows.now c.in_ok-bases.ensures in
    let none = missing ∙ ap (option_map (λ placed. At placed.place.sec Missing)) (sym c.first_unplaced.ensures ∙ c.in_default.is) in
    let p = err_from_is_err_and c.from_residual-in_err-laid.result c.from_residual-in_err-laid.ensures.1 in
    rw (p.1, p.2) (elim c.in_err-laid.ensures.fault [
      | inl no_memory ↦ inl no_memory
      | inr first ↦ inr (ap (λ o. option_or o (first_faulty [] c.args.ranges.now)) none ∙ first)
    ])

pub addressed-requires : goal.addressed-requires
addressed-requires c = (λ k d lt. sum_fits c.args.ranges.now c.in_ok-bases.bases (get_or c.args.rows.now k d) c.in_ok-bases.ensures c.in_ok-laid.ensures.laid_out (c.requires.within k d lt))

pub blocks_of-requires-clause-ascending : goal.blocks_of-requires-clause-ascending
blocks_of-requires-clause-ascending c =
    let up = ascends c.sort.new.items.items c.in_ok-sort.ensures.in_order in
    (λ i j d le lt. subst (λ items. (get_or items i d).0 ≤ (get_or items j d).0) (sym c.deref.ensures.value) (up i j d le (subst (λ items. j < length items) c.deref.ensures.value lt)))

pub blocks_of-requires-clause-number : goal.blocks_of-requires-clause-number
blocks_of-requires-clause-number c = omega (arith, ap length c.deref.ensures.value, length_permutation _ _ c.sort.ensures.moved, c.in_ok-items.ensures.number, c.requires.number)

pub build-requires : goal.build-requires
build-requires c = omega (arith, length_permutation _ _ c.sort.ensures.moved, c.in_ok-items.ensures.number, c.requires.number)

pub returns-clause-fits : goal.returns-clause-fits
returns-clause-fits c =
    let missing = missing_same c.args.ranges.now c.in_ok-bases.bases c.args.rows.now c.in_ok-bases.ensures in
    let none = missing ∙ ap (option_map (λ placed. At placed.place.sec Missing)) (sym c.first_unplaced.ensures ∙ c.in_default.is) in
    ap (λ o. option_or o (first_faulty [] c.args.ranges.now)) none ∙ c.in_ok-laid.ensures.fits

pub returns-clause-table : goal.returns-clause-table
returns-clause-table c =
    let ranges = c.args.ranges.now in
    let sorted = c.sort.new.items.items in
    let all = c.in_ok-items.ensures.all ranges c.in_ok-bases.ensures in
    let tape = ap (λ (t : CountedItems). rows_of t.items) c.build.ensures in
    record {
      holds = subst (λ rows. IsPermutation (addressed ranges c.args.rows.now) rows) (sym tape) (subst (λ rows. IsPermutation rows (rows_of sorted)) all (IsPermutation-map addressed_row c.in_ok-items.items.items sorted c.sort.ensures.moved));
      found = (λ address. ap (row_at address) tape ∙ c.in_ok-sort.ensures.found address ∙ ap (row_at address) all);
      inside = (λ address. ap (λ rs. is_inside rs address) (c.in_ok-blocks.ensures.ranges ∙ c.deref-2.ensures.value) ∙ c.in_ok-laid.ensures.inside address);
    }
