use Rattle.std.proofs.Common.{◌+◌, ◌<◌, ◌^◌, ap, sym, subst, ◌∙◌, get_or, rules}
use Rattle.std.specs.Prelude.{IfSome}
use Rattle.orc_walk.specs.Rows.{rows_of}
use Rattle.orc_walk.proofs.BaseLemmas.{some_placed}
use Rattle.orc_merge.proofs.PartLemmas.{append_nil, row_behind, row_passed}
use Rattle.orc_merge.proofs.addresses.add_rows.Goals as goal
use Rattle.orc_merge.proofs.addresses.add_rows.Goals.{in-Some+in_ok-push, in_default}

pub overflow_add-base : goal.overflow_add-base
overflow_add-base c =
    let placed = get_or c.args.rows.now c.loop-placed.placed-index some_placed in
    let sum : c.in-Some.base.now + placed.place.off < 2 ^ 64 = subst (λ o. IfSome o (λ base. base + placed.place.off < 2 ^ 64)) (sym c.in-Some.ensures.value) (c.requires c.loop-placed.placed-index some_placed c.loop-placed-test.true) in
    search rules

pub loop-placed-init : goal.loop-placed-init
loop-placed-init c = λ ranges has. sym (append_nil _)

pub loop-placed-preserved : goal.loop-placed-preserved
loop-placed-preserved c =
    let i = c.loop-placed.placed-index in
    elim c.match-get.branch [
      | in-Some+in_ok-push w ↦
          let items = ap (λ v. v.items) w.items-is ∙ w.in_ok-push.ensures.items in
          (λ ranges has. ap rows_of items ∙ row_behind ranges c.args.bases.now c.args.rows.now i w.in-Some.base.now some_placed (rows_of c.args.items.now.items) c.loop-placed.items.items c.loop-placed-test.true has (c.loop-placed.invariant ranges has) (sym w.in-Some.ensures.value))
      | in_default w ↦ (λ ranges has. ap (λ v. rows_of v.items) w.items-is ∙ row_passed ranges c.args.bases.now c.args.rows.now i some_placed (rows_of c.args.items.now.items) c.loop-placed.items.items c.loop-placed-test.true has (c.loop-placed.invariant ranges has) (sym w.in_default.ensures.value))
    ]
