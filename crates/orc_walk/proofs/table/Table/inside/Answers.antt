use Rattle.std.proofs.Common.{◌-◌, arith, ap, sym, subst, ◌∙◌, length}
use Rattle.std.proofs.lemmas.Bool.{le-ltb}
use Rattle.table_defs.specs.Placement.{covers, is_inside}
use Rattle.orc_walk.specs.Table.{PlacedTable}
use Rattle.orc_walk.proofs.Near.{Split, none_inside, one_inside}
use Rattle.orc_walk.proofs.table.Table.inside.Goals as goal

pub returns-then-count-gt0 : goal.returns-then-count-gt0
returns-then-count-gt0 c =
    let count = c.begun-count.result in
    let split = subst (λ bs. Split bs c.args.addr c.begun-count.result) c.deref.ensures.value c.begun-count.ensures.split in
    let inside = one_inside c.self.inside.blocks.items c.args.addr (count - 1) c.index.result.now c.self.invariant.1.ascending (omega (arith, c.begun-count.ensures.bound, ap length c.deref.ensures.value)) (subst (λ n. Split c.self.inside.blocks.items c.args.addr n) (omega arith) split) in
    c.covers.ensures ∙ ap (λ b. covers b.range c.args.addr) c.index.ensures ∙ sym inside ∙ ap (λ (t : PlacedTable). is_inside t.ranges c.args.addr) c.self.view_is

pub returns-else-count-gt0 : goal.returns-else-count-gt0
returns-else-count-gt0 c =
    let split = subst (λ bs. Split bs c.args.addr c.begun-count.result) c.deref.ensures.value c.begun-count.ensures.split in
    let none = none_inside c.self.inside.blocks.items c.args.addr (subst (λ n. Split c.self.inside.blocks.items c.args.addr n) (omega arith) split) in
    le-ltb _ _ c.if-count-gt0.false ∙ sym none ∙ ap (λ (t : PlacedTable). is_inside t.ranges c.args.addr) c.self.view_is
