use Rattle.std.proofs.Common.{ℕ, ◌∙◌, List, arith, [], get_or, ap, sym}
use Rattle.std.specs.FinSet.{insert}
use Rattle.ot_base.proofs.NameSetLemmas.{set_more}
use Rattle.ot_base.proofs.name_set.NameSet.of.Goals as goal

pub loop-name-preserved : goal.loop-name-preserved
loop-name-preserved c =
    let name : List ℕ = (get_or c.args.names.now c.loop-name.name-index (record { ref_ptr = (0, 0); now = [] })).now in
    c.in_ok-add.ensures.ok
    ∙ ap (insert c.loop-name.all) c.as_bytes.ensures.value
    ∙ ap (λ s. insert s name) c.loop-name.invariant
    ∙ sym (set_more (λ n. n.now) c.args.names.now c.loop-name.name-index (record { ref_ptr = (0, 0); now = [] }) (omega arith))
