-- The object is joined from several, or the options say that it is linked.
use Rattle.std.proofs.Common.{◌≡◌, true, false, refl, sym, ◌∙◌}
use Rattle.stack_rules.proofs.holes.is_hole.Goals as goal

pub returns-then-is_linked : goal.returns-then-is_linked
returns-then-is_linked c p t =
    let uncovered : p.uncovered c.args.n ≡ true = sym (c.uncovered.ensures p t) ∙ c.if-uncovered.true in
    let linked : p.linked ≡ true = sym (c.is_linked.ensures p t) ∙ c.if-is_linked.true in
    rw (c.if-is_linked.true, uncovered, linked) refl

pub returns-else-is_linked : goal.returns-else-is_linked
returns-else-is_linked c p t =
    let uncovered : p.uncovered c.args.n ≡ true = sym (c.uncovered.ensures p t) ∙ c.if-uncovered.true in
    let linked : p.linked ≡ false = sym (c.is_linked.ensures p t) ∙ c.if-is_linked.false in
    rw (uncovered, linked) refl
