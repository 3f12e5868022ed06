use Rattle.std.proofs.Common.{◌==◌, ◌∙◌, sym, ap, ◌||◌, ◌+◌, drop}
use Rattle.std.specs.List.{starts_with}
use Rattle.std.proofs.lemmas.List.{take_rest}
use Rattle.explanations.specs.Refusals.{has_words}
use Rattle.explanations.proofs.Marked.{words-next}
use Rattle.explanations.proofs.refusal.has_words.Goals as goal

pub loop-at-preserved : goal.loop-at-preserved
loop-at-preserved c =
    let begins = ap (λ rest. starts_with (λ a b. a == b) rest c.args.words.now) (sym (take_rest c.args.line.now c.loop-at.at)) ∙ sym c.starts_with.ensures.value ∙ c.if-starts_with.false in
    c.loop-at.invariant
    ∙ words-next c.args.line.now c.args.words.now c.loop-at.at c.loop-at-test.true
    ∙ ap (λ b. b || has_words (drop (c.loop-at.at + 1) c.args.line.now) c.args.words.now) begins
