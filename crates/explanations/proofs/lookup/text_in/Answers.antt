use Rattle.std.proofs.Common.{◌∙◌, sym, ap, ◌+◌, [], drop, option_map}
use Rattle.std.specs.Option.{option_or}
use Rattle.explanations.specs.Entry.{text_on, told}
use Rattle.explanations.proofs.Found.{text-next}
use Rattle.explanations.proofs.lookup.text_in.Goals as goal

pub returns-in-Some : goal.returns-in-Some
returns-in-Some c =
    let rest = text_on (told (drop (c.loop-rows.rows-index + 1) c.args.tables.now)) c.args.topic.now in
    let found = sym c.text_on.ensures ∙ ap (option_map (λ text. text.now)) c.in-Some.is in
    sym (c.loop-rows.invariant
    ∙ text-next c.args.tables.now c.loop-rows.rows-index (record { ref_ptr = (0, 0); now = [] }) c.args.topic.now c.loop-rows-test.true
    ∙ ap (λ text. option_or text rest) found)

pub loop-rows-preserved : goal.loop-rows-preserved
loop-rows-preserved c =
    let rest = text_on (told (drop (c.loop-rows.rows-index + 1) c.args.tables.now)) c.args.topic.now in
    let found = sym c.text_on.ensures ∙ ap (option_map (λ text. text.now)) c.in_default.is in
    c.loop-rows.invariant
    ∙ text-next c.args.tables.now c.loop-rows.rows-index (record { ref_ptr = (0, 0); now = [] }) c.args.topic.now c.loop-rows-test.true
    ∙ ap (λ text. option_or text rest) found
