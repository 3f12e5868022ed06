use Rattle.std.proofs.Common.{◌≤◌, Some, None, length, map, sym, ◌∙◌, string_bytes}
use Rattle.std.proofs.lemmas.List.{length-map}
use Rattle.cli_words.proofs.JudgeLemmas.{fault_next, no_fault_left}
use Rattle.cli_words.proofs.judge.first_fault.Goals as goal

pub returns-in-Some : goal.returns-in-Some
returns-in-Some c = sym (c.loop-index.invariant ∙ fault_next string_bytes c.args.words.now c.args.command c.loop-index.index c.index-words-index.result c.as_str.result.now (Some c.in-Some.kind) c.loop-index-test.true c.index-words-index.is c.as_str.ensures.value c.in-Some.ensures)

pub loop-index-preserved : goal.loop-index-preserved
loop-index-preserved c =
    c.loop-index.invariant
    ∙ fault_next string_bytes c.args.words.now c.args.command c.loop-index.index c.index-words-index.result c.as_str.result.now None c.loop-index-test.true c.index-words-index.is c.as_str.ensures.value c.in_default.ensures

pub returns : goal.returns
returns c =
    let end : length (map string_bytes c.args.words.now) ≤ c.loop-index.index = simp length-map c.loop-index-test.false in
    sym (c.loop-index.invariant ∙ no_fault_left c.args.command (map string_bytes c.args.words.now) c.loop-index.index end)
