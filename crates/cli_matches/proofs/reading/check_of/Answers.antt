use Rattle.std.proofs.Common.{Some, ap₂, ◌∙◌}
use Rattle.cli_words.specs.Grammar.{check}
use Rattle.cli_matches.proofs.SaysLemmas.{rewriting_none, rewriting_same}
use Rattle.cli_matches.proofs.reading.check_of.Goals as goal

pub returns-in-Some : goal.returns-in-Some
returns-in-Some c input output options names says =
    rewriting_same (λ input output map names. check input output (record { map = map; rules = c.rules_of.result; backtrace = c.is_given.result }) names) _ _ input output options.map names c.in-Some.is (c.in_ok-input.ensures input output options.map names says.rewriting)
    ∙ ap₂ (λ rules backtrace. Some (check input output (record { map = options.map; rules = rules; backtrace = backtrace }) names)) (c.rules_of.ensures input output options names says) (c.is_given.ensures options.backtrace says.backtrace)

pub returns-in-None : goal.returns-in-None
returns-in-None c input output options names says =
    rewriting_none _ input output options.map names (check input output options names) c.in-None.is (c.in_ok-input.ensures input output options.map names says.rewriting)
