use Rattle.std.proofs.Common.{Some, ap, ◌∙◌}
use Rattle.cli_words.specs.Grammar.{sites}
use Rattle.cli_matches.proofs.SaysLemmas.{rewriting_none, rewriting_same}
use Rattle.cli_matches.proofs.reading.sites_of.Goals as goal

pub returns-in-Some : goal.returns-in-Some
returns-in-Some c input output options map names says =
    rewriting_same (λ input output map names. sites input output c.site_options_of.result map names) _ _ input output map names c.in-Some.is (c.in_ok-input.ensures input output map names says.rewriting)
    ∙ ap (λ said. Some (sites input output said map names)) (c.site_options_of.ensures input output options map names says)

pub returns-in-None : goal.returns-in-None
returns-in-None c input output options map names says =
    rewriting_none _ input output map names (sites input output options map names) c.in-None.is (c.in_ok-input.ensures input output map names says.rewriting)
