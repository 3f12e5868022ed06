use Rattle.std.proofs.Common.{ap, codes, sym, ◌∙◌, option_and_then, option_map}
use Rattle.clap.specs.Words.{found_of}
use Rattle.clap.proofs.WalkLemmas.{first_value-rows}
use Rattle.cli_words.specs.Numbers.{number_of}
use Rattle.cli_matches.proofs.reading.number_in.Goals as goal

pub returns-in-Some : goal.returns-in-Some
returns-in-Some c =
    c.number_of.ensures ∙ ap (option_and_then number_of) (ap (option_map (λ text. text.now)) (sym c.in-Some.is) ∙ c.get_str.ensures ∙ first_value-rows (found_of c.args.found.now) (codes "N"))

pub returns-in-None : goal.returns-in-None
returns-in-None c =
    ap (option_and_then number_of) (ap (option_map (λ text. text.now)) (sym c.in-None.is) ∙ c.get_str.ensures ∙ first_value-rows (found_of c.args.found.now) (codes "N"))
