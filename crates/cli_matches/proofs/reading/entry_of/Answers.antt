use Rattle.std.proofs.Common.{◌≡◌, Some, ap, ap₂, option_map, string_bytes, sym, ◌∙◌}
use Rattle.cli_words.specs.Grammar.{entry}
use Rattle.cli_matches.proofs.SaysLemmas.{some_of}
use Rattle.cli_matches.proofs.reading.entry_of.Goals as goal

pub returns-in-Some : goal.returns-in-Some
returns-in-Some c input rules map names says =
    let input_is : string_bytes c.in-Some.input ≡ input = some_of _ _ (ap (option_map string_bytes) (sym c.in-Some.is) ∙ c.in_ok-input.ensures ∙ says.input_is) in
    ap₂ (λ i n. Some (entry i c.entry_rules_of.result c.map_of.result n)) input_is (c.in_ok-names.ensures ∙ says.names_are)
    ∙ ap₂ (λ r m. Some (entry input r m names)) (c.entry_rules_of.ensures input rules map names says) (c.map_of.ensures map says.all_opcodes)
