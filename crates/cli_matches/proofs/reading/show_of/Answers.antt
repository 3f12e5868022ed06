use Rattle.std.proofs.Common.{◌≡◌, Some, ap, ap₂, option_map, string_bytes, sym, ◌∙◌}
use Rattle.cli_words.specs.Grammar.{show}
use Rattle.cli_matches.proofs.SaysLemmas.{some_of}
use Rattle.cli_matches.proofs.reading.show_of.Goals as goal

pub returns-in-Some : goal.returns-in-Some
returns-in-Some c input function map names says =
    let input_is : string_bytes c.in-Some.input ≡ input = some_of _ _ (ap (option_map string_bytes) (sym c.in-Some.is) ∙ c.in_ok-input.ensures ∙ says.input_is) in
    ap₂ (λ i n. Some (show i (option_map string_bytes c.in_ok-function.function) c.map_of.result n)) input_is (c.in_ok-names.ensures ∙ says.names_are)
    ∙ ap₂ (λ f m. Some (show input f m names)) (c.in_ok-function.ensures ∙ says.function_is) (c.map_of.ensures map says.all_opcodes)
