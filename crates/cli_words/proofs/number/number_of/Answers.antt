use Rattle.std.proofs.Common.{◌≡◌, true, sym, ap, ◌∙◌}
use Rattle.cli_words.specs.Numbers.{is_numeral}
use Rattle.cli_words.proofs.NumberLemmas.{too_large}
use Rattle.cli_words.proofs.number.number_of.Goals as goal

pub returns-in-Err : goal.returns-in-Err
returns-in-Err c =
    let numeral : is_numeral c.args.word.now ≡ true = ap is_numeral (sym c.as_bytes.ensures.value) ∙ sym c.if-not-is_numeral.ensures in
    too_large c.args.word.now c.in-Err.field-0 numeral c.in-Err.ensures.value.0
