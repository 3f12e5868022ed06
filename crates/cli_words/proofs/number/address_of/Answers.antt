use Rattle.std.proofs.Common.{◌≡◌, true, sym, ap, ◌∙◌}
use Rattle.cli_words.specs.Numbers.{is_address}
use Rattle.cli_words.proofs.NumberLemmas.{address_fits}
use Rattle.cli_words.proofs.number.address_of.Goals as goal

pub returns-in-Err : goal.returns-in-Err
returns-in-Err c =
    let address : is_address c.args.word.now ≡ true = ap is_address (sym c.as_bytes.ensures.value) ∙ sym c.if-not-is_address.ensures in
    address_fits c.args.word.now c.in-Err.field-0 address c.in-Err.ensures.value
