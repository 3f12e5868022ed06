use Rattle.cli_matches.proofs.definition.show.Goals as goal

pub returns : goal.returns
returns c =
    let input = c.with_place-show.ensures _ c.command-show.ensures in
    let function = c.with_value-show.ensures _ input in
    c.with_common_options.ensures _ function
