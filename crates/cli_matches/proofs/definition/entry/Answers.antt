use Rattle.cli_matches.proofs.definition.entry.Goals as goal

pub returns : goal.returns
returns c =
    let input = c.with_place-entry.ensures _ c.command-entry.ensures in
    let noinstr = c.with_switch-entry.ensures _ input in
    let sls = c.with_switch-entry-2.ensures _ noinstr in
    let ibt = c.with_switch-entry-3.ensures _ sls in
    c.with_common_options.ensures _ ibt
