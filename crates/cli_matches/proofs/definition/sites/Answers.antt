use Rattle.cli_matches.proofs.definition.sites.Goals as goal

pub returns : goal.returns
returns c =
    let objects = c.with_objects-sites.ensures _ c.command-sites.ensures in
    let of_module = c.with_switch-sites.ensures _ objects in
    c.with_common_options.ensures _ of_module
