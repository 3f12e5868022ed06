use Rattle.cli_matches.proofs.definition.explain.Goals as goal

pub returns : goal.returns
returns c = c.with_optional.ensures _ c.command-explain.ensures
