use Rattle.cli_matches.proofs.definition.demo.Goals as goal

pub returns : goal.returns
returns c = c.with_place.ensures _ c.command-demo.ensures
