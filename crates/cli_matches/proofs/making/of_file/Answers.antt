use Rattle.cli_matches.proofs.making.of_file.Goals as goal

pub returns : goal.returns
returns c = c.with_place.ensures _ c.command-command.ensures
