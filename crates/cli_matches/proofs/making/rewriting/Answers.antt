use Rattle.cli_matches.proofs.making.rewriting.Goals as goal

pub returns : goal.returns
returns c = c.with_common_options.ensures _ (c.with_objects-command.ensures _ c.command-command.ensures)
