use Rattle.cli_matches.proofs.definition.find.Goals as goal

pub returns : goal.returns
returns c = c.with_place.ensures _ (c.with_place-find.ensures _ c.command-find.ensures)
