use Rattle.cli_matches.proofs.definition.merge.Goals as goal

pub returns : goal.returns
returns c = c.with_place.ensures _ (c.with_place-merge.ensures _ c.command-merge.ensures)
