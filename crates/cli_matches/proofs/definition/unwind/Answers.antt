use Rattle.cli_matches.proofs.definition.unwind.Goals as goal

pub returns : goal.returns
returns c = c.with_place.ensures _ c.of_file-unwind.ensures
