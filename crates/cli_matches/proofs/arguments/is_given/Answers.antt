use Rattle.std.proofs.Common.{true, false, ◌∙◌}
use Rattle.clap.specs.Words.{found_of}
use Rattle.clap.proofs.WalkLemmas.{one_text-rows}
use Rattle.cli_matches.proofs.arguments.is_given.Goals as goal

pub returns : goal.returns
returns c = elim [
  | true ↦ λ says. c.get_flag.ensures.value (one_text-rows (found_of c.args.found.now) c.args.name.now ∙ says)
  | false ↦ λ says. c.get_flag.ensures.other (one_text-rows (found_of c.args.found.now) c.args.name.now ∙ says)
]
