use Rattle.std.proofs.Common.{ap, None}
use Rattle.std.proofs.lemmas.List.{get_or_default}
use Rattle.command_base.specs.declared.backtrace_spots.Spot.{Spot}
use Rattle.command_base.proofs.backtrace_cases.case_of.Goals as goal

pub returns : goal.returns
returns c w s = record {
  warning = get_or_default c.args.warnings.now c.args.i _ w c.requires.warning;
  first = ap (λ (x : Spot). x.first) (get_or_default c.args.firsts.now c.args.i _ s c.requires.first);
  kept = ap (λ (x : Spot). x.kept) (get_or_default c.args.firsts.now c.args.i _ s c.requires.first);
  clash = get_or_default c.args.clashes.now c.args.i _ None c.requires.clash;
}
