use Rattle.std.proofs.Common.{◌≡◌, ℕ, ◌<◌, length, get_or, None}
use Rattle.ot_base.specs.declared.warning.Warning.{Warning}
use Rattle.command_base.specs.declared.backtrace_cases.Case.{Case}
use Rattle.command_base.specs.declared.backtrace_spots.Spot.{Spot}
use Rattle.command_base.proofs.CaseLists.{AreMade}
use Rattle.command_base.proofs.backtrace_cases.find_cases.Given as goal

abbrev pub invariant-loop-i : goal.invariant-loop-i
invariant-loop-i l = record {
  len : length l.cases.items ≡ l.i;
  made : AreMade l.warnings l.firsts.items l.clashes.items l.cases.items;
}
