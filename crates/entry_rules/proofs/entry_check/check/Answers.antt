use Rattle.std.proofs.Common.{List}
use Rattle.ot_base.specs.declared.warning.Warning.{Warning}
use Rattle.flow_defs.specs.Coded.{Coded}
use Rattle.flow_defs.specs.Program.{program_of}
use Rattle.machine_defs.specs.IsProgram.{IsProgram}
use Rattle.machine_defs.specs.Program.{Program}
use Rattle.entry_rules.specs.ObjectFacts.{facts_of}
use Rattle.entry_rules.proofs.AskedRules.{all_asked}
use Rattle.entry_rules.proofs.ObjectPlaces.{arrives_at_places}
use Rattle.entry_rules.proofs.RuleWarnings.{all_warned, none_is_clean}
use Rattle.entry_rules.proofs.entry_check.check.Goals as goal

pub returns-clause-warnings : goal.returns-clause-warnings
returns-clause-warnings c lists tells =
    let o : Coded = c.args.linked.now in
    let p : Program = program_of o lists in
    let is : IsProgram p = c.program_is_one.ensures o lists c.object_is_in_order.ensures in
    let sorted : List Warning = c.sort_warnings.new.warnings.items in
    record {
      ascend = c.sort_warnings.ensures.ascending;
      all = all_warned p (facts_of o) c.args.options sorted is
          (all_asked p (facts_of o) c.args.options c.new-warnings.result.items c.push_noinstr.new.into.items c.push_sls.new.into.items c.push_ibt.new.into.items sorted c.new-warnings.ensures.items
          (c.in_ok-push_noinstr.ensures lists tells) (c.in_ok-push_sls.ensures lists tells) (c.in_ok-push_ibt.ensures lists tells) c.sort_warnings.ensures.members);
    }

pub returns-clause-promises : goal.returns-clause-promises
returns-clause-promises c empty lists tells =
    let o : Coded = c.args.linked.now in
    let p : Program = program_of o lists in
    let is : IsProgram p = c.program_is_one.ensures o lists c.object_is_in_order.ensures in
    let sorted : List Warning = c.sort_warnings.new.warnings.items in
    c.rules_are_kept.ensures p (facts_of o) c.args.options is (arrives_at_places o lists)
    (none_is_clean p (facts_of o) c.args.options sorted empty (returns-clause-warnings c lists tells).all)
