use Rattle.std.proofs.lemmas.Result.{on_ok_weaker}
use Rattle.flow_defs.specs.Program.{program_of}
use Rattle.entry_rules.specs.PointWarns.{BareWarns}
use Rattle.entry_rules.proofs.AskedRules.{asked_for, points_listed, unasked}
use Rattle.entry_rules.proofs.entry_check.push_sls.Goals as goal

pub push_bare-requires : goal.push_bare-requires
push_bare-requires c = points_listed c.args.linked.now c.args.graph.now.parts c.requires

pub returns : goal.returns
returns c = on_ok_weaker c.push_bare.result (λ h lists tells.
    asked_for c.args.options.sls c.args.into.now.items c.push_bare.new.into.items (BareWarns (program_of c.args.linked.now lists)) c.if-not-options.false (h lists tells)) c.push_bare.ensures

pub returns-then-not-options : goal.returns-then-not-options
returns-then-not-options c lists tells = unasked c.args.options.sls c.args.into.now.items (BareWarns (program_of c.args.linked.now lists)) c.if-not-options.true
