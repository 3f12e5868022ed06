use Rattle.std.proofs.Common.{List, sym, ap, ◌∙◌, length, subst}
use Rattle.std.proofs.lemmas.Result.{on_ok_weaker}
use Rattle.elf_objects.specs.Elf.{Elf}
use Rattle.flow_defs.specs.Code.{points_of_object}
use Rattle.flow_defs.specs.Coded.{Coded}
use Rattle.flow_defs.specs.Program.{program_of}
use Rattle.object_points.specs.Places.{HaveSamePlaces}
use Rattle.program_graph.specs.Tells.{Tells}
use Rattle.stack_rules.specs.Gains.{Gains}
use Rattle.entry_rules.specs.ObjectFacts.{facts_of}
use Rattle.entry_rules.specs.PointWarns.{TakenWarns}
use Rattle.taken_places.specs.Taken.{excused_places, taken_places}
use Rattle.entry_rules.proofs.AskedRules.{asked_for, points_listed, unasked}
use Rattle.entry_rules.proofs.entry_check.push_ibt.Goals as goal

pub push_taken-requires-clause-listed : goal.push_taken-requires-clause-listed
push_taken-requires-clause-listed c = points_listed c.args.linked.now c.args.graph.now.parts c.requires ∙ ap (λ (o : Coded). length (points_of_object o)) (sym c.in_ok-places.ensures)

pub push_taken-requires-clause-taken : goal.push_taken-requires-clause-taken
push_taken-requires-clause-taken c = subst (λ (o : Coded). HaveSamePlaces (taken_places o) c.in_ok-taken.taken) (sym c.in_ok-places.ensures) c.in_ok-taken.ensures

pub push_taken-requires-clause-excused : goal.push_taken-requires-clause-excused
push_taken-requires-clause-excused c =
    subst (λ (e : Elf). HaveSamePlaces (excused_places e) c.in_ok-excused.excused) (c.object.ensures ∙ ap (λ (o : Coded). o.elf) (sym c.in_ok-places.ensures)) c.in_ok-excused.ensures

pub returns : goal.returns
returns c = on_ok_weaker c.push_taken.result (λ h lists tells.
    let o : Coded = c.args.linked.now in
    let old : List _ = c.args.into.now.items in
    let new : List _ = c.push_taken.new.into.items in
    let gains : Gains old new (TakenWarns (program_of o lists) (facts_of o)) =
    subst (λ (x : Coded). Tells (program_of x lists) c.args.graph.now.parts → Gains old new (TakenWarns (program_of x lists) (facts_of x))) c.in_ok-places.ensures (h lists) tells in
    asked_for c.args.options.ibt old new (TakenWarns (program_of o lists) (facts_of o)) c.if-not-options.false gains) c.push_taken.ensures

pub returns-then-not-options : goal.returns-then-not-options
returns-then-not-options c lists tells = unasked c.args.options.ibt c.args.into.now.items (TakenWarns (program_of c.args.linked.now lists) (facts_of c.args.linked.now)) c.if-not-options.true
