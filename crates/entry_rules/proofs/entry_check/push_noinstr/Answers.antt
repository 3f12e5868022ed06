use Rattle.std.proofs.Common.{◌∙◌, Bool, List, sym, ap, subst}
use Rattle.std.proofs.lemmas.Result.{on_ok_weaker}
use Rattle.elf_objects.specs.Contents.{section_at}
use Rattle.elf_objects.specs.Elf.{Elf}
use Rattle.flow_defs.specs.Coded.{Coded}
use Rattle.flow_defs.specs.Program.{program_of}
use Rattle.machine_defs.specs.Program.{Program}
use Rattle.entry_rules.specs.Facts.{EntryFacts}
use Rattle.entry_rules.specs.ObjectFacts.{facts_of, is_noinstr_section}
use Rattle.entry_rules.specs.PointWarns.{LeavingWarns}
use Rattle.entry_rules.specs.Table.{Knows, TellsNoinstr}
use Rattle.entry_rules.proofs.AskedRules.{asked_for, unasked}
use Rattle.entry_rules.proofs.entry_check.push_noinstr.Goals as goal

pub returns : goal.returns
unfolding facts_of
returns c = on_ok_weaker c.push_leaving.result (λ h lists tells.
    let o : Coded = c.args.linked.now in
    let p : Program = program_of o lists in
    let facts : EntryFacts = facts_of o in
    let flags : List Bool = c.deref.result.now in
    let told : TellsNoinstr facts flags =
    subst (TellsNoinstr facts) (sym c.deref.ensures.value) (λ sec. sym (c.in_ok-flags.ensures sec ∙ ap (λ (e : Elf). is_noinstr_section (section_at e sec)) c.object.ensures)) in
    let knows : Knows p facts c.args.graph.now.parts flags = record {
      tells = tells;
      is_program = c.program_is_one.ensures o lists c.object_is_in_order.ensures;
      functions = c.program_has_functions.ensures o lists;
      noinstr = told;
    } in
    asked_for c.args.options.noinstr c.args.into.now.items c.push_leaving.new.into.items (LeavingWarns p facts) c.if-not-options.false (h p facts knows)) c.push_leaving.ensures

pub returns-then-not-options : goal.returns-then-not-options
returns-then-not-options c lists tells = unasked c.args.options.noinstr c.args.into.now.items (LeavingWarns (program_of c.args.linked.now lists) (facts_of c.args.linked.now)) c.if-not-options.true
