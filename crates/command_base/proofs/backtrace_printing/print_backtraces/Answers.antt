use Rattle.std.proofs.Common.{refl, sym, subst, length}
use Rattle.std.specs.Prelude.{All}
use Rattle.kept_states.specs.LevelStates.{at}
use Rattle.command_base.specs.declared.status.Status.TheVariants as status
use Rattle.command_base.specs.Printing.{Prints}
use Rattle.command_base.specs.BacktraceCases.{cases_text}
use Rattle.command_base.specs.BacktracePrinting.{silent}
use Rattle.command_base.specs.BacktraceWithin.{IsCaseWithin}
use Rattle.command_base.proofs.PrintingLemmas.{cases_told, ready_cases, ready_steps}
use Rattle.command_base.proofs.backtrace_printing.print_backtraces.Goals as goal

pub print_cases-requires-clause-steps : goal.print_cases-requires-clause-steps
print_cases-requires-clause-steps g c =
    let p = c.requires.warned.0 in
    let w = c.requires.warned.1 in
    ready_steps p c.args.graph.now.parts c.args.kept.now _ c.args.warnings.now c.requires.points c.in-Ok-find_ways.ensures.points w (c.in-Ok-find_ways.ensures.ways p w.tells w.is_program w.kept)

pub print_cases-requires-clause-cases : goal.print_cases-requires-clause-cases
print_cases-requires-clause-cases g c =
    let p = c.requires.warned.0 in
    let w = c.requires.warned.1 in
    subst (All (IsCaseWithin (length c.args.graph.now.parts.points.items))) (sym c.deref.ensures.value)
    (ready_cases p c.args.graph.now.parts c.args.kept.now _ c.args.warnings.now c.requires.points c.in-Ok-find_ways.ensures.points w c.in-Ok-find_cases.cases.items (c.in-Ok-find_ways.ensures.ways p w.tells w.is_program w.kept) (c.in-Ok-find_cases.ensures.cases p w))

pub returns-in-Err-clause-printed : goal.returns-in-Err-clause-printed
returns-in-Err-clause-printed g c p w = silent refl

pub returns-in-Err-find_ways-clause-printed : goal.returns-in-Err-find_ways-clause-printed
returns-in-Err-find_ways-clause-printed g c p w = silent refl

pub returns-clause-printed : goal.returns-clause-printed
returns-clause-printed g c p w = silent refl

pub returns-in-Ok-find_cases-clause-printed : goal.returns-in-Ok-find_cases-clause-printed
returns-in-Ok-find_cases-clause-printed g c p w =
    cases_told p c.args.graph.now.parts c.args.kept.now _ c.args.warnings.now c.requires.points c.in-Ok-find_ways.ensures.points w c.args.object.now c.args.input.now c.in-Ok-find_cases.cases.items (record { written = g.S.Sink.written c.args.out.now; faults = g.S.Sink.faults c.args.out.now }) (record { written = g.S.Sink.written c.print_cases.new.out; faults = g.S.Sink.faults c.print_cases.new.out }) c.print_cases.result
    (c.in-Ok-find_ways.ensures.ways p w.tells w.is_program w.kept) c.in-Ok-find_cases.ensures.warnings (c.in-Ok-find_cases.ensures.cases p w)
    (subst (λ cases. Prints status.Warnings (cases_text c.args.object.now c.args.input.now p (at c.args.kept.now) c.in-Ok-find_ways.ways cases) (record { written = g.S.Sink.written c.args.out.now; faults = g.S.Sink.faults c.args.out.now }) (record { written = g.S.Sink.written c.print_cases.new.out; faults = g.S.Sink.faults c.print_cases.new.out }) c.print_cases.result) c.deref.ensures.value (c.print_cases.ensures.printed p w.tells))
