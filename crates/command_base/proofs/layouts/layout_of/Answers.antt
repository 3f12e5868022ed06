use Rattle.std.proofs.Common.{sym, subst}
use Rattle.command_base.specs.Layouts.{NamesNoFiles}
use Rattle.command_base.proofs.LayoutLemmas.{few_places, names_too_many, no_layout}
use Rattle.command_base.proofs.layouts.layout_of.Goals as goal

pub returns-in-Err-clause-stopped : goal.returns-in-Err-clause-stopped
returns-in-Err-clause-stopped c = subst (NamesNoFiles c.args.text.now) (sym c.layout_stop.ensures) (no_layout c.args.text.now c.in-Err.fault c.in-Err.ensures.fault)

pub returns-then-count-gt-MOST_FILES-clause-stopped : goal.returns-then-count-gt-MOST_FILES-clause-stopped
returns-then-count-gt-MOST_FILES-clause-stopped c =
    names_too_many c.args.text.now c.in-Ok.layout c.files.result.now c.in-Ok.ensures.grammar c.in-Ok.ensures.files c.files.ensures c.if-count-gt-MOST_FILES.true

pub returns-clause-few : goal.returns-clause-few
returns-clause-few c = few_places c.args.text.now c.in-Ok.layout c.in-Ok.ensures.files c.requires
