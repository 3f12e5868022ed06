use Rattle.std.proofs.Common.{ℕ, List, subst}
use Rattle.std.proofs.lemmas.Result.{IfErr-weaker}
use Rattle.command_base.specs.declared.stop.CommandStop.{CommandStop}
use Rattle.command_base.specs.Layouts.{NamesNoFiles, StopsAtLayout, no_files, unread}
use Rattle.command_base.proofs.layouts.read_layout.Goals as goal

pub returns-in-Ok-clause-stopped : goal.returns-in-Ok-clause-stopped
returns-in-Ok-clause-stopped g c =
    IfErr-weaker c.layout_of.result (NamesNoFiles c.as_slice.result.now) (StopsAtLayout c.args.name.now (record { content = g.F.Files.content c.args.files.now; faults = g.F.Files.faults c.args.files.now }) (record { content = g.F.Files.content c.read_file.new.files; faults = g.F.Files.faults c.read_file.new.files }))
    (λ (s : CommandStop) h. no_files c.in-Ok.text.items c.in-Ok.ensures.ok (subst (λ (text : List ℕ). NamesNoFiles text s) c.as_slice.ensures.value h)) c.layout_of.ensures.stopped

pub returns-in-Err-clause-stopped : goal.returns-in-Err-clause-stopped
returns-in-Err-clause-stopped g c = unread c.in-Err.ensures.stopped
