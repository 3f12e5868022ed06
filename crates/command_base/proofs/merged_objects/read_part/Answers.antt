use Rattle.std.proofs.lemmas.Result.{IfErr-weaker}
use Rattle.orc_merge.specs.LayoutReading.{file_of}
use Rattle.command_base.specs.declared.stop.CommandStop.{CommandStop}
use Rattle.command_base.specs.MergedObjects.{HasNoPart, IsNoPart}
use Rattle.command_base.proofs.ObjectLemmas.{part_missing, part_unread}
use Rattle.command_base.proofs.merged_objects.read_part.Goals as goal

pub returns-in-Ok-clause-none : goal.returns-in-Ok-clause-none
returns-in-Ok-clause-none g c =
    IfErr-weaker c.part_of.result (IsNoPart c.as_slice.result.now c.as_slice-in-Ok.result.now) (HasNoPart (file_of c.args.file.now) (record { content = g.F.Files.content c.args.files.now; faults = g.F.Files.faults c.args.files.now }) (record { content = g.F.Files.content c.read_file.new.files; faults = g.F.Files.faults c.read_file.new.files }))
    (λ (s : CommandStop) h.
    part_missing (g.F.Files.content c.args.files.now) (g.F.Files.faults c.args.files.now) (record { content = g.F.Files.content c.read_file.new.files; faults = g.F.Files.faults c.read_file.new.files }) (file_of c.args.file.now) c.as_str.result.now c.in-Ok.bytes.items
    c.as_slice.result.now c.as_slice-in-Ok.result.now s c.as_str.ensures.value c.as_slice.ensures.value c.as_slice-in-Ok.ensures.value c.in-Ok.ensures.ok h)
    c.part_of.ensures.none

pub returns-in-Err-clause-none : goal.returns-in-Err-clause-none
returns-in-Err-clause-none g c =
    part_unread (g.F.Files.content c.args.files.now) (g.F.Files.faults c.args.files.now) (record { content = g.F.Files.content c.read_file.new.files; faults = g.F.Files.faults c.read_file.new.files }) (file_of c.args.file.now) c.as_str.result.now c.in-Err.stop c.as_str.ensures.value
    c.in-Err.ensures.stopped
