use Rattle.std.proofs.Common.{List, subst, sym}
use Rattle.std.specs.Prelude.{Option}
use Rattle.ot_files.specs.Content.{Content, ChangesAtMost}
use Rattle.orc_merge.specs.declared.part.Part.{Part}
use Rattle.command_base.specs.Writing.{StopsAtWrite}
use Rattle.command_base.specs.declared.stop.CommandStop.{CommandStop}
use Rattle.command_base.specs.Merge.{HasNoTable, IsTableOf, StopsBehindLayout, unwritten, without_part, without_table}
use Rattle.command_base.specs.MergedObjects.{ArePartsOf}
use Rattle.command_base.proofs.MergeLaws.{behind_earlier, write_stops}
use Rattle.command_base.proofs.merging.write_merged.Goals as goal

pub returns-in-Err-clause-stopped : goal.returns-in-Err-clause-stopped
returns-in-Err-clause-stopped g c = without_part c.in-Err.ensures.stopped c.parts_of.ensures.unchanged

pub returns-in-Ok-table_of-clause-stopped : goal.returns-in-Ok-table_of-clause-stopped
returns-in-Ok-table_of-clause-stopped g c =
    write_stops c.write_file.result (StopsAtWrite c.args.output.now (record { content = g.F.Files.content c.parts_of.new.files; faults = g.F.Files.faults c.parts_of.new.files }) (record { content = g.F.Files.content c.write_file.new.files; faults = g.F.Files.faults c.write_file.new.files })) (StopsBehindLayout c.args.layout.now c.args.output.now (record { content = g.F.Files.content c.args.files.now; faults = g.F.Files.faults c.args.files.now }) (record { content = g.F.Files.content c.write_file.new.files; faults = g.F.Files.faults c.write_file.new.files }))
    (ChangesAtMost c.args.output.now (g.F.Files.content c.parts_of.new.files) (g.F.Files.content c.write_file.new.files))
    (λ (s : CommandStop) h others.
    behind_earlier c.args.layout.now c.args.output.now (g.F.Files.content c.args.files.now) (g.F.Files.content c.parts_of.new.files) (g.F.Files.faults c.args.files.now) (g.F.Files.faults c.parts_of.new.files) (record { content = g.F.Files.content c.write_file.new.files; faults = g.F.Files.faults c.write_file.new.files }) s c.parts_of.ensures.unchanged c.parts_of.ensures.later
    (unwritten c.in-Ok.parts.items c.in-Ok-table_of.table.items (subst (λ (content : Option Content). ArePartsOf content c.args.layout.now c.in-Ok.parts.items) (sym c.parts_of.ensures.unchanged) c.in-Ok.ensures.parts)
    (subst (λ (parts : List Part). IsTableOf parts c.in-Ok-table_of.table.items) c.deref.ensures.value c.in-Ok-table_of.ensures.table) h others))
    c.write_file.ensures.stopped c.write_file.ensures.others

pub returns-clause-stopped : goal.returns-clause-stopped
returns-clause-stopped g c =
    without_table c.in-Ok.parts.items c.in-Ok.ensures.parts (subst (λ (parts : List Part). HasNoTable parts c.in-Err-table_of.stop) c.deref.ensures.value c.in-Err-table_of.ensures.none) c.parts_of.ensures.unchanged
