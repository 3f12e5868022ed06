use Rattle.std.proofs.Common.{refl, subst}
use Rattle.std.specs.Prelude.{Option}
use Rattle.ot_files.specs.Content.{Content}
use Rattle.command_base.specs.declared.status.Status.TheVariants as status
use Rattle.command_base.specs.Merge.{WritesMerged, at_layout, behind_layout, done, stopped}
use Rattle.command_base.proofs.MergeLaws.{behind_earlier, finds_alike, is_merged, merge_changes, merge_file_fault, merge_left, merge_refused, merge_sink_fault, merge_told, merge_unchanged, merged, merged_silently, walks_alike}
use Rattle.command_base.proofs.merging.merge.Goals as goal

pub returns-in-Err-clause-ends : goal.returns-in-Err-clause-ends
returns-in-Err-clause-ends g c = stopped c.in-Err.stop (at_layout c.in-Err.ensures.stopped c.read_layout.ensures.unchanged) c.conclude.ensures.concluded

pub returns-in-Ok-write_merged-clause-ends : goal.returns-in-Ok-write_merged-clause-ends
returns-in-Ok-write_merged-clause-ends g c =
    done
    (is_merged c.args.layout.now c.args.output.now (g.F.Files.content c.args.files.now) (g.F.Files.content c.write_merged.new.files) c.in-Ok.layout c.in-Ok.ensures.layout
    (subst (λ (content : Option Content). WritesMerged c.in-Ok.layout c.args.output.now content (g.F.Files.content c.write_merged.new.files)) c.read_layout.ensures.unchanged c.in-Ok-write_merged.ensures.written))
    refl

pub returns-clause-ends : goal.returns-clause-ends
returns-clause-ends g c =
    stopped c.in-Err-write_merged.stop
    (behind_layout c.in-Ok.layout c.in-Ok.ensures.layout
    (behind_earlier c.in-Ok.layout c.args.output.now (g.F.Files.content c.args.files.now) (g.F.Files.content c.read_layout.new.files) (g.F.Files.faults c.args.files.now) (g.F.Files.faults c.read_layout.new.files) (record { content = g.F.Files.content c.write_merged.new.files; faults = g.F.Files.faults c.write_merged.new.files }) c.in-Err-write_merged.stop c.read_layout.ensures.unchanged
    c.read_layout.ensures.later c.in-Err-write_merged.ensures.stopped))
    c.conclude-in-Err-write_merged.ensures.concluded

pub returns-in-Err-clause-merged : goal.returns-in-Err-clause-merged
returns-in-Err-clause-merged g c e = merged c.args.layout.now c.args.output.now (record { content = g.F.Files.content c.args.files.now; faults = g.F.Files.faults c.args.files.now }) (record { content = g.F.Files.content c.read_layout.new.files; faults = g.F.Files.faults c.read_layout.new.files }) (record { written = g.S.Sink.written c.args.out.now; faults = g.S.Sink.faults c.args.out.now }) (record { written = g.S.Sink.written c.conclude.new.out; faults = g.S.Sink.faults c.conclude.new.out }) c.conclude.result (returns-in-Err-clause-ends g c) e

pub returns-in-Err-clause-finds : goal.returns-in-Err-clause-finds
returns-in-Err-clause-finds g c before after said parts table e was now names are holds = finds_alike c.args.layout.now c.args.output.now table (g.F.Files.content c.args.files.now) (g.F.Files.content c.read_layout.new.files) before after said parts (merged c.args.layout.now c.args.output.now (record { content = g.F.Files.content c.args.files.now; faults = g.F.Files.faults c.args.files.now }) (record { content = g.F.Files.content c.read_layout.new.files; faults = g.F.Files.faults c.read_layout.new.files }) (record { written = g.S.Sink.written c.args.out.now; faults = g.S.Sink.faults c.args.out.now }) (record { written = g.S.Sink.written c.conclude.new.out; faults = g.S.Sink.faults c.conclude.new.out }) c.conclude.result (returns-in-Err-clause-ends g c) e) was now names are holds

pub returns-in-Err-clause-walks : goal.returns-in-Err-clause-walks
returns-in-Err-clause-walks g c before after said parts table e was now names are holds = walks_alike c.args.layout.now c.args.output.now table (g.F.Files.content c.args.files.now) (g.F.Files.content c.read_layout.new.files) before after said parts (merged c.args.layout.now c.args.output.now (record { content = g.F.Files.content c.args.files.now; faults = g.F.Files.faults c.args.files.now }) (record { content = g.F.Files.content c.read_layout.new.files; faults = g.F.Files.faults c.read_layout.new.files }) (record { written = g.S.Sink.written c.args.out.now; faults = g.S.Sink.faults c.args.out.now }) (record { written = g.S.Sink.written c.conclude.new.out; faults = g.S.Sink.faults c.conclude.new.out }) c.conclude.result (returns-in-Err-clause-ends g c) e) was now names are holds

pub returns-in-Err-clause-accepts : goal.returns-in-Err-clause-accepts
returns-in-Err-clause-accepts g c held said parts told names are fits = merge_left c.args.layout.now c.args.output.now said parts held (record { content = g.F.Files.content c.args.files.now; faults = g.F.Files.faults c.args.files.now }) (record { content = g.F.Files.content c.read_layout.new.files; faults = g.F.Files.faults c.read_layout.new.files }) (record { written = g.S.Sink.written c.args.out.now; faults = g.S.Sink.faults c.args.out.now }) (record { written = g.S.Sink.written c.conclude.new.out; faults = g.S.Sink.faults c.conclude.new.out }) c.conclude.result told names are fits (returns-in-Err-clause-ends g c)

pub returns-in-Err-clause-refused : goal.returns-in-Err-clause-refused
returns-in-Err-clause-refused g c held e told = merge_told c.args.layout.now c.args.output.now held (record { content = g.F.Files.content c.args.files.now; faults = g.F.Files.faults c.args.files.now }) (record { content = g.F.Files.content c.read_layout.new.files; faults = g.F.Files.faults c.read_layout.new.files }) (record { written = g.S.Sink.written c.args.out.now; faults = g.S.Sink.faults c.args.out.now }) (record { written = g.S.Sink.written c.conclude.new.out; faults = g.S.Sink.faults c.conclude.new.out }) c.conclude.result told (returns-in-Err-clause-ends g c) e

pub returns-in-Err-clause-refuses : goal.returns-in-Err-clause-refuses
returns-in-Err-clause-refuses g c held stop told why = merge_refused c.args.layout.now c.args.output.now held (record { content = g.F.Files.content c.args.files.now; faults = g.F.Files.faults c.args.files.now }) (record { content = g.F.Files.content c.read_layout.new.files; faults = g.F.Files.faults c.read_layout.new.files }) (record { written = g.S.Sink.written c.args.out.now; faults = g.S.Sink.faults c.args.out.now }) (record { written = g.S.Sink.written c.conclude.new.out; faults = g.S.Sink.faults c.conclude.new.out }) c.conclude.result stop (returns-in-Err-clause-ends g c) told why

pub returns-in-Err-clause-silent : goal.returns-in-Err-clause-silent
returns-in-Err-clause-silent g c e = merged_silently c.args.layout.now c.args.output.now (record { content = g.F.Files.content c.args.files.now; faults = g.F.Files.faults c.args.files.now }) (record { content = g.F.Files.content c.read_layout.new.files; faults = g.F.Files.faults c.read_layout.new.files }) (record { written = g.S.Sink.written c.args.out.now; faults = g.S.Sink.faults c.args.out.now }) (record { written = g.S.Sink.written c.conclude.new.out; faults = g.S.Sink.faults c.conclude.new.out }) c.conclude.result (returns-in-Err-clause-ends g c) e

pub returns-in-Err-clause-file_fault : goal.returns-in-Err-clause-file_fault
returns-in-Err-clause-file_fault g c e = merge_file_fault c.args.layout.now c.args.output.now (record { content = g.F.Files.content c.args.files.now; faults = g.F.Files.faults c.args.files.now }) (record { content = g.F.Files.content c.read_layout.new.files; faults = g.F.Files.faults c.read_layout.new.files }) (record { written = g.S.Sink.written c.args.out.now; faults = g.S.Sink.faults c.args.out.now }) (record { written = g.S.Sink.written c.conclude.new.out; faults = g.S.Sink.faults c.conclude.new.out }) c.conclude.result (returns-in-Err-clause-ends g c) e

pub returns-in-Err-clause-sink_fault : goal.returns-in-Err-clause-sink_fault
returns-in-Err-clause-sink_fault g c e = merge_sink_fault c.args.layout.now c.args.output.now (record { content = g.F.Files.content c.args.files.now; faults = g.F.Files.faults c.args.files.now }) (record { content = g.F.Files.content c.read_layout.new.files; faults = g.F.Files.faults c.read_layout.new.files }) (record { written = g.S.Sink.written c.args.out.now; faults = g.S.Sink.faults c.args.out.now }) (record { written = g.S.Sink.written c.conclude.new.out; faults = g.S.Sink.faults c.conclude.new.out }) c.conclude.result (returns-in-Err-clause-ends g c) e

pub returns-in-Ok-write_merged-clause-merged : goal.returns-in-Ok-write_merged-clause-merged
returns-in-Ok-write_merged-clause-merged g c e = merged c.args.layout.now c.args.output.now (record { content = g.F.Files.content c.args.files.now; faults = g.F.Files.faults c.args.files.now }) (record { content = g.F.Files.content c.write_merged.new.files; faults = g.F.Files.faults c.write_merged.new.files }) (record { written = g.S.Sink.written c.args.out.now; faults = g.S.Sink.faults c.args.out.now }) (record { written = g.S.Sink.written c.args.out.now; faults = g.S.Sink.faults c.args.out.now }) status.Done (returns-in-Ok-write_merged-clause-ends g c) e

pub returns-in-Ok-write_merged-clause-finds : goal.returns-in-Ok-write_merged-clause-finds
returns-in-Ok-write_merged-clause-finds g c before after said parts table e was now names are holds = finds_alike c.args.layout.now c.args.output.now table (g.F.Files.content c.args.files.now) (g.F.Files.content c.write_merged.new.files) before after said parts (merged c.args.layout.now c.args.output.now (record { content = g.F.Files.content c.args.files.now; faults = g.F.Files.faults c.args.files.now }) (record { content = g.F.Files.content c.write_merged.new.files; faults = g.F.Files.faults c.write_merged.new.files }) (record { written = g.S.Sink.written c.args.out.now; faults = g.S.Sink.faults c.args.out.now }) (record { written = g.S.Sink.written c.args.out.now; faults = g.S.Sink.faults c.args.out.now }) status.Done (returns-in-Ok-write_merged-clause-ends g c) e) was now names are holds

pub returns-in-Ok-write_merged-clause-walks : goal.returns-in-Ok-write_merged-clause-walks
returns-in-Ok-write_merged-clause-walks g c before after said parts table e was now names are holds = walks_alike c.args.layout.now c.args.output.now table (g.F.Files.content c.args.files.now) (g.F.Files.content c.write_merged.new.files) before after said parts (merged c.args.layout.now c.args.output.now (record { content = g.F.Files.content c.args.files.now; faults = g.F.Files.faults c.args.files.now }) (record { content = g.F.Files.content c.write_merged.new.files; faults = g.F.Files.faults c.write_merged.new.files }) (record { written = g.S.Sink.written c.args.out.now; faults = g.S.Sink.faults c.args.out.now }) (record { written = g.S.Sink.written c.args.out.now; faults = g.S.Sink.faults c.args.out.now }) status.Done (returns-in-Ok-write_merged-clause-ends g c) e) was now names are holds

pub returns-in-Ok-write_merged-clause-refuses : goal.returns-in-Ok-write_merged-clause-refuses
returns-in-Ok-write_merged-clause-refuses g c held stop told why = merge_refused c.args.layout.now c.args.output.now held (record { content = g.F.Files.content c.args.files.now; faults = g.F.Files.faults c.args.files.now }) (record { content = g.F.Files.content c.write_merged.new.files; faults = g.F.Files.faults c.write_merged.new.files }) (record { written = g.S.Sink.written c.args.out.now; faults = g.S.Sink.faults c.args.out.now }) (record { written = g.S.Sink.written c.args.out.now; faults = g.S.Sink.faults c.args.out.now }) status.Done stop (returns-in-Ok-write_merged-clause-ends g c) told why

pub returns-in-Ok-write_merged-clause-changes : goal.returns-in-Ok-write_merged-clause-changes
returns-in-Ok-write_merged-clause-changes g c = merge_changes c.args.layout.now c.args.output.now (record { content = g.F.Files.content c.args.files.now; faults = g.F.Files.faults c.args.files.now }) (record { content = g.F.Files.content c.write_merged.new.files; faults = g.F.Files.faults c.write_merged.new.files }) (record { written = g.S.Sink.written c.args.out.now; faults = g.S.Sink.faults c.args.out.now }) (record { written = g.S.Sink.written c.args.out.now; faults = g.S.Sink.faults c.args.out.now }) status.Done (returns-in-Ok-write_merged-clause-ends g c)

pub returns-clause-merged : goal.returns-clause-merged
returns-clause-merged g c e = merged c.args.layout.now c.args.output.now (record { content = g.F.Files.content c.args.files.now; faults = g.F.Files.faults c.args.files.now }) (record { content = g.F.Files.content c.write_merged.new.files; faults = g.F.Files.faults c.write_merged.new.files }) (record { written = g.S.Sink.written c.args.out.now; faults = g.S.Sink.faults c.args.out.now }) (record { written = g.S.Sink.written c.conclude-in-Err-write_merged.new.out; faults = g.S.Sink.faults c.conclude-in-Err-write_merged.new.out }) c.conclude-in-Err-write_merged.result (returns-clause-ends g c) e

pub returns-clause-finds : goal.returns-clause-finds
returns-clause-finds g c before after said parts table e was now names are holds = finds_alike c.args.layout.now c.args.output.now table (g.F.Files.content c.args.files.now) (g.F.Files.content c.write_merged.new.files) before after said parts (merged c.args.layout.now c.args.output.now (record { content = g.F.Files.content c.args.files.now; faults = g.F.Files.faults c.args.files.now }) (record { content = g.F.Files.content c.write_merged.new.files; faults = g.F.Files.faults c.write_merged.new.files }) (record { written = g.S.Sink.written c.args.out.now; faults = g.S.Sink.faults c.args.out.now }) (record { written = g.S.Sink.written c.conclude-in-Err-write_merged.new.out; faults = g.S.Sink.faults c.conclude-in-Err-write_merged.new.out }) c.conclude-in-Err-write_merged.result (returns-clause-ends g c) e) was now names are holds

pub returns-clause-walks : goal.returns-clause-walks
returns-clause-walks g c before after said parts table e was now names are holds = walks_alike c.args.layout.now c.args.output.now table (g.F.Files.content c.args.files.now) (g.F.Files.content c.write_merged.new.files) before after said parts (merged c.args.layout.now c.args.output.now (record { content = g.F.Files.content c.args.files.now; faults = g.F.Files.faults c.args.files.now }) (record { content = g.F.Files.content c.write_merged.new.files; faults = g.F.Files.faults c.write_merged.new.files }) (record { written = g.S.Sink.written c.args.out.now; faults = g.S.Sink.faults c.args.out.now }) (record { written = g.S.Sink.written c.conclude-in-Err-write_merged.new.out; faults = g.S.Sink.faults c.conclude-in-Err-write_merged.new.out }) c.conclude-in-Err-write_merged.result (returns-clause-ends g c) e) was now names are holds

pub returns-clause-accepts : goal.returns-clause-accepts
returns-clause-accepts g c held said parts told names are fits = merge_left c.args.layout.now c.args.output.now said parts held (record { content = g.F.Files.content c.args.files.now; faults = g.F.Files.faults c.args.files.now }) (record { content = g.F.Files.content c.write_merged.new.files; faults = g.F.Files.faults c.write_merged.new.files }) (record { written = g.S.Sink.written c.args.out.now; faults = g.S.Sink.faults c.args.out.now }) (record { written = g.S.Sink.written c.conclude-in-Err-write_merged.new.out; faults = g.S.Sink.faults c.conclude-in-Err-write_merged.new.out }) c.conclude-in-Err-write_merged.result told names are fits (returns-clause-ends g c)

pub returns-clause-refused : goal.returns-clause-refused
returns-clause-refused g c held e told = merge_told c.args.layout.now c.args.output.now held (record { content = g.F.Files.content c.args.files.now; faults = g.F.Files.faults c.args.files.now }) (record { content = g.F.Files.content c.write_merged.new.files; faults = g.F.Files.faults c.write_merged.new.files }) (record { written = g.S.Sink.written c.args.out.now; faults = g.S.Sink.faults c.args.out.now }) (record { written = g.S.Sink.written c.conclude-in-Err-write_merged.new.out; faults = g.S.Sink.faults c.conclude-in-Err-write_merged.new.out }) c.conclude-in-Err-write_merged.result told (returns-clause-ends g c) e

pub returns-clause-refuses : goal.returns-clause-refuses
returns-clause-refuses g c held stop told why = merge_refused c.args.layout.now c.args.output.now held (record { content = g.F.Files.content c.args.files.now; faults = g.F.Files.faults c.args.files.now }) (record { content = g.F.Files.content c.write_merged.new.files; faults = g.F.Files.faults c.write_merged.new.files }) (record { written = g.S.Sink.written c.args.out.now; faults = g.S.Sink.faults c.args.out.now }) (record { written = g.S.Sink.written c.conclude-in-Err-write_merged.new.out; faults = g.S.Sink.faults c.conclude-in-Err-write_merged.new.out }) c.conclude-in-Err-write_merged.result stop (returns-clause-ends g c) told why

pub returns-clause-silent : goal.returns-clause-silent
returns-clause-silent g c e = merged_silently c.args.layout.now c.args.output.now (record { content = g.F.Files.content c.args.files.now; faults = g.F.Files.faults c.args.files.now }) (record { content = g.F.Files.content c.write_merged.new.files; faults = g.F.Files.faults c.write_merged.new.files }) (record { written = g.S.Sink.written c.args.out.now; faults = g.S.Sink.faults c.args.out.now }) (record { written = g.S.Sink.written c.conclude-in-Err-write_merged.new.out; faults = g.S.Sink.faults c.conclude-in-Err-write_merged.new.out }) c.conclude-in-Err-write_merged.result (returns-clause-ends g c) e

pub returns-clause-unchanged : goal.returns-clause-unchanged
returns-clause-unchanged g c d f m = merge_unchanged c.args.layout.now c.args.output.now (record { content = g.F.Files.content c.args.files.now; faults = g.F.Files.faults c.args.files.now }) (record { content = g.F.Files.content c.write_merged.new.files; faults = g.F.Files.faults c.write_merged.new.files }) (record { written = g.S.Sink.written c.args.out.now; faults = g.S.Sink.faults c.args.out.now }) (record { written = g.S.Sink.written c.conclude-in-Err-write_merged.new.out; faults = g.S.Sink.faults c.conclude-in-Err-write_merged.new.out }) c.conclude-in-Err-write_merged.result (returns-clause-ends g c) d f m

pub returns-clause-changes : goal.returns-clause-changes
returns-clause-changes g c = merge_changes c.args.layout.now c.args.output.now (record { content = g.F.Files.content c.args.files.now; faults = g.F.Files.faults c.args.files.now }) (record { content = g.F.Files.content c.write_merged.new.files; faults = g.F.Files.faults c.write_merged.new.files }) (record { written = g.S.Sink.written c.args.out.now; faults = g.S.Sink.faults c.args.out.now }) (record { written = g.S.Sink.written c.conclude-in-Err-write_merged.new.out; faults = g.S.Sink.faults c.conclude-in-Err-write_merged.new.out }) c.conclude-in-Err-write_merged.result (returns-clause-ends g c)

pub returns-clause-file_fault : goal.returns-clause-file_fault
returns-clause-file_fault g c e = merge_file_fault c.args.layout.now c.args.output.now (record { content = g.F.Files.content c.args.files.now; faults = g.F.Files.faults c.args.files.now }) (record { content = g.F.Files.content c.write_merged.new.files; faults = g.F.Files.faults c.write_merged.new.files }) (record { written = g.S.Sink.written c.args.out.now; faults = g.S.Sink.faults c.args.out.now }) (record { written = g.S.Sink.written c.conclude-in-Err-write_merged.new.out; faults = g.S.Sink.faults c.conclude-in-Err-write_merged.new.out }) c.conclude-in-Err-write_merged.result (returns-clause-ends g c) e

pub returns-clause-sink_fault : goal.returns-clause-sink_fault
returns-clause-sink_fault g c e = merge_sink_fault c.args.layout.now c.args.output.now (record { content = g.F.Files.content c.args.files.now; faults = g.F.Files.faults c.args.files.now }) (record { content = g.F.Files.content c.write_merged.new.files; faults = g.F.Files.faults c.write_merged.new.files }) (record { written = g.S.Sink.written c.args.out.now; faults = g.S.Sink.faults c.args.out.now }) (record { written = g.S.Sink.written c.conclude-in-Err-write_merged.new.out; faults = g.S.Sink.faults c.conclude-in-Err-write_merged.new.out }) c.conclude-in-Err-write_merged.result (returns-clause-ends g c) e
