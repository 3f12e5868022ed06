use Rattle.command_base.specs.declared.reading.TheConstants.{MAX_IMAGE_BYTES}
use Rattle.command_base.specs.Unwind.{no_file, no_text, read}
use Rattle.command_base.proofs.UnwindLaws.{unwind_left, unwound}
use Rattle.command_base.proofs.UnwindLemmas.{may_second, read_second, unwound_as}
use Rattle.command_base.proofs.unwinding.unwind.Goals as goal

pub returns-in-Err-clause-ends : goal.returns-in-Err-clause-ends
returns-in-Err-clause-ends g c = no_file c.in-Err.stop c.in-Err.ensures.stopped c.conclude.ensures.concluded

pub returns-in-Ok-read_file-clause-ends : goal.returns-in-Ok-read_file-clause-ends
returns-in-Ok-read_file-clause-ends g c =
    read c.in-Ok.bytes.items c.in-Ok-read_file.text.items c.in-Ok.ensures.ok (may_second MAX_IMAGE_BYTES c.args.image.now c.in-Ok-read_file.text.items _ _ c.read_file.ensures.unchanged c.in-Ok-read_file.ensures.ok)
    (unwound_as _ _ _ _ _ _ _ c.as_slice.ensures.value c.as_slice-in-Ok-read_file.ensures.value c.unwind_bytes.ensures.ends)

pub returns-clause-ends : goal.returns-clause-ends
returns-clause-ends g c =
    no_text c.in-Ok.bytes.items c.in-Err-read_file.stop c.in-Ok.ensures.ok
    (read_second MAX_IMAGE_BYTES c.in-Err-read_file.stop c.args.image.now _ _ _ _ (record { content = g.F.Files.content c.read_file-2.new.files; faults = g.F.Files.faults c.read_file-2.new.files }) c.read_file.ensures.unchanged c.read_file.ensures.later c.in-Err-read_file.ensures.stopped)
    c.conclude-in-Err-read_file.ensures.concluded

pub returns-in-Err-clause-unwound : goal.returns-in-Err-clause-unwound
returns-in-Err-clause-unwound g c e = unwound c.args.file.now c.args.image.now (record { content = g.F.Files.content c.args.files.now; faults = g.F.Files.faults c.args.files.now }) (record { content = g.F.Files.content c.read_file.new.files; faults = g.F.Files.faults c.read_file.new.files }) _ _ _ (returns-in-Err-clause-ends g c) e

pub returns-in-Err-clause-accepts : goal.returns-in-Err-clause-accepts
returns-in-Err-clause-accepts g c bytes text stack object rows held told is said placed = unwind_left c.args.file.now c.args.image.now bytes text stack object rows held (record { content = g.F.Files.content c.args.files.now; faults = g.F.Files.faults c.args.files.now }) (record { content = g.F.Files.content c.read_file.new.files; faults = g.F.Files.faults c.read_file.new.files }) _ _ _ told is said placed (returns-in-Err-clause-ends g c)

pub returns-in-Ok-read_file-clause-unwound : goal.returns-in-Ok-read_file-clause-unwound
returns-in-Ok-read_file-clause-unwound g c e = unwound c.args.file.now c.args.image.now (record { content = g.F.Files.content c.args.files.now; faults = g.F.Files.faults c.args.files.now }) (record { content = g.F.Files.content c.read_file-2.new.files; faults = g.F.Files.faults c.read_file-2.new.files }) _ _ _ (returns-in-Ok-read_file-clause-ends g c) e

pub returns-in-Ok-read_file-clause-accepts : goal.returns-in-Ok-read_file-clause-accepts
returns-in-Ok-read_file-clause-accepts g c bytes text stack object rows held told is said placed = unwind_left c.args.file.now c.args.image.now bytes text stack object rows held (record { content = g.F.Files.content c.args.files.now; faults = g.F.Files.faults c.args.files.now }) (record { content = g.F.Files.content c.read_file-2.new.files; faults = g.F.Files.faults c.read_file-2.new.files }) _ _ _ told is said placed (returns-in-Ok-read_file-clause-ends g c)

pub returns-clause-unwound : goal.returns-clause-unwound
returns-clause-unwound g c e = unwound c.args.file.now c.args.image.now (record { content = g.F.Files.content c.args.files.now; faults = g.F.Files.faults c.args.files.now }) (record { content = g.F.Files.content c.read_file-2.new.files; faults = g.F.Files.faults c.read_file-2.new.files }) _ _ _ (returns-clause-ends g c) e

pub returns-clause-accepts : goal.returns-clause-accepts
returns-clause-accepts g c bytes text stack object rows held told is said placed = unwind_left c.args.file.now c.args.image.now bytes text stack object rows held (record { content = g.F.Files.content c.args.files.now; faults = g.F.Files.faults c.args.files.now }) (record { content = g.F.Files.content c.read_file-2.new.files; faults = g.F.Files.faults c.read_file-2.new.files }) _ _ _ told is said placed (returns-clause-ends g c)
