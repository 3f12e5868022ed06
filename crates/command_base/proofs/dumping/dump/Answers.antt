use Rattle.command_base.specs.Dump.{read, unread}
use Rattle.command_base.proofs.DumpLaws.{dump_left, dumped}
use Rattle.command_base.proofs.DumpLemmas.{dumped_as}
use Rattle.command_base.proofs.dumping.dump.Goals as goal

pub returns-in-Ok-clause-ends : goal.returns-in-Ok-clause-ends
returns-in-Ok-clause-ends g c = read c.in-Ok.bytes.items c.in-Ok.ensures.ok (dumped_as _ _ _ _ _ c.as_slice.ensures.value c.dump_bytes.ensures.ends)

pub returns-in-Ok-clause-dumped : goal.returns-in-Ok-clause-dumped
returns-in-Ok-clause-dumped g c e = dumped c.args.file.now (record { content = g.F.Files.content c.args.files.now; faults = g.F.Files.faults c.args.files.now }) (record { content = g.F.Files.content c.read_file.new.files; faults = g.F.Files.faults c.read_file.new.files }) _ _ _ (returns-in-Ok-clause-ends g c) e

pub returns-in-Ok-clause-accepts : goal.returns-in-Ok-clause-accepts
returns-in-Ok-clause-accepts g c bytes object rows held told is holds = dump_left c.args.file.now bytes object rows held _ _ _ _ _ told is holds (returns-in-Ok-clause-ends g c)

pub returns-in-Err-clause-ends : goal.returns-in-Err-clause-ends
returns-in-Err-clause-ends g c = unread c.in-Err.stop c.in-Err.ensures.stopped c.conclude.ensures.concluded

pub returns-in-Err-clause-dumped : goal.returns-in-Err-clause-dumped
returns-in-Err-clause-dumped g c e = dumped c.args.file.now (record { content = g.F.Files.content c.args.files.now; faults = g.F.Files.faults c.args.files.now }) (record { content = g.F.Files.content c.read_file.new.files; faults = g.F.Files.faults c.read_file.new.files }) _ _ _ (returns-in-Err-clause-ends g c) e

pub returns-in-Err-clause-accepts : goal.returns-in-Err-clause-accepts
returns-in-Err-clause-accepts g c bytes object rows held told is holds = dump_left c.args.file.now bytes object rows held _ _ _ _ _ told is holds (returns-in-Err-clause-ends g c)
