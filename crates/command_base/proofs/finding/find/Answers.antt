use Rattle.command_base.specs.Find.{read, unread}
use Rattle.command_base.proofs.FindLaws.{find_fault, find_left, find_refused, find_sink_fault, find_told, found_as, found_row}
use Rattle.command_base.proofs.finding.find.Goals as goal

pub returns-in-Ok-clause-ends : goal.returns-in-Ok-clause-ends
returns-in-Ok-clause-ends g c = read c.in-Ok.bytes.items c.in-Ok.ensures.ok (found_as _ _ _ _ _ _ c.as_slice.ensures.value c.find_bytes.ensures.ends)

pub returns-in-Err-clause-ends : goal.returns-in-Err-clause-ends
returns-in-Err-clause-ends g c = unread c.in-Err.stop c.in-Err.ensures.stopped c.conclude.ensures.concluded

pub returns-in-Ok-clause-found : goal.returns-in-Ok-clause-found
returns-in-Ok-clause-found g c e = found_row c.args.table.now c.args.address (record { content = g.F.Files.content c.args.files.now; faults = g.F.Files.faults c.args.files.now }) (record { content = g.F.Files.content c.read_file.new.files; faults = g.F.Files.faults c.read_file.new.files }) (record { written = g.S.Sink.written c.args.out.now; faults = g.S.Sink.faults c.args.out.now }) (record { written = g.S.Sink.written c.find_bytes.new.out; faults = g.S.Sink.faults c.find_bytes.new.out }) c.find_bytes.result (returns-in-Ok-clause-ends g c) e

pub returns-in-Ok-clause-accepts : goal.returns-in-Ok-clause-accepts
returns-in-Ok-clause-accepts g c bytes rows held told is table written = find_left c.args.table.now c.args.address bytes rows held (record { content = g.F.Files.content c.args.files.now; faults = g.F.Files.faults c.args.files.now }) (record { content = g.F.Files.content c.read_file.new.files; faults = g.F.Files.faults c.read_file.new.files }) (record { written = g.S.Sink.written c.args.out.now; faults = g.S.Sink.faults c.args.out.now }) (record { written = g.S.Sink.written c.find_bytes.new.out; faults = g.S.Sink.faults c.find_bytes.new.out }) c.find_bytes.result told is (record { table = table; written = written }) (returns-in-Ok-clause-ends g c)

pub returns-in-Ok-clause-refused : goal.returns-in-Ok-clause-refused
returns-in-Ok-clause-refused g c held e told = find_told c.args.table.now c.args.address held (record { content = g.F.Files.content c.args.files.now; faults = g.F.Files.faults c.args.files.now }) (record { content = g.F.Files.content c.read_file.new.files; faults = g.F.Files.faults c.read_file.new.files }) (record { written = g.S.Sink.written c.args.out.now; faults = g.S.Sink.faults c.args.out.now }) (record { written = g.S.Sink.written c.find_bytes.new.out; faults = g.S.Sink.faults c.find_bytes.new.out }) c.find_bytes.result told (returns-in-Ok-clause-ends g c) e

pub returns-in-Ok-clause-refuses : goal.returns-in-Ok-clause-refuses
returns-in-Ok-clause-refuses g c held stop told why = find_refused c.args.table.now c.args.address held (record { content = g.F.Files.content c.args.files.now; faults = g.F.Files.faults c.args.files.now }) (record { content = g.F.Files.content c.read_file.new.files; faults = g.F.Files.faults c.read_file.new.files }) (record { written = g.S.Sink.written c.args.out.now; faults = g.S.Sink.faults c.args.out.now }) (record { written = g.S.Sink.written c.find_bytes.new.out; faults = g.S.Sink.faults c.find_bytes.new.out }) c.find_bytes.result stop (returns-in-Ok-clause-ends g c) told why

pub returns-in-Ok-clause-file_fault : goal.returns-in-Ok-clause-file_fault
returns-in-Ok-clause-file_fault g c e = find_fault c.args.table.now c.args.address (record { content = g.F.Files.content c.args.files.now; faults = g.F.Files.faults c.args.files.now }) (record { content = g.F.Files.content c.read_file.new.files; faults = g.F.Files.faults c.read_file.new.files }) (record { written = g.S.Sink.written c.args.out.now; faults = g.S.Sink.faults c.args.out.now }) (record { written = g.S.Sink.written c.find_bytes.new.out; faults = g.S.Sink.faults c.find_bytes.new.out }) c.find_bytes.result (returns-in-Ok-clause-ends g c) e

pub returns-in-Ok-clause-sink_fault : goal.returns-in-Ok-clause-sink_fault
returns-in-Ok-clause-sink_fault g c e = find_sink_fault c.args.table.now c.args.address (record { content = g.F.Files.content c.args.files.now; faults = g.F.Files.faults c.args.files.now }) (record { content = g.F.Files.content c.read_file.new.files; faults = g.F.Files.faults c.read_file.new.files }) (record { written = g.S.Sink.written c.args.out.now; faults = g.S.Sink.faults c.args.out.now }) (record { written = g.S.Sink.written c.find_bytes.new.out; faults = g.S.Sink.faults c.find_bytes.new.out }) c.find_bytes.result (returns-in-Ok-clause-ends g c) e

pub returns-in-Err-clause-found : goal.returns-in-Err-clause-found
returns-in-Err-clause-found g c e = found_row c.args.table.now c.args.address (record { content = g.F.Files.content c.args.files.now; faults = g.F.Files.faults c.args.files.now }) (record { content = g.F.Files.content c.read_file.new.files; faults = g.F.Files.faults c.read_file.new.files }) (record { written = g.S.Sink.written c.args.out.now; faults = g.S.Sink.faults c.args.out.now }) (record { written = g.S.Sink.written c.conclude.new.out; faults = g.S.Sink.faults c.conclude.new.out }) c.conclude.result (returns-in-Err-clause-ends g c) e

pub returns-in-Err-clause-accepts : goal.returns-in-Err-clause-accepts
returns-in-Err-clause-accepts g c bytes rows held told is table written = find_left c.args.table.now c.args.address bytes rows held (record { content = g.F.Files.content c.args.files.now; faults = g.F.Files.faults c.args.files.now }) (record { content = g.F.Files.content c.read_file.new.files; faults = g.F.Files.faults c.read_file.new.files }) (record { written = g.S.Sink.written c.args.out.now; faults = g.S.Sink.faults c.args.out.now }) (record { written = g.S.Sink.written c.conclude.new.out; faults = g.S.Sink.faults c.conclude.new.out }) c.conclude.result told is (record { table = table; written = written }) (returns-in-Err-clause-ends g c)

pub returns-in-Err-clause-refused : goal.returns-in-Err-clause-refused
returns-in-Err-clause-refused g c held e told = find_told c.args.table.now c.args.address held (record { content = g.F.Files.content c.args.files.now; faults = g.F.Files.faults c.args.files.now }) (record { content = g.F.Files.content c.read_file.new.files; faults = g.F.Files.faults c.read_file.new.files }) (record { written = g.S.Sink.written c.args.out.now; faults = g.S.Sink.faults c.args.out.now }) (record { written = g.S.Sink.written c.conclude.new.out; faults = g.S.Sink.faults c.conclude.new.out }) c.conclude.result told (returns-in-Err-clause-ends g c) e

pub returns-in-Err-clause-refuses : goal.returns-in-Err-clause-refuses
returns-in-Err-clause-refuses g c held stop told why = find_refused c.args.table.now c.args.address held (record { content = g.F.Files.content c.args.files.now; faults = g.F.Files.faults c.args.files.now }) (record { content = g.F.Files.content c.read_file.new.files; faults = g.F.Files.faults c.read_file.new.files }) (record { written = g.S.Sink.written c.args.out.now; faults = g.S.Sink.faults c.args.out.now }) (record { written = g.S.Sink.written c.conclude.new.out; faults = g.S.Sink.faults c.conclude.new.out }) c.conclude.result stop (returns-in-Err-clause-ends g c) told why

pub returns-in-Err-clause-file_fault : goal.returns-in-Err-clause-file_fault
returns-in-Err-clause-file_fault g c e = find_fault c.args.table.now c.args.address (record { content = g.F.Files.content c.args.files.now; faults = g.F.Files.faults c.args.files.now }) (record { content = g.F.Files.content c.read_file.new.files; faults = g.F.Files.faults c.read_file.new.files }) (record { written = g.S.Sink.written c.args.out.now; faults = g.S.Sink.faults c.args.out.now }) (record { written = g.S.Sink.written c.conclude.new.out; faults = g.S.Sink.faults c.conclude.new.out }) c.conclude.result (returns-in-Err-clause-ends g c) e

pub returns-in-Err-clause-sink_fault : goal.returns-in-Err-clause-sink_fault
returns-in-Err-clause-sink_fault g c e = find_sink_fault c.args.table.now c.args.address (record { content = g.F.Files.content c.args.files.now; faults = g.F.Files.faults c.args.files.now }) (record { content = g.F.Files.content c.read_file.new.files; faults = g.F.Files.faults c.read_file.new.files }) (record { written = g.S.Sink.written c.args.out.now; faults = g.S.Sink.faults c.args.out.now }) (record { written = g.S.Sink.written c.conclude.new.out; faults = g.S.Sink.faults c.conclude.new.out }) c.conclude.result (returns-in-Err-clause-ends g c) e
