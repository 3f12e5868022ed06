use Rattle.code_commands.proofs.EntryLaws.{entry_accepts, entry_fault, entry_keeps, entry_refused, entry_silent, entry_sink_fault, entry_told, entry_warned, entry_warns}
use Rattle.code_commands.proofs.entry_checking.entry.Goals as goal

pub returns-clause-keeps : goal.returns-clause-keeps
returns-clause-keeps g c e = entry_keeps _ _ _ _ _ _ _ _ _ c.read_and_answer.ensures.ends e

pub returns-clause-warned : goal.returns-clause-warned
returns-clause-warned g c e = entry_warned _ _ _ _ _ _ _ _ _ c.read_and_answer.ensures.ends e

pub returns-clause-warns : goal.returns-clause-warns
returns-clause-warns g c read object lists held told is named of order breaks = entry_warns c.one_outcome.ensures _ _ _ _ read object lists held _ _ _ _ _ told is named of order breaks c.read_and_answer.ensures.ends

pub returns-clause-accepts : goal.returns-clause-accepts
returns-clause-accepts g c read object lists held told is named of order clean = entry_accepts c.one_outcome.ensures _ _ _ _ read object lists held _ _ _ _ _ told is named of order clean c.read_and_answer.ensures.ends

pub returns-clause-refused : goal.returns-clause-refused
returns-clause-refused g c held e told = entry_told _ _ _ _ held _ _ _ _ _ told c.read_and_answer.ensures.ends e

pub returns-clause-refuses : goal.returns-clause-refuses
returns-clause-refuses g c held stop told why = entry_refused c.one_outcome.ensures _ _ _ _ held _ _ _ _ _ stop c.read_and_answer.ensures.ends told why

pub returns-clause-silent : goal.returns-clause-silent
returns-clause-silent g c e = entry_silent _ _ _ _ _ _ _ _ _ c.read_and_answer.ensures.ends e

pub returns-clause-file_fault : goal.returns-clause-file_fault
returns-clause-file_fault g c e = entry_fault _ _ _ _ _ _ _ _ _ c.read_and_answer.ensures.ends e

pub returns-clause-sink_fault : goal.returns-clause-sink_fault
returns-clause-sink_fault g c e = entry_sink_fault _ _ _ _ _ _ _ _ _ c.read_and_answer.ensures.ends e
