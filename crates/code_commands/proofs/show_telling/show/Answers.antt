use Rattle.code_commands.proofs.ShowLaws.{show_accepts, show_fault, show_printed, show_refused, show_sink_fault, show_told}
use Rattle.code_commands.proofs.show_telling.show.Goals as goal

pub returns-clause-shows : goal.returns-clause-shows
returns-clause-shows g c e = show_printed _ _ _ _ _ _ _ _ _ c.read_and_show.ensures.ends e

pub returns-clause-accepts : goal.returns-clause-accepts
returns-clause-accepts g c read object lists held told is named of order code = show_accepts c.one_outcome.ensures _ _ _ _ read object lists held _ _ _ _ _ told is named of order code c.read_and_show.ensures.ends

pub returns-clause-refused : goal.returns-clause-refused
returns-clause-refused g c held e told = show_told _ _ _ _ held _ _ _ _ _ told c.read_and_show.ensures.ends e

pub returns-clause-refuses : goal.returns-clause-refuses
returns-clause-refuses g c held stop told why = show_refused c.one_outcome.ensures _ _ _ _ held _ _ _ _ _ stop c.read_and_show.ensures.ends told why

pub returns-clause-file_fault : goal.returns-clause-file_fault
returns-clause-file_fault g c e = show_fault _ _ _ _ _ _ _ _ _ c.read_and_show.ensures.ends e

pub returns-clause-sink_fault : goal.returns-clause-sink_fault
returns-clause-sink_fault g c e = show_sink_fault _ _ _ _ _ _ _ _ _ c.read_and_show.ensures.ends e
