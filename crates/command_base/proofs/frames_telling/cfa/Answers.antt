use Rattle.command_base.proofs.CfaLaws.{cfa_left, cfa_refused, cfa_told, file_told}
use Rattle.command_base.proofs.frames_telling.cfa.Goals as goal

pub returns-clause-told : goal.returns-clause-told
returns-clause-told g c e = file_told _ _ _ _ _ _ c.read_and_tell.ensures.ends e

pub returns-clause-accepts : goal.returns-clause-accepts
returns-clause-accepts g c bytes object rules held told is says = cfa_left _ bytes object rules held _ _ _ _ _ told is says c.read_and_tell.ensures.ends

pub returns-clause-refused : goal.returns-clause-refused
returns-clause-refused g c held e told = cfa_told _ held _ _ _ _ _ told c.read_and_tell.ensures.ends e

pub returns-clause-refuses : goal.returns-clause-refuses
returns-clause-refuses g c held stop told why = cfa_refused _ held _ _ _ _ _ stop c.read_and_tell.ensures.ends told why
