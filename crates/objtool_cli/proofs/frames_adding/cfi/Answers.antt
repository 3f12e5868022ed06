use Rattle.objtool_cli.proofs.CfiLaws.{cfi_changes, cfi_left, cfi_refused, cfi_silent, cfi_told, cfi_unchanged, cfi_warned, cfi_warns, frames_told}
use Rattle.objtool_cli.proofs.frames_adding.cfi.Goals as goal

pub returns-clause-frames : goal.returns-clause-frames
returns-clause-frames g c e = frames_told _ _ _ _ _ _ _ _ _ c.read_and_add.ensures.ends e

pub returns-clause-accepts : goal.returns-clause-accepts
returns-clause-accepts g c read object rows lists held told is named gets = cfi_left c.one_outcome.ensures _ _ _ _ read object rows lists held _ _ _ _ _ told is named gets c.read_and_add.ensures.ends

pub returns-clause-warned : goal.returns-clause-warned
returns-clause-warned g c e = cfi_warned _ _ _ _ _ _ _ _ _ c.read_and_add.ensures.ends e

pub returns-clause-warns : goal.returns-clause-warns
returns-clause-warns g c read lists held told is named breaks = cfi_warns c.one_outcome.ensures _ _ _ _ read lists held _ _ _ _ _ told is named breaks c.read_and_add.ensures.ends

pub returns-clause-refused : goal.returns-clause-refused
returns-clause-refused g c held e told = cfi_told _ _ _ _ held _ _ _ _ _ told c.read_and_add.ensures.ends e

pub returns-clause-refuses : goal.returns-clause-refuses
returns-clause-refuses g c held stop told why = cfi_refused c.one_outcome.ensures _ _ _ _ held _ _ _ _ _ stop c.read_and_add.ensures.ends told why

pub returns-clause-unchanged : goal.returns-clause-unchanged
returns-clause-unchanged g c d f m = cfi_unchanged _ _ _ _ _ _ _ _ _ c.read_and_add.ensures.ends d f m

pub returns-clause-changes : goal.returns-clause-changes
returns-clause-changes g c = cfi_changes _ _ _ _ _ _ _ _ _ c.read_and_add.ensures.ends

pub returns-clause-silent : goal.returns-clause-silent
returns-clause-silent g c e = cfi_silent _ _ _ _ _ _ _ _ _ c.read_and_add.ensures.ends e
