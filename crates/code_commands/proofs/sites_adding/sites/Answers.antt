use Rattle.code_commands.proofs.SitesLaws.{sites_changes, sites_left, sites_listed, sites_refused, sites_silent, sites_told, sites_unchanged}
use Rattle.code_commands.proofs.sites_adding.sites.Goals as goal

pub returns-clause-lists : goal.returns-clause-lists
returns-clause-lists g c e = sites_listed _ _ _ _ _ _ _ _ _ _ c.read_and_add.ensures.ends e

pub returns-clause-accepts : goal.returns-clause-accepts
returns-clause-accepts g c read object lists held told is named of gets = sites_left c.one_outcome.ensures _ _ _ _ _ read object lists held _ _ _ _ _ told is named of gets c.read_and_add.ensures.ends

pub returns-clause-refused : goal.returns-clause-refused
returns-clause-refused g c held e told = sites_told _ _ _ _ _ held _ _ _ _ _ told c.read_and_add.ensures.ends e

pub returns-clause-refuses : goal.returns-clause-refuses
returns-clause-refuses g c held stop told why = sites_refused c.one_outcome.ensures _ _ _ _ _ held _ _ _ _ _ stop c.read_and_add.ensures.ends told why

pub returns-clause-unchanged : goal.returns-clause-unchanged
returns-clause-unchanged g c d f m = sites_unchanged _ _ _ _ _ _ _ _ _ _ c.read_and_add.ensures.ends d f m

pub returns-clause-changes : goal.returns-clause-changes
returns-clause-changes g c = sites_changes _ _ _ _ _ _ _ _ _ _ c.read_and_add.ensures.ends

pub returns-clause-silent : goal.returns-clause-silent
returns-clause-silent g c e = sites_silent _ _ _ _ _ _ _ _ _ _ c.read_and_add.ensures.ends e
