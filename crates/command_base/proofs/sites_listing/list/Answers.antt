use Rattle.command_base.proofs.ListLaws.{list_left, list_refused, list_told, listed_file}
use Rattle.command_base.proofs.sites_listing.list.Goals as goal

pub returns-clause-lists : goal.returns-clause-lists
returns-clause-lists g c e = listed_file c.args.file.now _ _ _ _ _ c.read_and_list.ensures.ends e

pub returns-clause-accepts : goal.returns-clause-accepts
returns-clause-accepts g c bytes object lists held told is holds = list_left c.args.file.now bytes object lists held _ _ _ _ _ told is holds c.read_and_list.ensures.ends

pub returns-clause-refused : goal.returns-clause-refused
returns-clause-refused g c held e told = list_told c.args.file.now held _ _ _ _ _ told c.read_and_list.ensures.ends e

pub returns-clause-refuses : goal.returns-clause-refuses
returns-clause-refuses g c held stop told why = list_refused c.args.file.now held _ _ _ _ _ stop c.read_and_list.ensures.ends told why
