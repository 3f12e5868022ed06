use Rattle.machine_model.proofs.Frames.{listed_more}
use Rattle.machine_model.proofs.shadow.+listed_count.Goals as goal

pub returns-in-None-len1-up-clause-listed : goal.returns-in-None-len1-up-clause-listed
returns-in-None-len1-up-clause-listed t c =
    listed_more c.args.frames.now _ c.args.ended c.listed_count.result c.in-None-len1-up.is-0 c.in-None-len1-up.len_at_least c.listed_count.ensures.listed
