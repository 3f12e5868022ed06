use Rattle.std.proofs.Common.{refl}
use Rattle.explanations.specs.Topics.{topics_text}
use Rattle.explanations.specs.Volumes.{entries, rules_1_to_9, rules_10_to_19, rules_21_to_44, rules_45_to_54, refusals_of_entries, refusals_bad, files_that_fail, refusals_f_to_m, refusals_n, refusals_o_to_z}
use Rattle.explanations.proofs.listing.topics.Goals as goal

pub returns : goal.returns
unfolding topics_text entries rules_1_to_9 rules_10_to_19 rules_21_to_44 rules_45_to_54 refusals_of_entries refusals_bad files_that_fail refusals_f_to_m refusals_n refusals_o_to_z
returns c = record { text = refl; told = refl; titled = refl; ascending = refl }
