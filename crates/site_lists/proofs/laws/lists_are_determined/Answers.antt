use Rattle.site_lists.proofs.OneChoice.{one_choice_fits}
use Rattle.site_lists.proofs.laws.lists_are_determined.Goals as goal

pub returns : goal.returns
returns c = one_choice_fits
