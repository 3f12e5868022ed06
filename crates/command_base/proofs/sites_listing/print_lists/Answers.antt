use Rattle.std.proofs.Common.{refl}
use Rattle.command_base.specs.Printing.{whole}
use Rattle.command_base.specs.declared.status.Status.TheVariants as status
use Rattle.command_base.proofs.PrintLemmas.{text_fails}
use Rattle.command_base.proofs.sites_listing.print_lists.Goals as goal

pub returns-in-Ok-clause-printed : goal.returns-in-Ok-clause-printed
returns-in-Ok-clause-printed g c = whole refl c.in-Ok.ensures.ok

pub returns-in-Err-clause-printed : goal.returns-in-Err-clause-printed
returns-in-Err-clause-printed g c = text_fails status.Done _ _ _ _ (λ e. cc) c.in-Err.ensures.err
