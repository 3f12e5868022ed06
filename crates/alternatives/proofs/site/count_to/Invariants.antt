use Rattle.std.proofs.Common.{◌≡◌, ℕ, ◌<◌, false, get_or}
use Rattle.ot_base.specs.Places.{is_before}
use Rattle.alternatives.specs.declared.site.AlternativesSite.{AlternativesSite}
use Rattle.alternatives.proofs.site.count_to.Given as goal

abbrev pub invariant-loop-count : goal.invariant-loop-count
invariant-loop-count l = (k : ℕ) (d : AlternativesSite) → k < l.count → is_before l.place (get_or l.sites k d).start ≡ false
