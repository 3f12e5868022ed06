use Rattle.std.proofs.Common.{◌≤◌, rules, subst, sym, ◌∙◌}
use Rattle.std.specs.Prelude.{IfSome}
use Rattle.std.proofs.lemmas.Bool.{leb-true}
use Rattle.file_tests.proofs.rows.made.is_in_range.Goals as goal

pub returns-in-Some : goal.returns-in-Some
returns-in-Some c = λ h. subst (λ o. IfSome o (λ range. c.args.placed.place.off ≤ range.size)) (sym c.in-Some.is ∙ c.range_of.ensures) (leb-true _ _ h)

pub returns-in-None : goal.returns-in-None
returns-in-None c = λ h. subst (λ o. IfSome o (λ range. c.args.placed.place.off ≤ range.size)) (sym c.in-None.is ∙ c.range_of.ensures) (search rules)
