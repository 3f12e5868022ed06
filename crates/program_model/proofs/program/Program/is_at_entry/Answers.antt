use Rattle.std.proofs.Common.{ℕ, List, get_or, refl, subst}
use Rattle.std.specs.Prelude.{Contains}
use Rattle.std.proofs.lemmas.List.Elements.{Contains-get_or}
use Rattle.program_model.proofs.program.Program.is_at_entry.Goals as goal

pub returns-then-enters : goal.returns-then-enters
returns-then-enters c = λ set _. record {
  entry = get_or c.deref-entry-items.result.now c.loop-entry.entry-index 0;
  listed = subst (λ (xs : List ℕ). Contains xs (get_or c.deref-entry-items.result.now c.loop-entry.entry-index 0)) c.deref-entry-items.ensures.value
      (Contains-get_or c.deref-entry-items.result.now c.loop-entry.entry-index 0 c.loop-entry-test.true);
  arrives = c.if-enters.ensures set refl;
}
