use Rattle.std.proofs.Common.{◌≡◌, ℕ, ◌<◌, ◌≤◌, arith, ◌∙◌}
use Rattle.std.specs.Prelude.{Result, Ok, Err}
use Rattle.ot_files.specs.declared.output.SinkError.{SinkError}
use Rattle.ot_files.specs.declared.output.SinkError.TheVariants.{Failed}
use Rattle.ot_files.proofs.Sent.{sends_slice}
use Rattle.ot_files.proofs.lines.write_line.Goals as goal

-- a count that doesn't fall, and rises only where a failure is answered, stands still where a write is answered well
stands_still : (before after taken : ℕ) → before ≤ after → (before < after → ◌≡◌ {A = Result ℕ SinkError} (Ok taken) (Err Failed)) → after ≡ before
stands_still before after taken later only = omega (arith, risen)
  where
    risen : before < after → ⊥
    risen less = let u : ◌≡◌ {A = Result ℕ SinkError} (Ok taken) (Err Failed) = only less in cc

pub loop-rest-preserved : goal.loop-rest-preserved
loop-rest-preserved g c = record {
  sends = sends_slice c.in_ok-taken.taken c.loop-rest.invariant.sends c.in_ok-taken.ensures.ok;
  unfailed = stands_still _ _ c.in_ok-taken.taken c.in_ok-taken.ensures.later c.in_ok-taken.ensures.only_failed ∙ c.loop-rest.invariant.unfailed;
}
