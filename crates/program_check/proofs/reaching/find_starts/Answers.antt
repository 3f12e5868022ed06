-- One point more.
use Rattle.std.proofs.Common.{◌≡◌, ◌⊎◌, inl, inr, ℕ, ◌+◌, ◌<◌, length, sym, subst, arith}
use Rattle.program_check.specs.Search.{IsStarted}
use Rattle.program_check.proofs.Finding.{goes_further}
use Rattle.program_check.proofs.Following.{started_still}
use Rattle.program_check.proofs.reaching.find_starts.Goals as goal

split : (q n : ℕ) → q < n + 1 → (q < n) ⊎ (q ≡ n)
split q n l = grind arith

pub loop-n-preserved : goal.loop-n-preserved
loop-n-preserved c =
    let i = c.loop-n.invariant in
    let step = c.in_ok-find_start.ensures in
    record {
      goes_on = goes_further (length c.args.graph.now.parts.points.items) c.args.search.now c.loop-n.search c.find_start.new.search i.goes_on step.goes_on;
      search = λ p allowed t s. step.search p allowed t (i.search p allowed t s);
      started = λ p allowed q t l. elim (split q c.loop-n.n l) [
        | inl less ↦ started_still p allowed c.loop-n.search.ways.items c.find_start.new.search.ways.items q step.goes_on.found (i.started p allowed q t less)
        | inr same ↦ subst (λ (k : ℕ). IsStarted p allowed c.find_start.new.search.ways.items k) (sym same) (step.started p allowed t)
      ];
    }
