-- The point right before is found, and taken.
use Rattle.std.proofs.Common.{◌≡◌, ℕ, ◌+◌, ◌-◌, ◌<◌, Option, None, List, subst, arith}
use Rattle.std.specs.Prelude.{slice_index_or}
use Rattle.return_search.specs.Chained.{IsOpen}
use Rattle.return_search.specs.Told.{entered_at}
use Rattle.return_search.specs.Shape.{points_of}
use Rattle.return_search.specs.Search.{IsSteppedTo}
use Rattle.return_search.proofs.Passing.{holds_inside}
use Rattle.return_search.proofs.Running.{run_on, run_taken, runs_further, stepped_to}
use Rattle.return_search.proofs.spreading.run_back.Goals as goal

pub run-preserved : goal.run-preserved
run-preserved c =
    let flow = c.args.flow.now in
    let backward = c.args.backward.now in
    let shape = c.requires.shape in
    let s = c.run.search in
    let t = c.mark.new.self in
    let x : ℕ = c.run.at in
    let before : x - 1 + 1 ≡ x = omega arith in
    let point : x < points_of flow = omega (arith, holds_inside s.found.items x c.run.invariant.taken.found, c.run.invariant.taken.listed.long) in
    let own : entered_at flow x ≡ None = subst (λ (es : List (Option ℕ)). slice_index_or es x None ≡ None) c.deref-entered.ensures.value (c.is_stepped_to.ensures.entered c.if-is_stepped_to.true) in
    let is_open : IsOpen backward.chains.heads.items x = subst (λ (hs : List ℕ). IsOpen hs x) c.heads-heads.ensures (c.is_stepped_to.ensures.opened c.if-is_stepped_to.true) in
    let led : IsSteppedTo flow x = stepped_to flow shape backward c.requires.backward x point own is_open in
    let told = c.mark.ensures in
    record {
      taken = run_taken flow shape s t x (x - 1) before c.run.invariant.taken led told.found told.known told.waiting told.room;
      on = runs_further c.args.search.now s t c.run.invariant.on (run_on flow shape s t x (x - 1) before c.run.invariant.taken led told.found told.waiting);
    }
