-- What is to be followed is taken one by one.
use Rattle.std.proofs.Common.{◌≡◌, List, [], Option, Some, None, length, refl, sym, subst, ◌+◌, arith}
use Rattle.std.specs.Prelude.{MatchOption}
use Rattle.program_check.specs.declared.access_ways.Ways.{Ways}
use Rattle.program_check.specs.declared.access_search.Visit.{Visit}
use Rattle.program_check.specs.Search.{AreReached, IsSearch, IsStarted, work_left}
use Rattle.program_check.proofs.Finding.{first_search, taken_point, taken_search, taken_shape, taken_work}
use Rattle.program_check.proofs.Following.{are_reached, started_still}
use Rattle.program_check.proofs.reaching.find_ways.Goals as goal

pub pending-init : goal.pending-init
pending-init c =
    let first = c.in_ok-search.search in
    let made = c.in_ok-find_starts.ensures in
    record {
      shape = made.shape;
      search = λ p allowed t. made.search p allowed t (first_search p allowed c.points.result first.ways.items first.pending.items c.in_ok-search.ensures.ways c.in_ok-search.ensures.pending);
      started = made.started;
    }

pub follow-requires-clause-shape : goal.follow-requires-clause-shape
follow-requires-clause-shape c = taken_shape c.pending.search c.take_pending.new.self c.in-Some.visit c.in-Some.ensures.pending c.in-Some.ensures.ways (length c.args.graph.now.parts.points.items) c.pending.invariant.shape

pub follow-requires-clause-point : goal.follow-requires-clause-point
follow-requires-clause-point c = taken_point c.pending.search c.take_pending.new.self c.in-Some.visit c.in-Some.ensures.pending c.in-Some.ensures.ways (length c.args.graph.now.parts.points.items) c.pending.invariant.shape

pub pending-smaller : goal.pending-smaller
pending-smaller c =
    let taken : work_left c.take_pending.new.self + 1 ≡ work_left c.pending.search = taken_work c.pending.search c.take_pending.new.self c.in-Some.visit c.in-Some.ensures.pending c.in-Some.ensures.ways in
    let same : work_left c.follow.new.search ≡ work_left c.take_pending.new.self = c.in_ok-follow.ensures.goes_on.work in
    omega (arith, taken, same)

pub pending-preserved : goal.pending-preserved
pending-preserved c =
    let s = c.pending.search in
    let t = c.take_pending.new.self in
    let step = c.in_ok-follow.ensures in
    let i = c.pending.invariant in
    record {
      shape = step.goes_on.shape;
      search = λ p allowed tracks. step.search p allowed tracks (taken_search s t c.in-Some.visit c.in-Some.ensures.pending c.in-Some.ensures.ways p allowed (i.search p allowed tracks));
      started = λ p allowed q tracks point.
          started_still p allowed t.ways.items c.follow.new.search.ways.items q step.goes_on.found (subst (λ (ws : List Ways). IsStarted p allowed ws q) (sym c.in-Some.ensures.ways) (i.started p allowed q tracks point));
    }

ended : (r : Option Visit) (P : Type 0) (Q : Visit → Type 0) → ((v : Visit) → r ≡ Some v → ⊥) → MatchOption r P Q → P
ended None P Q none h = h
ended (Some v) P Q none h = absurd (none v refl)

pub returns-clause-reached : goal.returns-clause-reached
returns-clause-reached c p allowed tracks =
    let s = c.pending.search in
    let i = c.pending.invariant in
    let none : s.pending.items ≡ [] = ended c.take_pending.result _ _ c.in_default.not-Some c.take_pending.ensures.pending in
    subst (AreReached p allowed) (sym c.take_pending.ensures.ways)
    (are_reached p allowed c.args.graph.now.parts c.args.table.now tracks s.ways.items (subst (λ (vs : List Visit). IsSearch p allowed s.ways.items vs) none (i.search p allowed tracks)) (λ q point. i.started p allowed q tracks point))
