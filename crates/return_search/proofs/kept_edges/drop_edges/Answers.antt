-- One call that doesn't come back, and the points behind it that aren't such.
use Rattle.std.proofs.Common.{◌≡◌, ◌<◌, ◌+◌, ◌≤◌, ◌++◌, ℕ, Bool, true, false, List, Vec, Global, drop, filter, length, set, take, refl, sym, ap, subst, ◌∙◌, arith}
use Rattle.std.specs.Prelude.{slice_index_or, slice_range}
use Rattle.std.proofs.lemmas.List.{get_or_read, take_all}
use Rattle.machine_defs.specs.declared.flow.Edge.{Edge}
use Rattle.return_search.specs.declared.searched_flow.Exit.{Exit}
use Rattle.return_search.specs.declared.searched_flow.Exit.TheVariants.{Passes}
use Rattle.return_search.specs.Told.{exit_at, start_of}
use Rattle.return_search.specs.Shape.{points_of}
use Rattle.return_search.specs.Flagged.{AreFlagged}
use Rattle.return_search.specs.Search.{target_returns}
use Rattle.return_search.specs.Stays.{AreKept, stays}
use Rattle.return_search.proofs.Flagging.{flagged_none, flagged_other, flagged_usual}
use Rattle.return_search.proofs.Ranges.{starts_ascend}
use Rattle.return_search.proofs.Dropping.{first_kept, points_kept, same_behind, start_at}
use Rattle.return_search.proofs.kept_edges.drop_edges.Goals as goal

pub points-init : goal.points-init
points-init c =
    let flow = c.args.flow.now in
    let shape = c.requires.shape in
    let at = c.end_of_returning-at.result in
    let told = c.end_of_returning-at.ensures in
    let known = c.args.known.now in
    let exits : c.deref.result.now ≡ flow.exits.items = c.deref.ensures.value in
    let point : at ≤ points_of flow = omega (arith, told.within, ap length exits) in
    let back : (q : ℕ) → 0 ≤ q → q < at → target_returns known (exit_at flow q) ≡ true = subst (λ (xs : List Exit). (q : ℕ) → 0 ≤ q → q < at → target_returns known (slice_index_or xs q Passes) ≡ true) exits told.returning in
    let none : AreFlagged (λ q. target_returns known (exit_at flow q)) true c.args.comes_back.now.items (points_of flow) 0 = rw c.requires.comes_back (flagged_none (λ q. target_returns known (exit_at flow q)) true (points_of flow)) in
    let from : c.index.result.now ≡ start_of flow at = get_or_read flow.starts.items at c.index.result.now (omega (arith, point, shape.starts)) c.index.ensures 0 in
    record {
      point = point;
      stops = λ l. subst (λ (xs : List Exit). at < length xs → target_returns known (slice_index_or xs at Passes) ≡ false) exits told.end l;
      flagged = flagged_usual (λ q. target_returns known (exit_at flow q)) true c.args.comes_back.now.items (points_of flow) 0 none at (omega arith) point back;
      kept = rw from (first_kept flow shape (λ q. target_returns known (exit_at flow q)) at point back);
      from = from;
      within = omega arith;
      rest = refl;
      long = refl;
      starts = λ k l. refl;
      long_starts = refl;
      exits = refl;
      dead_ends = refl;
      entered = refl;
    }

-- where the edges of the points from the next one on begin isn't changed yet
pub keep_others-own-requires-clause-inside : goal.keep_others-own-requires-clause-inside
keep_others-own-requires-clause-inside c =
    let flow = c.args.flow.now in
    let shape = c.requires.shape in
    let at : ℕ = c.points.at in
    let inside : at < points_of flow = omega (arith, c.points-test.true, c.len-points.ensures) in
    let to = c.index-in-points.result.now in
    let ends_at : to ≡ start_of flow (at + 1) = start_at flow shape c.points.flow.starts.items at (at + 1) to c.points.invariant.long_starts c.points.invariant.starts (omega arith) (omega (arith, inside)) c.index-in-points.ensures in
    omega (arith, ends_at, starts_ascend flow shape (at + 1) (points_of flow) (omega (arith, inside)) (omega arith), shape.last, c.points.invariant.long)

pub move_edges-requires-clause-ordered : goal.move_edges-requires-clause-ordered
move_edges-requires-clause-ordered c =
    let flow = c.args.flow.now in
    let shape = c.requires.shape in
    let at : ℕ = c.points.at in
    let next = c.end_of_returning-next.result in
    let later : at + 1 ≤ next = c.end_of_returning-next.ensures.from in
    let last : next ≤ points_of flow = omega (arith, c.end_of_returning-next.ensures.within, c.deref-in-points.ensures.len, ap (λ (v : Vec Exit Global). length v.items) c.points.invariant.exits) in
    let to = c.index-in-points.result.now in
    let until = c.index-in-points-2.result.now in
    let ends_at : to ≡ start_of flow (at + 1) = start_at flow shape c.points.flow.starts.items at (at + 1) to c.points.invariant.long_starts c.points.invariant.starts (omega arith) (omega (arith, later, last)) c.index-in-points.ensures in
    let until_at : until ≡ start_of flow next = start_at flow shape c.points.flow.starts.items at next until c.points.invariant.long_starts c.points.invariant.starts (omega (arith, later)) last c.index-in-points-2.ensures in
    omega (arith, ends_at, until_at, starts_ascend flow shape (at + 1) next later last)

pub move_edges-requires-clause-inside : goal.move_edges-requires-clause-inside
move_edges-requires-clause-inside c =
    let flow = c.args.flow.now in
    let shape = c.requires.shape in
    let next = c.end_of_returning-next.result in
    let later : c.points.at + 1 ≤ next = c.end_of_returning-next.ensures.from in
    let last : next ≤ points_of flow = omega (arith, c.end_of_returning-next.ensures.within, c.deref-in-points.ensures.len, ap (λ (v : Vec Exit Global). length v.items) c.points.invariant.exits) in
    let until = c.index-in-points-2.result.now in
    let until_at : until ≡ start_of flow next = start_at flow shape c.points.flow.starts.items c.points.at next until c.points.invariant.long_starts c.points.invariant.starts (omega (arith, later)) last c.index-in-points-2.ensures in
    omega (arith, until_at, starts_ascend flow shape next (points_of flow) last (omega arith), shape.last, c.keep_others-own.ensures.long, c.points.invariant.long)

pub lessen_starts-requires-clause-enough : goal.lessen_starts-requires-clause-enough
lessen_starts-requires-clause-enough c = λ k from l.
    let flow = c.args.flow.now in
    let shape = c.requires.shape in
    let at : ℕ = c.points.at in
    let last : c.end_of_returning-next.result ≤ points_of flow = omega (arith, c.end_of_returning-next.ensures.within, c.deref-in-points.ensures.len, ap (λ (v : Vec Exit Global). length v.items) c.points.invariant.exits) in
    let to = c.index-in-points.result.now in
    let ends_at : to ≡ start_of flow (at + 1) = start_at flow shape c.points.flow.starts.items at (at + 1) to c.points.invariant.long_starts c.points.invariant.starts (omega arith) (omega (arith, from, l, last)) c.index-in-points.ensures in
    omega (arith, ends_at, starts_ascend flow shape (at + 1) k from (omega (arith, l, last)), c.points.invariant.starts k (omega (arith, from)))

pub overflow_sub-kept : goal.overflow_sub-kept
overflow_sub-kept c =
    let flow = c.args.flow.now in
    let shape = c.requires.shape in
    let at : ℕ = c.points.at in
    let next = c.end_of_returning-next.result in
    let later : at + 1 ≤ next = c.end_of_returning-next.ensures.from in
    let last : next ≤ points_of flow = omega (arith, c.end_of_returning-next.ensures.within, c.deref-in-points.ensures.len, ap (λ (v : Vec Exit Global). length v.items) c.points.invariant.exits) in
    let to = c.index-in-points.result.now in
    let until = c.index-in-points-2.result.now in
    let ends_at : to ≡ start_of flow (at + 1) = start_at flow shape c.points.flow.starts.items at (at + 1) to c.points.invariant.long_starts c.points.invariant.starts (omega arith) (omega (arith, later, last)) c.index-in-points.ensures in
    let until_at : until ≡ start_of flow next = start_at flow shape c.points.flow.starts.items at next until c.points.invariant.long_starts c.points.invariant.starts (omega (arith, later)) last c.index-in-points-2.ensures in
    omega (arith, ends_at, until_at, starts_ascend flow shape (at + 1) next later last)

pub points-preserved : goal.points-preserved
points-preserved c =
    let flow = c.args.flow.now in
    let shape = c.requires.shape in
    let s = c.points.flow in
    let was = c.points.invariant in
    let known = c.args.known.now in
    let at : ℕ = c.points.at in
    let next = c.end_of_returning-next.result in
    let told = c.end_of_returning-next.ensures in
    let own = c.keep_others-own in
    let moved = c.move_edges in
    let less = c.lessen_starts in
    let inside : at < points_of flow = omega (arith, c.points-test.true, c.len-points.ensures) in
    let later : at + 1 ≤ next = told.from in
    let exits : c.deref-in-points.result.now ≡ flow.exits.items = c.deref-in-points.ensures.value ∙ ap (λ (v : Vec Exit Global). v.items) was.exits in
    let last : next ≤ points_of flow = omega (arith, told.within, ap length exits) in
    let back : (q : ℕ) → at + 1 ≤ q → q < next → target_returns known (exit_at flow q) ≡ true = subst (λ (xs : List Exit). (q : ℕ) → at + 1 ≤ q → q < next → target_returns known (slice_index_or xs q Passes) ≡ true) exits told.returning in
    let stops : target_returns known (exit_at flow at) ≡ false = was.stops inside in
    let to = c.index-in-points.result.now in
    let until = c.index-in-points-2.result.now in
    let ends_at : to ≡ start_of flow (at + 1) = start_at flow shape s.starts.items at (at + 1) to was.long_starts was.starts (omega arith) (omega (arith, later, last)) c.index-in-points.ensures in
    let until_at : until ≡ start_of flow next = start_at flow shape s.starts.items at next until was.long_starts was.starts (omega (arith, later)) last c.index-in-points-2.ensures in
    let in_edges : to ≤ length s.edges.items = omega (arith, ends_at, starts_ascend flow shape (at + 1) (points_of flow) (omega (arith, inside)) (omega arith), shape.last, was.long) in
    let ordered : c.points.from ≤ to = omega (arith, ends_at, was.from, shape.ascending at inside) in
    let behind : to ≤ until = omega (arith, ends_at, until_at, starts_ascend flow shape (at + 1) next later last) in
    let untouched : drop until own.new.edges.items ≡ drop until flow.edges.items =
    same_behind own.new.edges.items flow.edges.items to until behind (own.ensures.rest ∙ same_behind s.edges.items flow.edges.items c.points.from to ordered was.rest) in
    let kept_own : take own.result own.new.edges.items ≡ take c.points.kept s.edges.items ++ filter (λ e. stays (target_returns known (exit_at flow at)) e.kind) (slice_range s.edges.items c.points.from to) =
    subst (λ (b : Bool). take own.result own.new.edges.items ≡ take c.points.kept s.edges.items ++ filter (λ e. stays b e.kind) (slice_range s.edges.items c.points.from to)) (sym stops) own.ensures.kept in
    let flags : List Bool = set c.points.comes_back.items at false in
    let one : AreFlagged (λ q. target_returns known (exit_at flow q)) true flags (points_of flow) (at + 1) = flagged_other (λ q. target_returns known (exit_at flow q)) true c.points.comes_back.items (points_of flow) at was.flagged false inside stops in
    record {
      point = last;
      stops = λ l. subst (λ (xs : List Exit). next < length xs → target_returns known (slice_index_or xs next Passes) ≡ false) exits told.end l;
      flagged = flagged_usual (λ q. target_returns known (exit_at flow q)) true flags (points_of flow) (at + 1) one next later last back;
      kept = points_kept flow shape (λ q. target_returns known (exit_at flow q)) s.starts.items less.new.starts.items s.edges.items own.new.edges.items moved.new.edges.items at next c.points.kept c.points.from to until own.result inside was.kept
          was.long_starts was.from ends_at until_at was.rest kept_own own.ensures.within (omega (arith, own.ensures.within, own.ensures.long, in_edges)) own.ensures.rest ordered later last back
          moved.ensures.kept less.ensures.long less.ensures.before less.ensures.less was.starts;
      from = until_at;
      within = omega (arith, own.ensures.within, behind);
      rest = moved.ensures.rest ∙ untouched;
      long = moved.ensures.long ∙ (own.ensures.long ∙ was.long);
      starts = λ k l. less.ensures.behind k (omega arith) ∙ was.starts k (omega (arith, later, l));
      long_starts = less.ensures.long ∙ was.long_starts;
      exits = was.exits;
      dead_ends = was.dead_ends;
      entered = was.entered;
    }

pub returns-clause-kept : goal.returns-clause-kept
returns-clause-kept c =
    let flow = c.args.flow.now in
    let known = c.args.known.now in
    let was = c.points.invariant in
    let starts = c.points.flow.starts.items in
    let at : ℕ = c.points.at in
    let end : at ≡ points_of flow = omega (arith, c.points-test.false, was.point, c.len-points.ensures) in
    let all : take (at + 1) starts ≡ starts = take_all (at + 1) starts (omega (arith, was.long_starts, c.requires.shape.starts, end)) in
    let holds : ℕ → Bool = λ q. target_returns known (exit_at flow q) in
    subst (λ (es : List Edge). AreKept flow holds starts es (points_of flow)) (sym c.truncate.ensures.items)
    (subst (λ (n : ℕ). AreKept flow holds starts (take c.points.kept c.points.flow.edges.items) n) end
    (subst (λ (ss : List ℕ). AreKept flow holds ss (take c.points.kept c.points.flow.edges.items) at) all was.kept))
