-- The point is passed on: along the edges that lead to it, and to its calls.
use Rattle.std.proofs.Common.{◌≡◌, ◌<◌, ℕ, Bool, true, false, List, length, sym, ap, ◌∙◌, subst, arith}
use Rattle.std.proofs.lemmas.List.{get_or_read}
use Rattle.return_search.specs.declared.searched_flow.Flow.{Flow}
use Rattle.return_search.specs.declared.return_search.Search.{Search}
use Rattle.return_search.specs.Shape.{points_of}
use Rattle.return_search.specs.Search.{is_set, Extends, IsTaken}
use Rattle.return_search.proofs.Passing.{holds_inside, search_entry, search_same, sound_know}
use Rattle.return_search.proofs.SearchSteps.{extends_more}
use Rattle.return_search.proofs.spreading.pass_on.Goals as goal

-- the point that was taken is one
is_point : (flow : Flow) (s : Search) (x : ℕ) → IsTaken flow s x → x < points_of flow
is_point flow s x taken = omega (arith, holds_inside s.found.items x taken.found, taken.listed.long)

pub find_along-requires-clause-point : goal.find_along-requires-clause-point
find_along-requires-clause-point c = is_point c.args.flow.now c.args.search.now c.args.x c.requires.taken

pub index-requires : goal.index-requires
index-requires c = omega (arith, c.callee-callee.ensures.inside, c.find_along.ensures.listed.known)

pub index_mut-requires : goal.index_mut-requires
index_mut-requires c = omega (arith, c.callee-callee.ensures.inside, c.find_along.ensures.listed.known)

pub find_calls-requires-clause-sound : goal.find_calls-requires-clause-sound
find_calls-requires-clause-sound c =
    let x = c.args.x in
    let point = is_point c.args.flow.now c.args.search.now x c.requires.taken in
    sound_know c.args.flow.now c.find_along.new.search.found.items c.find_along.new.search.known.items c.callee-callee.result x c.find_along.ensures.sound (c.find_along.ensures.extends.found x c.requires.taken.found) point (sym c.callee-callee.ensures.is)

pub returns-else-not-index : goal.returns-else-not-index
returns-else-not-index c =
    let flow = c.args.flow.now in
    let s = c.args.search.now in
    let x = c.args.x in
    let callee = c.callee-callee.result in
    let callee_in : callee < length c.find_along.new.search.known.items = omega (arith, c.callee-callee.ensures.inside, c.find_along.ensures.listed.known) in
    let known : is_set c.find_along.new.search.known.items callee ≡ true = sym (get_or_read c.find_along.new.search.known.items callee (c.index.result).now callee_in c.index.ensures false) ∙ c.if-not-index.false in
    let known_before : is_set s.known.items callee ≡ true = subst (λ (ks : List Bool). is_set ks callee ≡ true) c.find_along.ensures.known known in
    record {
      search = search_same flow s c.find_along.new.search x c.requires.taken c.find_along.ensures.listed c.find_along.ensures.sound c.find_along.ensures.extends c.find_along.ensures.known c.find_along.ensures.along
          (ap (is_set s.known.items) (sym c.callee-callee.ensures.is) ∙ known_before);
      extends = c.find_along.ensures.extends;
    }

pub returns-then-not-index : goal.returns-then-not-index
returns-then-not-index c =
    let flow = c.args.flow.now in
    let s = c.args.search.now in
    let one = c.find_along.new.search in
    let t = c.find_calls.new.search in
    let x = c.args.x in
    let callee = c.callee-callee.result in
    let callee_in : callee < length one.known.items = omega (arith, c.callee-callee.ensures.inside, c.find_along.ensures.listed.known) in
    let told = c.find_calls.ensures.extends in
    let later : Extends one t = record { found = told.found; waiting = told.waiting; new = told.new; grown = told.grown; more = told.more } in
    record {
      search = search_entry flow s one t x callee c.requires.taken (sym c.callee-callee.ensures.is) callee_in
          c.find_calls.ensures.listed c.find_calls.ensures.sound c.find_along.ensures.extends later c.find_along.ensures.known c.find_calls.ensures.known c.find_along.ensures.along c.find_calls.ensures.calls;
      extends = extends_more s one t c.find_along.ensures.extends later;
    }
