-- The last point is taken, or none is left.
use Rattle.std.proofs.Common.{◌≡◌, ◌+◌, ◌++◌, ℕ, Option, Some, None, length, refl, sym, ap, ◌∙◌, arith}
use Rattle.std.specs.Prelude.{MatchOption, option_to_list, vec_capacity, vec_len}
use Rattle.std.proofs.lemmas.List.{append-nil, length_push}
use Rattle.return_search.specs.declared.searched_flow.Flow.{Flow}
use Rattle.return_search.specs.declared.return_search.Search.{Search}
use Rattle.return_search.specs.Search.{IsSearch, IsTaken}
use Rattle.return_search.proofs.Passing.{search_end, search_taken}
use Rattle.return_search.proofs.return_search.Search.take.Goals as goal

taken_of : (flow : Flow) (s t : Search) (r : Option ℕ) → IsSearch flow s → t.found.items ≡ s.found.items → t.known.items ≡ s.known.items → vec_capacity t.waiting ≡ vec_capacity s.waiting → s.waiting.items ≡ t.waiting.items ++ option_to_list r
    → vec_len t.waiting ≡ length t.waiting.items → MatchOption r ((vec_len s.waiting ≡ 0) × (vec_len t.waiting ≡ 0)) (λ _. vec_len t.waiting + 1 ≡ vec_len s.waiting)
    → MatchOption r (IsSearch flow t × (length t.waiting.items ≡ 0)) (λ x. IsTaken flow t x × (length t.waiting.items + 1 ≡ length s.waiting.items))
taken_of flow s t None search found known room popped len none = (search_end flow s t search found known room (popped ∙ append-nil t.waiting.items), sym len ∙ none.1)
taken_of flow s t (Some x) search found known room popped len _ = (search_taken flow s t x search found known room popped, sym (ap length popped ∙ length_push t.waiting.items x))

pub returns-clause-taken : goal.returns-clause-taken
returns-clause-taken c = taken_of c.args.flow.now c.args.self.now _ c.pop.result c.requires refl refl c.pop.ensures.capacity c.pop.ensures.items (omega arith) c.pop.ensures.cases
