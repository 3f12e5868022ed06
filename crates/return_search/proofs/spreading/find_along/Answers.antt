-- An edge leads right behind its point, or is listed.
use Rattle.std.proofs.Common.{◌≡◌, ◌<◌, ℕ, inl, inr, true, List, Bool, length, sym, ◌∙◌, subst, arith}
use Rattle.return_search.specs.Backward.{edge_at}
use Rattle.return_search.specs.Search.{carries, is_set}
use Rattle.return_search.proofs.Ranges.{ends_within}
use Rattle.return_search.proofs.spreading.find_along.Goals as goal

pub returns-clause-along : goal.returns-clause-along
returns-clause-along c q i of to h =
    let flow = c.args.flow.now in
    let found = c.args.search.now.found.items in
    let inside : i < length flow.edges.items = omega (arith, ends_within flow c.requires.shape q of.point, of.to) in
    elim (c.requires.backward.leads.edges q i inside of) [
      | inl behind ↦
          let is : is_set found (edge_at flow i).to ≡ true = subst (λ (k : ℕ). is_set found k ≡ true) (sym to) c.requires.found in
          c.find_along_listed.ensures.more.extends.found q (c.find_before.ensures.before q i (sym behind ∙ to) (of, is, h))
      | inr listed ↦
          c.find_along_listed.ensures.along q i listed to (subst (λ (known : List Bool). carries flow known q (edge_at flow i).kind ≡ true) (sym c.find_before.ensures.more.known) h)
    ]
