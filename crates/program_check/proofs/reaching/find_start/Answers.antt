-- Control that begins at the point, at an entry and at hints.
use Rattle.std.proofs.Common.{Bool, false, [], sym, subst, arith}
use Rattle.std.proofs.lemmas.Result.{on_ok_weaker}
use Rattle.machine_defs.specs.Program.{IsPoint}
use Rattle.program_check.specs.Search.{IsFound, IsReached, visit}
use Rattle.program_check.proofs.Following.{called_reached, entered_reached, hinted_reached, ok_both}
use Rattle.program_check.proofs.reaching.find_start.Goals as goal

pub returns-clause-search : goal.returns-clause-search
returns-clause-search c = on_ok_weaker c.find_if-3.result (λ h p allowed t search.
    let point : IsPoint p c.args.n = omega (arith, c.requires.point, t.tells.count) in
    h p allowed [] (λ is. called_reached p allowed c.args.graph.now.parts c.args.table.now t c.args.n point ((c.is_called.ensures p allowed t).0 is))
    (c.in_ok-find_if-2.ensures.search p allowed [] (λ is. hinted_reached p allowed c.args.graph.now.parts c.args.table.now t c.args.n point ((c.is_hinted.ensures p t.tells).0 is))
    (c.in_ok-find_if.ensures.search p allowed []
    (λ is. let e = (c.is_entered.ensures p allowed t).0 is in subst (λ (b : Bool). IsReached p allowed (visit c.args.n b b)) (sym (c.is_safe-home.ensures p allowed t)) (entered_reached p allowed c.args.graph.now.parts c.args.table.now t c.args.n e.0 e.1))
    search))) c.find_if-3.ensures.search

pub returns-clause-started : goal.returns-clause-started
returns-clause-started c = on_ok_weaker c.find_if-3.result (λ h p allowed t.
    let entered = visit c.args.n c.is_safe-home.result c.is_safe-home.result in
    let hinted = visit c.args.n false false in
    record {
      entered = λ e runs.
          subst (λ (b : Bool). IsFound c.find_if-3.new.self.ways.items (visit c.args.n b b)) (c.is_safe-home.ensures p allowed t)
          (h.0.found entered (c.in_ok-find_if-2.ensures.goes_on.found entered (c.in_ok-find_if.ensures.found ((c.is_entered.ensures p allowed t).1 (e, runs)))));
      hinted = λ own none. h.0.found hinted (c.in_ok-find_if-2.ensures.found ((c.is_hinted.ensures p t.tells).1 (own, none)));
      called = λ hint none runs. h.1 ((c.is_called.ensures p allowed t).1 (hint, none, runs));
    }) (ok_both c.find_if-3.result _ _ c.find_if-3.ensures.goes_on c.find_if-3.ensures.found)
