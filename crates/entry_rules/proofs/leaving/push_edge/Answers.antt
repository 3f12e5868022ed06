use Rattle.std.proofs.Common.{inl, inr, arith}
use Rattle.machine_defs.specs.Program.{IsPoint}
use Rattle.std.proofs.lemmas.Result.{on_ok_weaker}
use Rattle.entry_rules.proofs.leaving.push_edge.Goals as goal

pub returns-in-Sibling : goal.returns-in-Sibling
returns-in-Sibling c = on_ok_weaker c.push_point.result (λ gains. λ p facts knows w.
    let point : IsPoint p c.args.edge.to = omega (arith, c.requires, knows.tells.count) in
    let own = gains p facts knows point w in (
      λ has. elim (own.0 has) [ inl old ↦ inl old | inr h ↦ inr (c.in-Sibling.is, h) ],
      λ either. elim either [ inl old ↦ own.1 (inl old) | inr h ↦ own.1 (inr h.1) ],
    )) c.push_point.ensures
