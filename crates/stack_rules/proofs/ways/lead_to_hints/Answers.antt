-- One edge more.
use Rattle.std.proofs.Common.{◌≡◌, ◌&&◌, ◌||◌, not, Bool, true, false, sym, ap, ◌∙◌, arith}
use Rattle.std.specs.List.{list_all}
use Rattle.std.proofs.lemmas.List.{take_all}
use Rattle.std.proofs.lemmas.List.Folds.{list_all_at, list_all_more}
use Rattle.machine_defs.specs.declared.flow.Edge.{Edge}
use Rattle.machine_defs.specs.declared.flow.EdgeKind.TheVariants.{Next}
use Rattle.machine_defs.specs.Program.{Program}
use Rattle.machine_defs.specs.Kept.{is_free}
use Rattle.machine_defs.specs.Ways.{is_fixup}
use Rattle.stack_rules.proofs.ways.lead_to_hints.Goals as goal

-- the edge leads to a hint, or to a fixup
abbrev passes : Program → Edge → Bool
passes p e = is_fixup e.kind || not (is_free (p.hint e.to))

abbrev none : Edge
none = record { to = 0; kind = Next }

both : (a b : Bool) → a ≡ true → b ≡ true → (a && b) ≡ true
both true b h k = k
both false b h k = absurd (let z : ⊥ = cc in z)

pub loop-edge-preserved : goal.loop-edge-preserved
loop-edge-preserved c p tells =
    let leads : c.leads_to_hint.result ≡ true = (let h = c.if-not-leads_to_hint.false in grind arith) in
    list_all_more (passes p) c.args.edges.now c.loop-edge.edge-index none c.loop-edge-test.true
    ∙ both _ _ (c.loop-edge.invariant p tells) (sym (c.leads_to_hint.ensures p tells) ∙ leads)

pub returns-then-not-leads_to_hint : goal.returns-then-not-leads_to_hint
returns-then-not-leads_to_hint c p tells =
    let leads : c.leads_to_hint.result ≡ false = (let h = c.if-not-leads_to_hint.true in grind arith) in
    sym (list_all_at (passes p) c.args.edges.now c.loop-edge.edge-index none c.loop-edge-test.true (sym (c.leads_to_hint.ensures p tells) ∙ leads))

pub returns : goal.returns
returns c p tells = sym (ap (list_all (passes p)) (sym (take_all c.loop-edge.edge-index c.args.edges.now c.loop-edge-test.false)) ∙ c.loop-edge.invariant p tells)
