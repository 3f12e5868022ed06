-- What isn't a hole of the object's code leads to no part so.
use Rattle.std.proofs.Common.{◌≡◌, Bool, true, false, inl, inr, sym, ◌∙◌}
use Rattle.std.proofs.lemmas.Result.{on_ok_weaker}
use Rattle.machine_defs.specs.Broken.{is_hole}
use Rattle.stack_rules.proofs.HoleParts.{leads_from, led_by}
use Rattle.stack_rules.proofs.holes.note_point.Goals as goal

differ : (b : Bool) → b ≡ false → b ≡ true → ⊥
differ b e f = let z : ⊥ = cc in z

pub returns-then-not-is_hole : goal.returns-then-not-is_hole
returns-then-not-is_hole c p part t =
    let none : is_hole p c.args.options c.args.n ≡ false = sym (c.is_hole.ensures p t) ∙ c.if-not-is_hole.true in
    (λ k. inl k, λ k. elim k [ inl o ↦ o | inr l ↦ absurd (differ _ none l.left) ])

pub returns : goal.returns
returns c = on_ok_weaker c.note_edges.result (λ h p part t.
    let left : is_hole p c.args.options c.args.n ≡ true = sym (c.is_hole.ensures p t) ∙ c.if-not-is_hole.false in
    let plain : p.variant c.args.n ≡ 0 = sym (c.variant.ensures p t) ∙ c.if-variant-ne0.false in
    led_by (h p part t) (leads_from p c.args.options c.args.n part c.successors.result.now (c.successors.ensures.edges p t) plain left)) c.note_edges.ensures
