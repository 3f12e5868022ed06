-- What is no hole is in one of the parts, or not.
use Rattle.std.proofs.Common.{◌≡◌, ◌↔◌, IsTrue, Bool, true, false, Option, ℕ, inl, inr, sym, ◌∙◌, subst}
use Rattle.machine_defs.specs.Broken.{is_hole}
use Rattle.stack_rules.specs.Holes.{IsAmong}
use Rattle.stack_rules.proofs.HoleParts.{to_part, from_part}
use Rattle.stack_rules.proofs.unreached.is_left.Goals as goal

differ : (b : Bool) → b ≡ false → b ≡ true → ⊥
differ b e f = let z : ⊥ = cc in z

pub returns-else-is_hole : goal.returns-else-is_hole
returns-else-is_hole c p t holes =
    let none : is_hole p c.args.options c.args.n ≡ false = sym (c.is_hole.ensures p t) ∙ c.if-is_hole.false in
    let has : IsTrue c.has.result ↔ IsAmong c.args.parts.now (p.function c.args.n) = subst (λ (f : Option ℕ). IsTrue c.has.result ↔ IsAmong c.args.parts.now f) (c.function.ensures p t) c.has.ensures in (
      λ h. inr (to_part p c.args.options c.args.parts.now holes c.args.n (has.0 h)),
      λ k. elim k [ inl hole ↦ absurd (differ _ none hole) | inr part ↦ has.1 (from_part p c.args.options c.args.parts.now holes c.args.n part) ],
    )
