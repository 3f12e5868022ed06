use Rattle.std.proofs.Common.{◌≡◌, ℕ, false, true, eqb, Bool, Option, None, not, ◌&&◌, cond, refl, sym, ap, ◌∙◌, arith}
use Rattle.std.specs.Option.{option_or}
use Rattle.std.specs.Prelude.{option_and_then}
use Rattle.std.proofs.lemmas.Bool.Decides.{nat_tests}
use Rattle.ot_base.specs.Places.{same_place}
use Rattle.state_defs.specs.declared.state.HintState.{HintState}
use Rattle.flow_defs.specs.Coded.{Coded}
use Rattle.special_sections.specs.HintStates.{hint_at, hint_state}
use Rattle.special_sections.specs.Special.{special_of}
use Rattle.alternatives.specs.declared.point.Point.{Point}
use Rattle.alternatives.specs.Points.{entry_of}
use Rattle.flow_defs.specs.Arrival.{for_replacements, hint_of, own_hint_of, start_hint_of}
use Rattle.flow_defs.specs.Decoded.{is_padding}
use Rattle.flow_defs.specs.Code.{alternatives_of, point_at}
use Rattle.object_points.proofs.places.PointPlaces.may_have_hint.Goals as goal

no_hint : Option HintState
no_hint = None

never : (b : Bool) → cond b None no_hint ≡ None
unfolding no_hint
never true = refl
never false = refl

zero : (n : ℕ) → n ≡ 0 → eqb n 0 ≡ true
zero n is = grind (arith, nat_tests)

-- a plain point has the hint at its place alone
pub plain_none : (o : Coded) (p : Point) → p.variant ≡ 0 → hint_at (special_of o.elf).hints p.place ≡ None → hint_of o p ≡ None
unfolding hint_of own_hint_of no_hint
plain_none o p plain none =
    ap (λ (h : Option HintState). option_or (cond (is_padding o p) None h) (start_hint_of o p)) none
    ∙ ap (λ (h : Option HintState). option_or h (start_hint_of o p)) (never (is_padding o p))
    ∙ ap (λ (b : Bool). cond (not b && same_place p.place (entry_of (alternatives_of o) p.variant).replacement) (for_replacements (hint_at (special_of o.elf).hints (entry_of (alternatives_of o) p.variant).original)) None) (zero p.variant plain)

pub returns : goal.returns
returns c = λ no.
    let o : Coded = c.args.self.now in
    let p : Point = point_at o c.args.n in
    let none : hint_at (special_of o.elf).hints p.place ≡ None =
    sym (ap (λ (e : Coded). hint_at (special_of e.elf).hints p.place) c.self.view_is)
    ∙ sym (ap (option_and_then hint_state) (c.self.invariant.hinted.same p.place))
    ∙ sym (ap (λ (q : Point). hint_at c.self.inside.hints q.place) c.point-point.ensures)
    ∙ c.may_have.ensures no in
    plain_none o p (ap (λ (q : Point). q.variant) (sym c.point-point.ensures) ∙ c.if-point-ne0.false) none
