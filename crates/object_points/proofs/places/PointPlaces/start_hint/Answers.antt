use Rattle.std.proofs.Common.{Bool, cond, not, ◌&&◌, Option, None, refl, ℕ, false, true, eqb, ◌≡◌, List, length, sym, ap, ◌∙◌, arith}
use Rattle.std.proofs.lemmas.Bool.Decides.{nat_tests}
use Rattle.flow_defs.specs.Coded.{Coded}
use Rattle.special_sections.specs.declared.entries.AltEntry.{AltEntry}
use Rattle.special_sections.specs.Special.{special_of}
use Rattle.alternatives.specs.declared.point.Point.{Point}
use Rattle.alternatives.specs.Points.{entry_of}
use Rattle.alternatives.proofs.Opened.{variant_inside}
use Rattle.flow_defs.specs.Code.{alternatives_of, point_at, texts_of}
use Rattle.ot_base.specs.Places.{same_place}
use Rattle.state_defs.specs.declared.state.HintState.{HintState}
use Rattle.special_sections.specs.HintStates.{hint_at}
use Rattle.flow_defs.specs.Arrival.{for_replacements, start_hint_of}
use Rattle.object_points.proofs.Points.{numbered_point}
use Rattle.object_points.proofs.places.PointPlaces.start_hint.Goals as goal

pub bounds-alternatives-point : goal.bounds-alternatives-point
bounds-alternatives-point c =
    let o : Coded = c.args.self.now in
    let all : c.alternatives.result.now ≡ alternatives_of o = c.alternatives.ensures ∙ ap (λ s. s.alternatives) (c.special.ensures ∙ ap (λ (e : Coded). special_of e.elf) c.self.view_is) in
    let known = variant_inside (texts_of o) (alternatives_of o) (point_at o c.args.n) (numbered_point o c.args.n c.requires) in
    omega (arith, known, ap (λ (q : Point). q.variant) c.point-point.ensures, ap length all, c.if-point-eq0.false)

replaced : (v : ℕ) → (v ≡ 0 → ⊥) → eqb v 0 ≡ false
replaced v some = grind (arith, nat_tests)

-- by whether it is plain, and stands where its replacement begins
by_parts : Bool → Bool → Option HintState → Option HintState
by_parts plain same hint = cond (not plain && same) (for_replacements hint) None

module _ (o : Coded) (entries : List AltEntry) (p q : Point) (all : entries ≡ alternatives_of o) (own : p ≡ q) where
  pub entry_is : entry_of entries p.variant ≡ entry_of (alternatives_of o) q.variant
  entry_is = ap (λ (list : List AltEntry). entry_of list p.variant) all ∙ ap (λ (x : Point). entry_of (alternatives_of o) x.variant) own

  pub first_hint : (p.variant ≡ 0 → ⊥) → same_place p.place (entry_of entries p.variant).replacement ≡ true → for_replacements (hint_at (special_of o.elf).hints (entry_of entries p.variant).original) ≡ start_hint_of o q
  unfolding by_parts
  first_hint other same =
      let there : same_place q.place (entry_of (alternatives_of o) q.variant).replacement ≡ true = ap (λ (x : Point). same_place x.place (entry_of (alternatives_of o) q.variant).replacement) (sym own) ∙ ap (λ (a : AltEntry). same_place p.place a.replacement) (sym entry_is) ∙ same in
      ap (λ (a : AltEntry). for_replacements (hint_at (special_of o.elf).hints a.original)) entry_is
      ∙ sym (ap (λ (b : Bool). by_parts b (same_place q.place (entry_of (alternatives_of o) q.variant).replacement) (hint_at (special_of o.elf).hints (entry_of (alternatives_of o) q.variant).original)) (replaced q.variant (λ plain. other (ap (λ (x : Point). x.variant) own ∙ plain)))
      ∙ ap (λ (b : Bool). by_parts false b (hint_at (special_of o.elf).hints (entry_of (alternatives_of o) q.variant).original)) there)

  pub no_first_hint : same_place p.place (entry_of entries p.variant).replacement ≡ false → None ≡ start_hint_of o q
  unfolding by_parts
  no_first_hint differs =
      let there : same_place q.place (entry_of (alternatives_of o) q.variant).replacement ≡ false = ap (λ (x : Point). same_place x.place (entry_of (alternatives_of o) q.variant).replacement) (sym own) ∙ ap (λ (a : AltEntry). same_place p.place a.replacement) (sym entry_is) ∙ differs in
      sym (ap (λ (b : Bool). by_parts (eqb q.variant 0) b (hint_at (special_of o.elf).hints (entry_of (alternatives_of o) q.variant).original)) there ∙ by_plain (eqb q.variant 0))
    where
      by_plain : (b : Bool) → by_parts b false (hint_at (special_of o.elf).hints (entry_of (alternatives_of o) q.variant).original) ≡ None
      by_plain true = refl
      by_plain false = refl

  pub plain_hint : p.variant ≡ 0 → None ≡ start_hint_of o q
  unfolding by_parts
  plain_hint plain = sym (ap (λ (b : Bool). by_parts b (same_place q.place (entry_of (alternatives_of o) q.variant).replacement) (hint_at (special_of o.elf).hints (entry_of (alternatives_of o) q.variant).original)) (zero q.variant (ap (λ (x : Point). x.variant) (sym own) ∙ plain)))
    where
      zero : (n : ℕ) → n ≡ 0 → eqb n 0 ≡ true
      zero n is = grind (arith, nat_tests)

pub returns-then-point-eq0 : goal.returns-then-point-eq0
returns-then-point-eq0 c = plain_hint c.args.self.now (alternatives_of c.args.self.now) c.point-point.result (point_at c.args.self.now c.args.n) refl c.point-point.ensures c.if-point-eq0.true

pub returns-then-eq : goal.returns-then-eq
returns-then-eq c =
    let o : Coded = c.args.self.now in
    let all : c.alternatives.result.now ≡ alternatives_of o = c.alternatives.ensures ∙ ap (λ s. s.alternatives) (c.special.ensures ∙ ap (λ (e : Coded). special_of e.elf) c.self.view_is) in
    c.for_replacements.ensures ∙ ap for_replacements c.hint_at.ensures ∙ first_hint o c.alternatives.result.now c.point-point.result (point_at o c.args.n) all c.point-point.ensures c.if-point-eq0.false (sym c.if-eq.ensures)

pub returns-else-eq : goal.returns-else-eq
returns-else-eq c =
    let o : Coded = c.args.self.now in
    let all : c.alternatives.result.now ≡ alternatives_of o = c.alternatives.ensures ∙ ap (λ s. s.alternatives) (c.special.ensures ∙ ap (λ (e : Coded). special_of e.elf) c.self.view_is) in
    no_first_hint o c.alternatives.result.now c.point-point.result (point_at o c.args.n) all c.point-point.ensures (sym c.if-eq.ensures)
