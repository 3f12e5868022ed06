use Rattle.std.proofs.Common.{◌≡◌, ◌≢◌, ℕ, false, true, length, Some, Contains, List, sym, ap, ◌∙◌, subst, arith}
use Rattle.std.proofs.lemmas.Bool.{false≢true}
use Rattle.ot_base.specs.declared.place.Place.{Place}
use Rattle.ot_base.specs.Places.{same_place}
use Rattle.flow_defs.specs.Coded.{Coded}
use Rattle.special_sections.specs.Special.{special_of}
use Rattle.special_sections.specs.declared.entries.AltEntry.{AltEntry}
use Rattle.alternatives.specs.declared.point.Point.{Point}
use Rattle.alternatives.specs.Points.{entry_of}
use Rattle.alternatives.proofs.Opened.{variant_inside}
use Rattle.table_law.proofs.Equal.{is_same_place, same_place_is}
use Rattle.table_law.proofs.Lists.{some_is}
use Rattle.flow_defs.specs.Arrival.{arrive}
use Rattle.flow_defs.specs.Code.{alternatives_of, point_at, texts_of}
use Rattle.object_points.proofs.Points.{numbered_point}
use Rattle.point_edges.proofs.Standing.{first_place, first_stands, plain_place, plain_stands}
use Rattle.point_edges.proofs.entered.entered_place.Goals as goal

pub returns-then-point-eq0 : goal.returns-then-point-eq0
returns-then-point-eq0 c = λ place.
    let o : Coded = c.args.places.now in
    let n : ℕ = c.args.n in
    let own : c.point-point.result.place ≡ (point_at o n).place = ap (λ (q : Point). q.place) c.point-point.ensures in
    let plain : (point_at o n).variant ≡ 0 = ap (λ (q : Point). q.variant) (sym c.point-point.ensures) ∙ c.if-point-eq0.true in
    (λ at. ap Some (own ∙ plain_place o place n plain at), λ is. subst (λ (p : Place). Contains (arrive o p) n) (sym own ∙ some_is is) (plain_stands o n c.requires plain))

pub bounds-alternatives-point : goal.bounds-alternatives-point
bounds-alternatives-point c =
    let o : Coded = c.args.places.now in
    let all : c.alternatives.result.now ≡ alternatives_of o = c.alternatives.ensures ∙ ap (λ s. s.alternatives) (c.special.ensures ∙ ap (λ (e : Coded). special_of e.elf) c.linked.ensures) in
    let known = variant_inside (texts_of o) (alternatives_of o) (point_at o c.args.n) (numbered_point o c.args.n c.requires) in
    omega (arith, known, ap (λ (q : Point). q.variant) c.point-point.ensures, ap length all, c.if-point-eq0.false)

pub returns-then-eq : goal.returns-then-eq
returns-then-eq c = λ place.
    let o : Coded = c.args.places.now in
    let n : ℕ = c.args.n in
    let p : Point = point_at o n in
    let entries : List AltEntry = c.alternatives.result.now in
    let all : entries ≡ alternatives_of o = c.alternatives.ensures ∙ ap (λ s. s.alternatives) (c.special.ensures ∙ ap (λ (e : Coded). special_of e.elf) c.linked.ensures) in
    let own : entry_of entries c.point-point.result.variant ≡ entry_of (alternatives_of o) p.variant =
    ap (λ (list : List AltEntry). entry_of list c.point-point.result.variant) all ∙ ap (λ (q : Point). entry_of (alternatives_of o) q.variant) c.point-point.ensures in
    let replaced : p.variant ≢ 0 = λ plain. c.if-point-eq0.false (ap (λ (q : Point). q.variant) c.point-point.ensures ∙ plain) in
    let first : same_place (entry_of entries c.point-point.result.variant).replacement c.point-point.result.place ≡ true = sym c.if-eq.ensures in
    let start : (entry_of (alternatives_of o) p.variant).replacement ≡ p.place =
    ap (λ (a : AltEntry). a.replacement) (sym own) ∙ same_place_is (entry_of entries c.point-point.result.variant).replacement c.point-point.result.place first ∙ ap (λ (q : Point). q.place) c.point-point.ensures in
    let origin : (entry_of entries c.point-point.result.variant).original ≡ (entry_of (alternatives_of o) p.variant).original = ap (λ (a : AltEntry). a.original) own in
    (λ at. ap Some (origin ∙ (first_place o place n replaced at).1), λ is. subst (λ (q : Place). Contains (arrive o q) n) (sym origin ∙ some_is is) (first_stands o n c.requires replaced start))

pub returns-else-eq : goal.returns-else-eq
returns-else-eq c = λ place.
    let o : Coded = c.args.places.now in
    let n : ℕ = c.args.n in
    let p : Point = point_at o n in
    let entries : List AltEntry = c.alternatives.result.now in
    let all : entries ≡ alternatives_of o = c.alternatives.ensures ∙ ap (λ s. s.alternatives) (c.special.ensures ∙ ap (λ (e : Coded). special_of e.elf) c.linked.ensures) in
    let own : entry_of entries c.point-point.result.variant ≡ entry_of (alternatives_of o) p.variant =
    ap (λ (list : List AltEntry). entry_of list c.point-point.result.variant) all ∙ ap (λ (q : Point). entry_of (alternatives_of o) q.variant) c.point-point.ensures in
    let replaced : p.variant ≢ 0 = λ plain. c.if-point-eq0.false (ap (λ (q : Point). q.variant) c.point-point.ensures ∙ plain) in
    let other : same_place (entry_of entries c.point-point.result.variant).replacement c.point-point.result.place ≡ false = sym c.if-eq.ensures in (
      λ at.
          let start = (first_place o place n replaced at).0 in
          let same : (entry_of entries c.point-point.result.variant).replacement ≡ c.point-point.result.place = ap (λ (a : AltEntry). a.replacement) own ∙ start ∙ ap (λ (q : Point). q.place) (sym c.point-point.ensures) in
          absurd (false≢true (sym other ∙ is_same_place (entry_of entries c.point-point.result.variant).replacement c.point-point.result.place same)),
      λ is. absurd (let k : ⊥ = cc in k),
    )
