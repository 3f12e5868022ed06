use Rattle.std.proofs.Common.{◌≡◌, ◌<◌, ◌^◌, true, false, List, Some, None, sym, ap, ◌∙◌, arith}
use Rattle.std.specs.Prelude.{is_some}
use Rattle.ot_base.specs.declared.place.Place.{Place}
use Rattle.ot_base.specs.Places.{same_place}
use Rattle.flow_defs.specs.Coded.{Coded}
use Rattle.special_sections.specs.declared.entries.AltEntry.{AltEntry}
use Rattle.special_sections.specs.Special.{special_of}
use Rattle.alternatives.specs.declared.point.Point.{Point}
use Rattle.alternatives.specs.Points.{entry_of}
use Rattle.alternatives.specs.Texts.{behind}
use Rattle.flow_defs.specs.declared.destination.Crossing.TheVariants.{MayNotCross}
use Rattle.flow_defs.specs.declared.destination.Destination.TheVariants.{ToPlace}
use Rattle.flow_defs.specs.Arrival.{replacement_end}
use Rattle.flow_defs.specs.Code.{alternatives_of, is_plain, number_of, point_at}
use Rattle.flow_defs.specs.Targets.{own_destination}
use Rattle.point_arrivals.proofs.Aims.{behind_own, other_point, within_own}
use Rattle.point_arrivals.proofs.LowPlaces.{low_original}
use Rattle.point_arrivals.proofs.destinations.own_destination.Goals as goal

pub returns-then-is_some : goal.returns-then-is_some
returns-then-is_some c =
    let o : Coded = c.args.places.now in
    let from : Point = c.point-from.result in
    let place : Place = c.in-Some.place in
    let known : is_some (number_of o (other_point from place)) ≡ true = ap is_some (sym c.number_of.ensures) ∙ sym c.is_some.ensures ∙ c.if-is_some.true in
    within_own o from place known
    ∙ ap (λ (p : Point). own_destination o p (Some place)) c.point-from.ensures.value
    ∙ ap (own_destination o (point_at o c.args.n)) (sym c.in-Some.is)

pub behind-requires : goal.behind-requires
behind-requires c =
    let o : Coded = c.args.places.now in
    let from : Point = c.point-from.result in
    let all : c.alternatives.result.now ≡ alternatives_of o = c.alternatives.ensures ∙ ap (λ s. s.alternatives) (c.special.ensures ∙ ap (λ (e : Coded). special_of e.elf) c.linked.ensures) in
    let replaced : is_plain from ≡ false = ap is_plain c.point-from.ensures.value ∙ c.requires.replaced in
    let low : (entry_of (alternatives_of o) from.variant).original.off < 2 ^ 32 = low_original (alternatives_of o) from c.point-from.ensures.low replaced in
    omega (arith, low, ap (λ (list : List AltEntry). (entry_of list from.variant).original.off) all)

pub returns-then-is_behind : goal.returns-then-is_behind
returns-then-is_behind c =
    let o : Coded = c.args.places.now in
    let from : Point = c.point-from.result in
    let place : Place = c.in-Some.place in
    let all : c.alternatives.result.now ≡ alternatives_of o = c.alternatives.ensures ∙ ap (λ s. s.alternatives) (c.special.ensures ∙ ap (λ (e : Coded). special_of e.elf) c.linked.ensures) in
    let unknown : is_some (number_of o (other_point from place)) ≡ false = ap is_some (sym c.number_of.ensures) ∙ sym c.is_some.ensures ∙ c.if-is_some.false in
    let ends : same_place place (replacement_end o from) ≡ true =
    ap (λ (list : List AltEntry). same_place place (behind (entry_of list from.variant).replacement (entry_of list from.variant).replacement_len)) (sym all) ∙ sym c.is_behind.ensures ∙ c.if-is_behind.true in
    ap (λ (p : Place). ToPlace p None MayNotCross) (c.behind.ensures ∙ ap (λ (list : List AltEntry). behind (entry_of list from.variant).original (entry_of list from.variant).original_len) all)
    ∙ behind_own o from place true unknown ends
    ∙ ap (λ (p : Point). own_destination o p (Some place)) c.point-from.ensures.value
    ∙ ap (own_destination o (point_at o c.args.n)) (sym c.in-Some.is)

pub returns-else-is_behind : goal.returns-else-is_behind
returns-else-is_behind c =
    let o : Coded = c.args.places.now in
    let from : Point = c.point-from.result in
    let place : Place = c.in-Some.place in
    let all : c.alternatives.result.now ≡ alternatives_of o = c.alternatives.ensures ∙ ap (λ s. s.alternatives) (c.special.ensures ∙ ap (λ (e : Coded). special_of e.elf) c.linked.ensures) in
    let unknown : is_some (number_of o (other_point from place)) ≡ false = ap is_some (sym c.number_of.ensures) ∙ sym c.is_some.ensures ∙ c.if-is_some.false in
    let ends : same_place place (replacement_end o from) ≡ false =
    ap (λ (list : List AltEntry). same_place place (behind (entry_of list from.variant).replacement (entry_of list from.variant).replacement_len)) (sym all) ∙ sym c.is_behind.ensures ∙ c.if-is_behind.false in
    behind_own o from place false unknown ends
    ∙ ap (λ (p : Point). own_destination o p (Some place)) c.point-from.ensures.value
    ∙ ap (own_destination o (point_at o c.args.n)) (sym c.in-Some.is)
