use Rattle.std.proofs.Common.{◌≡◌, ℕ, ◌<◌, List, All, length, get_or, Option, sym, ap, ◌∙◌, subst, true, arith}
use Rattle.std.specs.List.{list_all}
use Rattle.std.proofs.lemmas.List.{take_all}
use Rattle.special_sections.specs.declared.entries.AltEntry.{AltEntry}
use Rattle.alternatives.specs.declared.point.Point.{Point}
use Rattle.alternatives.specs.Numbers.{IsNumberOf}
use Rattle.alternatives.specs.Points.{entries_from, first_of}
use Rattle.flow_defs.specs.Coded.{Coded}
use Rattle.flow_defs.specs.Code.{alternatives_of, points_of_object}
use Rattle.point_arrivals.proofs.Arriving.{entries_inside, first_number}
use Rattle.point_arrivals.proofs.Numbers.{number_is}
use Rattle.point_edges.specs.Callees.{is_free_if_any}
use Rattle.point_edges.proofs.Callees.{all_such, first_more, is_free_first, not_first, not_plain, number_fits}
use Rattle.point_edges.proofs.called.are_free_callees.Goals as goal

pub returns-then-not-is_free_if_any : goal.returns-then-not-is_free_if_any
returns-then-not-is_free_if_any c =
    let o : Coded = c.args.places.now in
    not_plain o c.args.place c.is_free_if_any.result (c.is_free_if_any.ensures ∙ ap (is_free_if_any o) c.number_of.ensures) c.if-not-is_free_if_any.true

pub number_of_first-requires : goal.number_of_first-requires
number_of_first-requires c =
    let entries : List AltEntry = c.sites-sites.result.now.entries in
    let inside : All (λ k. k < length entries) c.entries_at-entry-items.result.now = subst (All (λ k. k < length entries)) (sym c.entries_at-entry-items.ensures) (entries_inside entries c.args.place) in
    inside c.loop-entry.entry-index 0 c.loop-entry-test.true

pub is_free_if_any-requires-in-loop-entry : goal.is_free_if_any-requires-in-loop-entry
is_free_if_any-requires-in-loop-entry c =
    let o : Coded = c.args.places.now in
    let k : ℕ = get_or c.entries_at-entry-items.result.now c.loop-entry.entry-index 0 in
    let found : Option ℕ = c.number_of_first.result in
    let entries : c.sites-sites.result.now.entries ≡ alternatives_of o = c.sites-sites.ensures.entries ∙ ap alternatives_of c.linked.ensures in
    let points : c.sites-sites.result.now.points ≡ points_of_object o = c.sites-sites.ensures.points ∙ ap points_of_object c.linked.ensures in
    let at_points : IsNumberOf (points_of_object o) (first_of c.sites-sites.result.now.entries k) found = subst (λ (ps : List Point). IsNumberOf ps (first_of c.sites-sites.result.now.entries k) found) points c.number_of_first.ensures in
    let at_entries : IsNumberOf (points_of_object o) (first_of (alternatives_of o) k) found = subst (λ (es : List AltEntry). IsNumberOf (points_of_object o) (first_of es k) found) entries at_points in
    number_fits o (first_of (alternatives_of o) k) found (number_is o (first_of (alternatives_of o) k) found at_entries)

pub returns-then-not-is_free_if_any-2 : goal.returns-then-not-is_free_if_any-2
returns-then-not-is_free_if_any-2 c =
    let o : Coded = c.args.places.now in
    let ks : List ℕ = c.entries_at-entry-items.result.now in
    let k : ℕ = get_or ks c.loop-entry.entry-index 0 in
    let found : Option ℕ = c.number_of_first.result in
    let entries : c.sites-sites.result.now.entries ≡ alternatives_of o = c.sites-sites.ensures.entries ∙ ap alternatives_of c.linked.ensures in
    let points : c.sites-sites.result.now.points ≡ points_of_object o = c.sites-sites.ensures.points ∙ ap points_of_object c.linked.ensures in
    let at_points : IsNumberOf (points_of_object o) (first_of c.sites-sites.result.now.entries k) found = subst (λ (ps : List Point). IsNumberOf ps (first_of c.sites-sites.result.now.entries k) found) points c.number_of_first.ensures in
    let at_entries : IsNumberOf (points_of_object o) (first_of (alternatives_of o) k) found = subst (λ (es : List AltEntry). IsNumberOf (points_of_object o) (first_of es k) found) entries at_points in
    let number : found ≡ first_number o k = number_is o (first_of (alternatives_of o) k) found at_entries in
    let all : ks ≡ entries_from (alternatives_of o) c.args.place = c.entries_at-entry-items.ensures ∙ ap (λ (es : List AltEntry). entries_from es c.args.place) entries in
    not_first o c.args.place ks c.loop-entry.entry-index c.is_free_if_any-in-loop-entry.result all c.loop-entry-test.true (c.is_free_if_any-in-loop-entry.ensures ∙ ap (is_free_if_any o) number) c.if-not-is_free_if_any-2.true

pub loop-entry-preserved : goal.loop-entry-preserved
loop-entry-preserved c =
    let o : Coded = c.args.places.now in
    let ks : List ℕ = c.entries_at-entry-items.result.now in
    let k : ℕ = get_or ks c.loop-entry.entry-index 0 in
    let found : Option ℕ = c.number_of_first.result in
    let entries : c.sites-sites.result.now.entries ≡ alternatives_of o = c.sites-sites.ensures.entries ∙ ap alternatives_of c.linked.ensures in
    let points : c.sites-sites.result.now.points ≡ points_of_object o = c.sites-sites.ensures.points ∙ ap points_of_object c.linked.ensures in
    let at_points : IsNumberOf (points_of_object o) (first_of c.sites-sites.result.now.entries k) found = subst (λ (ps : List Point). IsNumberOf ps (first_of c.sites-sites.result.now.entries k) found) points c.number_of_first.ensures in
    let at_entries : IsNumberOf (points_of_object o) (first_of (alternatives_of o) k) found = subst (λ (es : List AltEntry). IsNumberOf (points_of_object o) (first_of es k) found) entries at_points in
    let number : found ≡ first_number o k = number_is o (first_of (alternatives_of o) k) found at_entries in
    first_more o ks c.loop-entry.entry-index c.is_free_if_any-in-loop-entry.result c.loop-entry-test.true (c.is_free_if_any-in-loop-entry.ensures ∙ ap (is_free_if_any o) number) c.if-not-is_free_if_any-2.false c.loop-entry.invariant

pub returns : goal.returns
returns c =
    let o : Coded = c.args.places.now in
    let ks : List ℕ = c.entries_at-entry-items.result.now in
    let entries : c.sites-sites.result.now.entries ≡ alternatives_of o = c.sites-sites.ensures.entries ∙ ap alternatives_of c.linked.ensures in
    let all : ks ≡ entries_from (alternatives_of o) c.args.place = c.entries_at-entry-items.ensures ∙ ap (λ (es : List AltEntry). entries_from es c.args.place) entries in
    all_such o c.args.place ks c.is_free_if_any.result all (c.is_free_if_any.ensures ∙ ap (is_free_if_any o) c.number_of.ensures) c.if-not-is_free_if_any.false
    (subst (λ (list : List ℕ). list_all (is_free_first o) list ≡ true) (take_all c.loop-entry.entry-index ks (omega (arith, c.loop-entry-test.false))) c.loop-entry.invariant)
