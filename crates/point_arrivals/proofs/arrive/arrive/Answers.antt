use Rattle.std.proofs.Common.{◌≡◌, ℕ, ◌<◌, ◌++◌, [], List, All, length, get_or, Option, sym, ap, ◌∙◌, subst, arith}
use Rattle.std.specs.List.{cons_option}
use Rattle.std.proofs.lemmas.List.{take_all}
use Rattle.flow_defs.specs.Coded.{Coded}
use Rattle.special_sections.specs.declared.entries.AltEntry.{AltEntry}
use Rattle.alternatives.specs.declared.point.Point.{Point}
use Rattle.alternatives.specs.Numbers.{IsNumberOf}
use Rattle.alternatives.specs.Points.{entries_from, first_of}
use Rattle.flow_defs.specs.Code.{alternatives_of, points_of_object}
use Rattle.point_arrivals.proofs.Arriving.{arrive_is, entries_inside, first_number, no_original, standing_at, standing_more}
use Rattle.point_arrivals.proofs.Numbers.{number_is}
use Rattle.point_arrivals.proofs.arrive.arrive.Goals as goal

pub number_of_first-requires : goal.number_of_first-requires
number_of_first-requires c =
    let entries : List AltEntry = c.sites-sites.result.now.entries in
    let inside : All (λ k. k < length entries) c.entries_at-entry-items.result.now = subst (All (λ k. k < length entries)) (sym c.entries_at-entry-items.ensures) (entries_inside entries c.args.place) in
    inside c.loop-entry.entry-index 0 c.loop-entry-test.true

pub loop-entry-preserved : goal.loop-entry-preserved
loop-entry-preserved c =
    let o : Coded = c.args.places.now in
    let i : ℕ = c.loop-entry.entry-index in
    let ks : List ℕ = c.entries_at-entry-items.result.now in
    let found : Option ℕ = c.number_of_first.result in
    let entries : c.sites-sites.result.now.entries ≡ alternatives_of o = c.sites-sites.ensures.entries ∙ ap alternatives_of c.linked.ensures in
    let points : c.sites-sites.result.now.points ≡ points_of_object o = c.sites-sites.ensures.points ∙ ap points_of_object c.linked.ensures in
    let at_points : IsNumberOf (points_of_object o) (first_of c.sites-sites.result.now.entries (get_or ks i 0)) found = subst (λ (ps : List Point). IsNumberOf ps (first_of c.sites-sites.result.now.entries (get_or ks i 0)) found) points c.number_of_first.ensures in
    let at_entries : IsNumberOf (points_of_object o) (first_of (alternatives_of o) (get_or ks i 0)) found = subst (λ (es : List AltEntry). IsNumberOf (points_of_object o) (first_of es (get_or ks i 0)) found) entries at_points in
    let number : first_number o (get_or ks i 0) ≡ found = sym (number_is o (first_of (alternatives_of o) (get_or ks i 0)) found at_entries) in
    c.in_ok-add-2.ensures
    ∙ ap (λ (list : List ℕ). list ++ cons_option found []) c.loop-entry.invariant
    ∙ sym (standing_more o c.args.place ks i found c.loop-entry-test.true number)

pub returns : goal.returns
returns c =
    let o : Coded = c.args.places.now in
    let ks : List ℕ = c.entries_at-entry-items.result.now in
    let entries : c.sites-sites.result.now.entries ≡ alternatives_of o = c.sites-sites.ensures.entries ∙ ap alternatives_of c.linked.ensures in
    let all : ks ≡ entries_from (alternatives_of o) c.args.place = c.entries_at-entry-items.ensures ∙ ap (λ (es : List AltEntry). entries_from es c.args.place) entries in
    c.loop-entry.invariant
    ∙ ap (standing_at o c.args.place) (take_all c.loop-entry.entry-index ks (omega (arith, c.loop-entry-test.false)) ∙ all)
    ∙ arrive_is o c.args.place

pub returns-then-not-contains : goal.returns-then-not-contains
returns-then-not-contains c =
    let o : Coded = c.args.places.now in
    let none : entries_from (alternatives_of o) c.args.place ≡ [] = no_original (alternatives_of o) c.args.place (sym (c.contains.ensures ∙ c.requires.same c.args.place) ∙ c.if-not-contains.true) in
    c.in_ok-add.ensures
    ∙ ap (λ (list : List ℕ). list ++ cons_option c.number_by_guess-plain.result []) c.new-points.ensures.items
    ∙ ap (λ x. cons_option x []) c.number_by_guess-plain.ensures
    ∙ ap (standing_at o c.args.place) (sym none)
    ∙ arrive_is o c.args.place
