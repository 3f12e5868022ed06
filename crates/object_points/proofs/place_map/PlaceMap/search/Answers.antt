use Rattle.std.proofs.Common.{◌≡◌, ℕ, ◌<◌, ◌≤◌, true, false, List, length, drop, get_or, sym, ap, ◌∙◌, arith, subst}
use Rattle.std.specs.List.{zip}
use Rattle.ot_base.specs.declared.place.Place.{Place}
use Rattle.ot_base.specs.Places.{is_before}
use Rattle.object_points.specs.Places.{targets_of}
use Rattle.object_points.proofs.Runs.{between, first_to_end}
use Rattle.object_points.proofs.place_map.PlaceMap.search.Goals as goal

abbrev AllBefore : List Place → Place → ℕ → Type 0
AllBefore places place first = (k : ℕ) (d : Place) → k < first → is_before (get_or places k d) place ≡ true

abbrev OthersNot : List Place → Place → ℕ → Type 0
OthersNot places place first = (k : ℕ) (d : Place) → first ≤ k → k < length places → is_before (get_or places k d) place ≡ false

pub split_at-requires-2 : goal.split_at-requires-2
split_at-requires-2 c =
    let places : List Place = c.deref-2.result.now in
    let same : c.deref.result.now ≡ places = c.deref.ensures.value ∙ sym c.deref-2.ensures.value in
    let before : AllBefore places c.args.place c.count_before-first.result = subst (λ ps. AllBefore ps c.args.place c.count_before-first.result) same c.count_before-first.ensures.before in
    let within : c.count_before-first.result ≤ length places = omega (arith, c.count_before-first.ensures.within, ap length same) in
    let order : c.count_before-first.result ≤ c.count_to-end.result = first_to_end places c.args.place c.count_before-first.result c.count_to-end.result within before c.count_to-end.ensures.behind in
    omega (arith, c.split_at.ensures.front_len)

pub returns : goal.returns
returns c =
    let places : List Place = c.deref-2.result.now in
    let targets : List Place = c.deref-3.result.now in
    let first : ℕ = c.count_before-first.result in
    let end : ℕ = c.count_to-end.result in
    let same : c.deref.result.now ≡ places = c.deref.ensures.value ∙ sym c.deref-2.ensures.value in
    let before : AllBefore places c.args.place first = subst (λ ps. AllBefore ps c.args.place first) same c.count_before-first.ensures.before in
    let others : OthersNot places c.args.place first = subst (λ ps. OthersNot ps c.args.place first) same c.count_before-first.ensures.others in
    let within : first ≤ length places = omega (arith, c.count_before-first.ensures.within, ap length same) in
    let even : length targets ≡ length places = ap length c.deref-3.ensures.value ∙ c.self.invariant.1 ∙ sym (ap length c.deref-2.ensures.value) in
    c.split_at-2.ensures.back
    ∙ ap (drop first) c.split_at.ensures.front
    ∙ between places targets c.args.place first end even within c.count_to-end.ensures.within before others c.count_to-end.ensures.upto c.count_to-end.ensures.behind
    ∙ ap (λ es. targets_of es c.args.place) (ap (λ ps. zip ps targets) c.deref-2.ensures.value ∙ ap (zip c.self.inside.places.items) c.deref-3.ensures.value ∙ c.self.view_is)
