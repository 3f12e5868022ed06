use Rattle.std.proofs.Common.{◌≡◌, ℕ, true, false, not, List, length, get_or, arith, sym, ap, ◌∙◌, subst}
use Rattle.std.proofs.lemmas.Bool.{false≢true}
use Rattle.std.proofs.lemmas.List.{get_or_default}
use Rattle.ot_base.specs.Places.{same_place}
use Rattle.alternatives.specs.declared.site.AlternativesSite.{AlternativesSite}
use Rattle.alternatives.proofs.SiteEntries.{none_from, all_from, one_holds, place_is, not_false, is_place_refl}
use Rattle.alternatives.proofs.Whole.{fill_within}
use Rattle.alternatives.proofs.site.numbers_from.Goals as goal

none : AlternativesSite
none = record { start = record { sec = 0; off = 0 }; len = 0; first = 0; count = 0 }

pub returns-in_default : goal.returns-in_default
returns-in_default c = λ entries are.
    sym (none_from entries c.args.sites.now c.args.numbers.now are c.args.place (λ j d inside starts held. false≢true (sym (c.in_default.ensures j d inside) ∙ held)))

pub returns-then-ne : goal.returns-then-ne
unfolding none
returns-then-ne c = λ entries are.
    let sites : List AlternativesSite = c.args.sites.now in
    let n : ℕ = c.in-Some.found in
    let differ : not (same_place (get_or sites n none).start c.args.place) ≡ true = sym c.ne.ensures ∙ c.if-ne.true in
    sym (none_from entries sites c.args.numbers.now are c.args.place (λ j d inside starts held.
    let same : j ≡ n = one_holds sites c.args.place j n d c.requires.apart inside c.in-Some.ensures.0 held (c.in-Some.ensures.1 d) in
    let there : (get_or sites n d).start ≡ c.args.place = subst (λ k. (get_or sites k d).start ≡ c.args.place) same starts in
    let here : (get_or sites n none).start ≡ c.args.place = ap (λ (s : AlternativesSite). s.start) (get_or_default sites n none d c.in-Some.ensures.0) ∙ there in
    false≢true (sym (ap not (is_place_refl (get_or sites n none).start c.args.place here)) ∙ differ)))

pub returns : goal.returns
unfolding none
returns c = λ entries are.
    let sites : List AlternativesSite = c.args.sites.now in
    let n : ℕ = c.in-Some.found in
    let same : not (same_place (get_or sites n none).start c.args.place) ≡ false = sym c.ne.ensures ∙ c.if-ne.false in
    all_from entries sites c.args.numbers.now are c.args.place n none c.in-Some.ensures.0
    (place_is (get_or sites n none).start c.args.place (not_false (same_place (get_or sites n none).start c.args.place) same)) (c.in-Some.ensures.1 none)

pub overflow_cast-first : goal.overflow_cast-first
unfolding none
overflow_cast-first c = omega (arith, c.requires.some, fill_within 0 (length c.args.numbers.now) c.args.sites.now c.in-Some.found none c.requires.fill c.in-Some.ensures.0)

pub overflow_cast-end : goal.overflow_cast-end
unfolding none
overflow_cast-end c = omega (arith, c.requires.some, fill_within 0 (length c.args.numbers.now) c.args.sites.now c.in-Some.found none c.requires.fill c.in-Some.ensures.0)

pub overflow_add-end : goal.overflow_add-end
unfolding none
overflow_add-end c = omega (arith, c.requires.some, fill_within 0 (length c.args.numbers.now) c.args.sites.now c.in-Some.found none c.requires.fill c.in-Some.ensures.0)

pub offset_bounds-numbers-first : goal.offset_bounds-numbers-first
unfolding none
offset_bounds-numbers-first c = omega (arith, c.requires.some, fill_within 0 (length c.args.numbers.now) c.args.sites.now c.in-Some.found none c.requires.fill c.in-Some.ensures.0)

pub slice_bounds-result-end-2 : goal.slice_bounds-result-end-2
unfolding none
slice_bounds-result-end-2 c =
    let reach = fill_within 0 (length c.args.numbers.now) c.args.sites.now c.in-Some.found none c.requires.fill c.in-Some.ensures.0 in
    omega arith
