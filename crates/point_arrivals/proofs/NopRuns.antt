-- Runs of no-ops, and where control comes behind an instruction that begins none.
use Rattle.std.proofs.Common.{◌≡◌, ℕ, zero, suc, ◌+◌, ◌-◌, ◌<◌, ◌≤◌, Bool, true, false, cond, eqb, ◌&&◌, if◌then◌else◌, List, [], ◌∷◌, length, Option, Some, None, refl, sym, ap, ◌∙◌, subst, arith}
use Rattle.std.specs.Prelude.{find, is_some, nat_le, nat_lt, unwrap_or}
use Rattle.std.specs.Option.{option_map_or}
use Rattle.std.specs.List.{range_with_len, take_while}
use Rattle.std.proofs.lemmas.Bool.{and_left, false≢true}
use Rattle.std.proofs.lemmas.Bool.Decides.{nat_tests}
use Rattle.std.proofs.lemmas.List.Quantifiers.{position-Some}
use Rattle.std.proofs.lemmas.List.Sums.{take_while-cons}
use Rattle.ot_base.specs.declared.place.Place.{Place}
use Rattle.operation_defs.specs.declared.insn.Insn.{Insn}
use Rattle.machine_defs.specs.Program.{in_site, Site}
use Rattle.alternatives.specs.declared.point.Point.{Point}
use Rattle.alternatives.specs.Texts.{behind, insn_at}
use Rattle.flow_defs.specs.Coded.{Coded}
use Rattle.flow_defs.specs.Arrival.{behind_plain, decoded_insn, is_short_nop, is_short_nop_at, run_from}
use Rattle.flow_defs.specs.Decoded.{no_insn}
use Rattle.flow_defs.specs.Code.{no_point, number_of, plain_point, point_at, points_of_object, same_point, texts_of}
use Rattle.flow_defs.specs.Sites.{site_holding, sites_of}
use Rattle.point_arrivals.proofs.Numbers.{has_number}
use Rattle.point_arrivals.proofs.SamePoints.{one_point}

pub plain_behind : (o : Coded) (place : Place) (insn : Insn) (site : Option Site) → (is_short_nop insn && is_some site) ≡ false → behind_plain o place insn site ≡ behind place insn.len
plain_behind o place insn None none = refl
plain_behind o place insn (Some site) none = by (is_short_nop insn) none
  where
    by : (b : Bool) → (b && true) ≡ false → (if b then behind place (run_from o place site) else behind place insn.len) ≡ behind place insn.len
    by true h = absurd (false≢true (sym h))
    by false h = refl

-- as many pass as do before the first that doesn't
pub passing : (f : ℕ → Bool) (a n k : ℕ) → k ≤ n → ((i : ℕ) → i < k → f (a + i) ≡ true) → (k < n → f (a + k) ≡ false) → length (take_while f (range_with_len a n)) ≡ k
passing f a zero k most pass stops = omega (arith, most)
passing f a (suc n) zero most pass stops =
    ap length (take_while-cons f a (range_with_len (a + 1) n))
    ∙ ap (λ b. length (cond b (a ∷ take_while f (range_with_len (a + 1) n)) [])) (let same : a + 0 ≡ a = omega arith in sym (ap f same) ∙ stops (omega arith))
passing f a (suc n) (suc k) most pass stops =
    ap length (take_while-cons f a (range_with_len (a + 1) n))
    ∙ ap (λ b. length (cond b (a ∷ take_while f (range_with_len (a + 1) n)) [])) (let same : a + 0 ≡ a = omega arith in sym (ap f same) ∙ pass 0 (omega arith))
    ∙ ap suc (passing f (a + 1) n k (omega (arith, most)) (λ i inside. let same : a + suc i ≡ a + 1 + i = omega arith in sym (ap f same) ∙ pass (suc i) (omega (arith, inside))) (λ more. let same : a + suc k ≡ a + 1 + k = omega arith in sym (ap f same) ∙ stops (omega (arith, more))))

-- what is found passes
found_passes : {X : Type 0} (p : X → Bool) (xs : List X) (x : X) → find p xs ≡ Some x → p x ≡ true
found_passes p [] x is = let bad : ⊥ = cc in absurd bad
found_passes p (y ∷ xs) x is = by (p y) refl (found_passes p xs x) is
  where
    by : (b : Bool) → p y ≡ b → (find p xs ≡ Some x → p x ≡ true) → cond b (Some y) (find p xs) ≡ Some x → p x ≡ true
    by true passes rest h = let same : y ≡ x = cc in sym (ap p same) ∙ passes
    by false fails rest h = rest h

pub held : (o : Coded) (place : Place) (site : Site) → site_holding o place ≡ Some site → in_site site place ≡ true
unfolding site_holding
held o place site is = found_passes (λ s. in_site s place) (sites_of o) site is

-- the instruction at a place, by the number of the plain point there
plain_insn : (o : Coded) (place : Place) → decoded_insn o (plain_point place) ≡ unwrap_or (insn_at (texts_of o) place) no_insn
unfolding decoded_insn
plain_insn o place = refl

short_by : (found : Option Insn) → is_short_nop (unwrap_or found no_insn) ≡ option_map_or is_short_nop found false
short_by None = refl
short_by (Some insn) = refl

pub numbered : (o : Coded) (place : Place) (n : ℕ) → number_of o (plain_point place) ≡ Some n → (n < length (points_of_object o)) × (point_at o n ≡ plain_point place)
numbered o place n found =
    let there = position-Some (same_point (plain_point place)) (points_of_object o) n no_point found in (there.0, sym (one_point (plain_point place) (point_at o n) there.1))

pub short_there : (o : Coded) (place : Place) (n : ℕ) → number_of o (plain_point place) ≡ Some n → is_short_nop (decoded_insn o (point_at o n)) ≡ is_short_nop_at o place.sec place.off
short_there o place n found =
    ap (λ (q : Point). is_short_nop (decoded_insn o q)) (numbered o place n found).1
    ∙ ap is_short_nop (plain_insn o place)
    ∙ short_by (insn_at (texts_of o) place)

-- where there is none, no instruction begins
pub none_there : (o : Coded) (place : Place) → number_of o (plain_point place) ≡ None → false ≡ is_short_nop_at o place.sec place.off
none_there o place none = by (insn_at (texts_of o) place) (has_number o (plain_point place))
  where
    by : (found : Option Insn) → (is_some found ≡ true → is_some (number_of o (plain_point place)) ≡ true) → false ≡ option_map_or is_short_nop found false
    by None known = refl
    by (Some insn) known = absurd (false≢true (sym (ap (λ (x : Option ℕ). is_some x) none) ∙ known refl))

pub behind_long : (o : Coded) (place : Place) (insn : Insn) (site : Option Site) → is_short_nop insn ≡ false → behind_plain o place insn site ≡ behind place insn.len
behind_long o place insn site long = plain_behind o place insn site (and_left (is_short_nop insn) (is_some site) long)

pub behind_run : (o : Coded) (place : Place) (insn : Insn) (site : Site) (found : Option Site) → is_short_nop insn ≡ true → found ≡ Some site → behind_plain o place insn found ≡ behind place (run_from o place site)
behind_run o place insn site found short is =
    ap (behind_plain o place insn) is
    ∙ ap (λ b. if b then behind place (run_from o place site) else behind place insn.len) short

-- what is left of a site from one of its places on
left_of : (sec start len place_sec off : ℕ) → (eqb sec place_sec && (nat_le start off && nat_lt off (start + len))) ≡ true → len - (off - start) ≡ start + len - off
left_of sec start len place_sec off inside = grind (arith, nat_tests)

pub left_is : (site : Site) (place : Place) → in_site site place ≡ true → site.len - (place.off - site.start.off) ≡ site.start.off + site.len - place.off
left_is site place inside = left_of site.start.sec site.start.off site.len place.sec place.off inside

-- the run is as long as no-ops follow each other in the site
pub run_is : (o : Coded) (place : Place) (site : Site) (k : ℕ) → in_site site place ≡ true → k ≤ site.len - (place.off - site.start.off) → ((i : ℕ) → i < k → is_short_nop_at o place.sec (place.off + i) ≡ true) → (k < site.len - (place.off - site.start.off) → is_short_nop_at o place.sec (place.off + k) ≡ false) → k ≡ run_from o place site
run_is o place site k inside most pass stops =
    sym (passing (is_short_nop_at o place.sec) place.off (site.start.off + site.len - place.off) k (subst (λ m. k ≤ m) (left_is site place inside) most) pass (λ more. stops (subst (λ m. k < m) (sym (left_is site place inside)) more)))
