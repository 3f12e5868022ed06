-- Places that no site holds, told by marks.
use Rattle.std.proofs.Common.{◌≡◌, ℕ, ◌+◌, ◌-◌, ◌/◌, ◌<◌, ◌≤◌, true, false, eqb, leb, ltb, ◌&&◌, ◌||◌, List, [], ◌∷◌, ◌++◌, length, get_or, None, inl, inr, arith, refl, sym, ap, ◌∙◌}
use Rattle.std.proofs.Math.Bool.{or-true}
use Rattle.std.proofs.lemmas.Bool.{cases_Bool, false≢true}
use Rattle.std.proofs.lemmas.Bool.Decides.{nat_tests}
use Rattle.std.proofs.lemmas.List.Folds.{list_any-append}
use Rattle.ot_base.specs.declared.place.Place.{Place}
use Rattle.ot_base.specs.Places.{same_place}
use Rattle.alternatives.specs.declared.site.AlternativesSite.{AlternativesSite}
use Rattle.alternatives.specs.Sites.{in_alternatives_site}
use Rattle.alternatives.proofs.SiteEntries.{is_place_refl}
use Rattle.flow_defs.specs.Coded.{Coded}
use Rattle.flow_defs.specs.Sites.{site_holding}
use Rattle.object_points.specs.Marks.{is_marked, AreMarked}
use Rattle.object_points.specs.Places.{is_among}
use Rattle.object_points.specs.Plain.{AreAllSites}
use Rattle.object_points.specs.SiteBlocks.{block_behind, block_of, HaveAllBlocks, HaveBlocks}
use Rattle.object_points.proofs.AllSites.{held_nowhere}
use Rattle.object_points.proofs.Marked.{not_among}

-- what is among places is so with one more, and that one is
pub still_among : (places : List Place) (last place : Place) → is_among places place ≡ true → is_among (places ++ last ∷ []) place ≡ true
still_among places last place among = list_any-append (same_place place) places (last ∷ []) ∙ ap (λ b. b || (same_place place last || false)) among

pub last_among : (places : List Place) (last : Place) → is_among (places ++ last ∷ []) last ≡ true
last_among places last =
    list_any-append (same_place last) places (last ∷ [])
    ∙ ap (λ b. is_among places last || (b || false)) (is_place_refl last last refl)
    ∙ or-true (is_among places last)

sec_of : (a b c d n : ℕ) → (eqb a c && (leb b d && ltb d (b + n))) ≡ true → c ≡ a
sec_of a b c d n holds = grind (arith, nat_tests)

from_of : (a b c d n : ℕ) → (eqb a c && (leb b d && ltb d (b + n))) ≡ true → b ≤ d
from_of a b c d n holds = grind (arith, nat_tests)

to_of : (a b c d n : ℕ) → (eqb a c && (leb b d && ltb d (b + n))) ≡ true → d < b + n
to_of a b c d n holds = grind (arith, nat_tests)

-- how many blocks behind its start a site holds a place
near : (start off n : ℕ) → start ≤ off → off < start + n → off / 16 - start / 16 < n / 16 + 2
near start off n from to = omega (arith, from, to)

there : (start off : ℕ) → start ≤ off → off / 16 ≡ start / 16 + (off / 16 - start / 16)
there start off from = omega (arith, from)

abbrev at : ℕ → ℕ → Place
at sec off = record { sec = sec; off = off }

-- the blocks from a site's start on are those of its places
pub have_blocks : (site : AlternativesSite) (blocks : List Place) (count : ℕ) → site.len / 16 + 2 ≤ count → ((k : ℕ) → k < count → is_among blocks (block_behind site.start k) ≡ true) → HaveBlocks site blocks
have_blocks site blocks count enough listed place holds =
    let sec : place.sec ≡ site.start.sec = sec_of site.start.sec site.start.off place.sec place.off site.len holds in
    let from : site.start.off ≤ place.off = from_of site.start.sec site.start.off place.sec place.off site.len holds in
    let to : place.off < site.start.off + site.len = to_of site.start.sec site.start.off place.sec place.off site.len holds in
    let k : ℕ = place.off / 16 - site.start.off / 16 in
    ap (λ off. is_among blocks (at place.sec off)) (there site.start.off place.off from)
    ∙ ap (λ s. is_among blocks (at s (site.start.off / 16 + k))) sec
    ∙ listed k (omega (arith, near site.start.off place.off site.len from to, enough))

-- so no site holds a place of another block
pub unmarked_none : (o : Coded) (sites : List AlternativesSite) (blocks : List Place) (marks : List ℕ) (place : Place) → AreAllSites o sites → HaveAllBlocks sites blocks → AreMarked (length marks) blocks marks → is_marked (length marks) marks (block_of place) ≡ false → site_holding o place ≡ None
unmarked_none o sites blocks marks place all have set unset =
    held_nowhere o sites place all (λ k d inside. elim (cases_Bool (in_alternatives_site (get_or sites k d) place)) [
      | inr other ↦ other
      | inl holds ↦ absurd (false≢true (sym (not_among (length marks) blocks marks (block_of place) set unset) ∙ have k d inside place holds))
    ])
