-- Which site holds a place.
use Rattle.std.proofs.Common.{◌≡◌, ℕ, ◌+◌, ◌-◌, ◌<◌, ◌≤◌, true, false, not, ◌&&◌, eqb, ltb, leb, List, length, get_or, Contains, inl, inr, arith, ap, sym, ◌∙◌, subst}
use Rattle.std.specs.Ordering.{nat_cmp, is_lt, ordering_then}
use Rattle.std.specs.List.Sorted.{IsPartitionedBy}
use Rattle.std.proofs.lemmas.Bool.{cases_lt, cases_Bool, both_ways, not-true}
use Rattle.std.proofs.lemmas.Bool.Decides.{nat_tests}
use Rattle.std.proofs.lemmas.List.{get_or_default}
use Rattle.std.proofs.lemmas.List.Elements.{All-get_or}
use Rattle.ot_base.specs.declared.place.Place.{Place}
use Rattle.ot_base.specs.Places.{is_before}
use Rattle.program_graph.specs.declared.parts.GraphSite.{GraphSite as OwnSite}
use Rattle.stack_rules.specs.Sites.{in_own_site, AreApart, AreIndexed}

behind_both : (a b c d e f : ℕ) → is_lt (ordering_then (nat_cmp a c) (nat_cmp b d)) ≡ true → is_lt (ordering_then (nat_cmp e c) (nat_cmp f d)) ≡ false → is_lt (ordering_then (nat_cmp a e) (nat_cmp b f)) ≡ true
behind_both a b c d e f h k = grind (arith, nat_tests)

-- those that begin at a place or before it stand in front
pub parted : (sites : List OwnSite) (place : Place) → AreIndexed sites → IsPartitionedBy (λ (s : OwnSite). not (is_before place s.start)) sites
parted sites place indexed i j d order inside h =
    elim (cases_Bool (is_before place (get_or sites i d).start)) [
      | inl before ↦ absurd (both_ways (is_before place (get_or sites j d).start) (not-true (is_before place (get_or sites j d).start) h)
          (behind_both place.sec place.off (get_or sites i d).start.sec (get_or sites i d).start.off (get_or sites j d).start.sec (get_or sites j d).start.off before (indexed.ascend i j d order inside)))
      | inr clear ↦ ap not clear
    ]

-- a place that isn't before another isn't before what that isn't before
after_both : (a b c d e f : ℕ) → is_lt (ordering_then (nat_cmp a c) (nat_cmp b d)) ≡ false → is_lt (ordering_then (nat_cmp c e) (nat_cmp d f)) ≡ false → is_lt (ordering_then (nat_cmp a e) (nat_cmp b f)) ≡ false
after_both a b c d e f h k = grind (arith, nat_tests)

-- where the last of so many begins at the place or before it, all of them do
pub begun : (sites : List OwnSite) (place : Place) → AreIndexed sites → (n k : ℕ) (d : OwnSite) → k ≤ n → n < length sites → is_before place (get_or sites n d).start ≡ false → is_before place (get_or sites k d).start ≡ false
begun sites place indexed n k d order inside h =
    after_both place.sec place.off (get_or sites n d).start.sec (get_or sites n d).start.off (get_or sites k d).start.sec (get_or sites k d).start.off h (indexed.ascend k n d order inside)

-- where one begins behind the place, all from there on do
pub unbegun : (sites : List OwnSite) (place : Place) → AreIndexed sites → (n k : ℕ) (d : OwnSite) → n ≤ k → k < length sites → is_before place (get_or sites n d).start ≡ true → is_before place (get_or sites k d).start ≡ true
unbegun sites place indexed n k d order inside h =
    behind_both place.sec place.off (get_or sites n d).start.sec (get_or sites n d).start.off (get_or sites k d).start.sec (get_or sites k d).start.off h (indexed.ascend n k d order inside)

before_start : (a b c d n : ℕ) → is_lt (ordering_then (nat_cmp a c) (nat_cmp b d)) ≡ true → (eqb c a && (leb d b && ltb b (d + n))) ≡ false
before_start a b c d n h = grind (arith, nat_tests)

-- no site holds a place before its start
pub before_not_held : (place : Place) (site : OwnSite) → is_before place site.start ≡ true → in_own_site site place ≡ false
before_not_held place site h = before_start place.sec place.off site.start.sec site.start.off site.len h

some_there : (a b c d n : ℕ) → (eqb c a && (leb d b && ltb b (d + n))) ≡ true → 0 < n
some_there a b c d n h = grind (arith, nat_tests)

-- a site that holds a place has a byte
pub held_some : (place : Place) (site : OwnSite) → in_own_site site place ≡ true → 0 < site.len
held_some place site h = some_there place.sec place.off site.start.sec site.start.off site.len h

start_there : (a b n : ℕ) → 0 < n → (eqb a a && (leb b b && ltb b (b + n))) ≡ true
start_there a b n h = grind (arith, nat_tests)

-- a site with a byte holds its start
pub start_held : (site : OwnSite) → 0 < site.len → in_own_site site site.start ≡ true
start_held site h = start_there site.start.sec site.start.off site.len h

between_there : (a b c d n e f : ℕ) → (eqb c a && (leb d b && ltb b (d + n))) ≡ true → is_lt (ordering_then (nat_cmp e c) (nat_cmp f d)) ≡ false → is_lt (ordering_then (nat_cmp a e) (nat_cmp b f)) ≡ false → (eqb c e && (leb d f && ltb f (d + n))) ≡ true
between_there a b c d n e f h k l = grind (arith, nat_tests)

-- a site that holds a place holds what stands between its start and the place
between_held : (place other : Place) (site : OwnSite) → in_own_site site place ≡ true → is_before other site.start ≡ false → is_before place other ≡ false → in_own_site site other ≡ true
between_held place other site h k l = between_there place.sec place.off site.start.sec site.start.off site.len other.sec other.off h k l

-- of sites that share no byte, where the last that begins at a place or before it doesn't hold it, none does
pub none_holds : (sites : List OwnSite) (place : Place) (n : ℕ) (last : OwnSite) → AreIndexed sites → AreApart sites → n < length sites → last ≡ get_or sites n last
    → is_before place last.start ≡ false → ((k : ℕ) (d : OwnSite) → n < k → k < length sites → is_before place (get_or sites k d).start ≡ true) → in_own_site last place ≡ false
    → (site : OwnSite) → Contains sites site → in_own_site site place ≡ false
none_holds sites place n last indexed apart inside is from behind not_held site (k, l, at) =
    elim (cases_lt n k) [
      | inl above ↦ before_not_held place site (subst (λ (s : OwnSite). is_before place s.start ≡ true) at (behind k site above l))
      | inr low ↦ elim (cases_Bool (in_own_site site place)) [ inr clear ↦ clear | inl held ↦ absurd (bad low held) ]
    ]
  where
    listed : Contains sites last
    listed = (n, inside, sym is)

    bad : k ≤ n → in_own_site site place ≡ true → ⊥
    bad low held =
        let ordered : is_before (get_or sites n last).start (get_or sites k last).start ≡ false = indexed.ascend k n last low inside in
        let site_is : get_or sites k last ≡ site = get_or_default sites k last site l ∙ at in
        let here : is_before last.start site.start ≡ false = subst (λ (s : OwnSite). is_before last.start s.start ≡ false) site_is (subst (λ (s : OwnSite). is_before s.start (get_or sites k last).start ≡ false) (sym is) ordered) in
        let there : in_own_site site last.start ≡ true = between_held place last.start site held here from in
        let some : 0 < last.len = subst (λ (s : OwnSite). 0 < s.len) (sym is) (All-get_or (λ (s : OwnSite). 0 < s.len) sites n last inside indexed.some) in
        let same : site ≡ last = apart site last last.start (k, l, at) listed there (start_held last some) in
        both_ways (in_own_site last place) not_held (subst (λ (s : OwnSite). in_own_site s place ≡ true) same held)

-- no site holds a place before the one with a number, and behind the one before that
pub none_between : (sites : List OwnSite) (place : Place) (near : ℕ) (d : OwnSite) → AreIndexed sites → AreApart sites → near ≤ length sites
    → (0 < near → (is_before place (get_or sites (near - 1) d).start ≡ false) × (in_own_site (get_or sites (near - 1) d) place ≡ false))
    → (near < length sites → is_before place (get_or sites near d).start ≡ true)
    → (site : OwnSite) → Contains sites site → in_own_site site place ≡ false
none_between sites place near d indexed apart within before behind site (k, l, at) = elim (cases_lt k near) [
  | inr above ↦ before_not_held place site (subst (λ (s : OwnSite). is_before place s.start ≡ true) (get_or_default sites k d site l ∙ at) (from_there k d above l))
  | inl below ↦
      let h = before (omega arith) in
      none_holds sites place (near - 1) (get_or sites (near - 1) d) indexed apart (omega arith) (get_or_default sites (near - 1) d (get_or sites (near - 1) d) (omega arith))
      h.0 (λ j e up m. from_there j e (omega arith) m) h.1 site (k, l, at)
]
  where
    from_there : (j : ℕ) (e : OwnSite) → near ≤ j → j < length sites → is_before place (get_or sites j e).start ≡ true
    from_there j e up m =
        unbegun sites place indexed near j e up m (subst (λ (s : OwnSite). is_before place s.start ≡ true) (get_or_default sites near d e (omega arith)) (behind (omega arith)))

-- a place that is not behind the offset at which the next site of the section begins is before it
before_next : (a b c d f : ℕ) → is_lt (ordering_then (nat_cmp a c) (nat_cmp b d)) ≡ true → (c ≡ a → f < d) → is_lt (ordering_then (nat_cmp a c) (nat_cmp f d)) ≡ true
before_next a b c d f h k = elim (cases_lt a c) [ inl lower ↦ grind (arith, nat_tests) | inr other ↦ (let same : c ≡ a = grind (arith, nat_tests) in let l : f < d = k same in grind (arith, nat_tests)) ]

not_before : (a b f : ℕ) → b ≤ f → is_lt (ordering_then (nat_cmp a a) (nat_cmp f b)) ≡ false
not_before a b f h = grind (arith, nat_tests)

-- no place is among no places
pub none_inside : (a b : ℕ) → (eqb a 0 && (leb 0 b && ltb b 0)) ≡ true → ⊥
none_inside a b h = grind (arith, nat_tests)

-- what it says that a place is among those of a gap
pub gap_parts : (a b c d e : ℕ) → (eqb a b && (leb c d && ltb d e)) ≡ true → (a ≡ b) × (c ≤ d) × (d < e)
gap_parts a b c d e h = (grind (arith, nat_tests), grind (arith, nat_tests), grind (arith, nat_tests))

-- where no site holds a place, none holds one of its section that comes before the next site
pub clear_from : (sites : List OwnSite) (place other : Place) (near : ℕ) → AreIndexed sites → other.sec ≡ place.sec → place.off ≤ other.off
    → ((k : ℕ) (d : OwnSite) → k < near → is_before place (get_or sites k d).start ≡ false)
    → ((k : ℕ) (d : OwnSite) → near ≤ k → k < length sites → is_before place (get_or sites k d).start ≡ true)
    → ((d : OwnSite) → near < length sites → (get_or sites near d).start.sec ≡ place.sec → other.off < (get_or sites near d).start.off)
    → ((site : OwnSite) → Contains sites site → in_own_site site place ≡ false) → (site : OwnSite) → Contains sites site → in_own_site site other ≡ false
clear_from sites place other near indexed section from low high next none site (k, l, at) = elim (cases_lt k near) [
  | inl below ↦ elim (cases_Bool (in_own_site site other)) [
    | inr clear ↦ clear
    | inl held ↦
        let started : is_before place site.start ≡ false = subst (λ (s : OwnSite). is_before place s.start ≡ false) at (low k site below) in
        let order : is_before other place ≡ false = subst (λ (s : ℕ). is_lt (ordering_then (nat_cmp s place.sec) (nat_cmp other.off place.off)) ≡ false) (sym section) (not_before place.sec place.off other.off from) in
        absurd (both_ways (in_own_site site place) (none site (k, l, at)) (between_held other place site held started order))
  ]
  | inr above ↦
      let inside : near < length sites = omega (arith, l, above) in
      let begins : is_before other (get_or sites near site).start ≡ true =
      subst (λ (s : ℕ). is_lt (ordering_then (nat_cmp s (get_or sites near site).start.sec) (nat_cmp other.off (get_or sites near site).start.off)) ≡ true) (sym section)
      (before_next place.sec place.off (get_or sites near site).start.sec (get_or sites near site).start.off other.off (high near site (omega arith) inside) (next site inside)) in
      before_not_held other site (subst (λ (s : OwnSite). is_before other s.start ≡ true) at (unbegun sites other indexed near k site above l begins))
]
