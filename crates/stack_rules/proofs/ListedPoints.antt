-- The kept points of sites, from those that run in sites.
use Rattle.std.proofs.Common.{◌≡◌, ◌⊎◌, ℕ, ◌<◌, true, List, [], ◌∷◌, length, get_or, map, All, Contains, Option, Some, None, IsSome, inl, inr, arith, refl, ap, sym, ◌∙◌, subst}
use Rattle.std.specs.List.{AllPairs}
use Rattle.std.specs.List.Sorted.{IsPermutation}
use Rattle.std.proofs.lemmas.List.Elements.{All-contains, Contains-get_or}
use Rattle.std.proofs.lemmas.List.Sorted.{Contains-permutation, IsPermutation-sym}
use Rattle.ot_base.specs.declared.place.Place.{Place}
use Rattle.state_defs.specs.declared.state.State.{State}
use Rattle.machine_defs.specs.Program.{Program, Site, IsPoint, in_site}
use Rattle.machine_defs.specs.IsProgram.{IsLaidOut}
use Rattle.machine_defs.specs.Kept.{Kept, AreKeptStates}
use Rattle.machine_defs.specs.Broken.{KeptInSite}
use Rattle.unwinding_law.proofs.Lists.{here, there, cases, nowhere, in_map}
use Rattle.program_graph.specs.declared.parts.GraphSite.{GraphSite as OwnSite}
use Rattle.program_graph.specs.Tells.{site_of}
use Rattle.kept_states.specs.LevelStates.{at}
use Rattle.kept_states.proofs.Rounds.{at_some}
use Rattle.stack_rules.specs.Sites.{in_own_site, AreApart, IsIndexOf}
use Rattle.stack_rules.specs.Points.{ArePointsIn, AreAmong, IsStartOf, AreKeptIn, ComesBefore, AreInOrder, IsSitePoint, AreSitePoints}
use Rattle.stack_rules.proofs.Order.{first_of_points}
use Rattle.stack_rules.proofs.Finding.{held_some, start_held}
use Rattle.stack_rules.proofs.Permuted.{keys_differ}

-- what is mapped comes from an element
from_map : {X Y : Type 0} (f : X → Y) (xs : List X) (y : Y) → Contains (map f xs) y → (x : X) × Contains xs x × (f x ≡ y)
from_map f [] y c = nowhere y c
from_map f (x ∷ xs) y c = elim (cases (f x) (map f xs) y c) [ inl e ↦ (x, here x xs, e) | inr d ↦ let r = from_map f xs y d in (r.0, there x xs r.0 r.1, r.2) ]

-- a site of the graph is told by that of the program
own : Place → ℕ → OwnSite
own start len = record { start = start; len = len }

own_is : (s : OwnSite) → own s.start s.len ≡ s
unfolding own
own_is s = refl

pub equal_sites : (one other : OwnSite) → one.start ≡ other.start → one.len ≡ other.len → one ≡ other
equal_sites one other start len = let k : own one.start one.len ≡ own other.start other.len = cc in sym (own_is one) ∙ (k ∙ own_is other)

pub same_own : (one other : OwnSite) → site_of one ≡ site_of other → one ≡ other
same_own one other e = equal_sites one other (ap (λ (s : Site). s.start) e) (ap (λ (s : Site). s.len) e)

-- what has a state is something
some_state : (o : Option State) → IsSome o → (s : State) × (o ≡ Some s)
some_state None h = absurd (let k : ⊥ = cc in k)
some_state (Some s) h = (s, refl)

pub some_is_point : (kept : List (Option State)) (q : ℕ) → IsSome (at kept q) → q < length kept
some_is_point kept q h = let s = some_state (at kept q) h in at_some kept q s.0 s.1

-- the sites of a graph, but for those without a byte
pub index_of : (p : Program) (sites index : List OwnSite) → map site_of sites ≡ p.sites → ((site : OwnSite) → Contains index site → Contains sites site)
    → ((site : OwnSite) → Contains sites site → 0 < site.len → Contains index site) → IsIndexOf p index
index_of p sites index t listed all = record {
  listed = λ site c. subst (λ (xs : List Site). Contains xs (site_of site)) t (in_map site_of sites site (listed site c));
  all = λ site place c h.
      let r = from_map site_of sites site (subst (λ (xs : List Site). Contains xs site) (sym t) c) in
      (r.0, all r.0 r.1 (held_some place r.0 (subst (λ (s : Site). in_site s place ≡ true) (sym r.2) h)), r.2);
}

-- they share no byte
pub index_apart : (p : Program) (index : List OwnSite) → IsLaidOut p → IsIndexOf p index → AreApart index
index_apart p index laid is one other place c d h k = same_own one other (laid.sites_apart (site_of one) (site_of other) place (is.listed one c) (is.listed other d) h k)

module _ (p : Program) (laid : IsLaidOut p) (kept : List (Option State)) (states : AreKeptStates p (at kept)) (count : p.count ≡ length kept) where
  -- what has a state is a kept point
  point_of : (q : ℕ) → IsSome (at kept q) → IsPoint p q × ((s : State) × Kept p q s)
  point_of q h =
      let s = some_state (at kept q) h in
      let l : q < length kept = some_is_point kept q h in
      (omega (arith, l, count), (s.0, (states q s.0).0 s.1))

  -- and the other way round
  kept_some : (q : ℕ) (s : State) → Kept p q s → IsSome (at kept q)
  kept_some q s k = let e : at kept q ≡ Some s = (states q s).1 k in subst IsSome (sym e) refl

  kept_point : (q : ℕ) (s : State) → Kept p q s → IsPoint p q
  kept_point q s k = (point_of q (kept_some q s k)).0

  module _ (index : List OwnSite) (is : IsIndexOf p index) (all : List ℕ) (are : ArePointsIn p (at kept) index all) (all_kept : All (λ q. IsSome (at kept q)) all) (starts : List OwnSite) (kept_in : AreKeptIn p all index starts) where
    apart : AreApart index
    apart = index_apart p index laid is

    pub starts_apart : AreApart starts
    starts_apart one other place c d h k = apart one other place (kept_in.each one c).0 (kept_in.each other d).0 h k

    -- a site that is listed holds its kept points
    each_point : (q : ℕ) → IsSome (at kept q) → (site : OwnSite) → Contains starts site → in_own_site site (p.address q) ≡ true → IsSitePoint p q
    each_point q some site listed inside =
        let r = (kept_in.each site listed).1 in
        let first : IsStartOf p site r.0 = r.2 in
        let start = point_of r.0 (All-contains (λ (z : ℕ). IsSome (at kept z)) all r.0 all_kept r.1) in
        let place : p.place r.0 ≡ site.start = sym (laid.plain r.0 start.0 first.variant) ∙ first.start in
        let own_state = (point_of q some).1 in
        record {
          site = site_of site;
          state = own_state.0;
          kept = record {
            listed = is.listed site (kept_in.each site listed).0;
            plain = r.0;
            start = (place, first.variant);
            start_kept = start.1;
            inside = inside;
            kept = own_state.1;
          };
        }

    -- a kept point of a site whose start is kept runs in a kept site
    site_kept : (site : Site) (q : ℕ) (s : State) → KeptInSite p site q s → (o : OwnSite) × Contains starts o × (site_of o ≡ site)
    site_kept site q s k =
        let o = is.all site (p.address q) k.listed k.inside in
        let here : in_own_site o.0 (p.address q) ≡ true = subst (λ (z : Site). in_site z (p.address q) ≡ true) (sym o.2) k.inside in
        let point : IsPoint p k.plain = kept_point k.plain (k.start_kept).0 (k.start_kept).1 in
        let first : p.address k.plain ≡ (o.0).start = laid.plain k.plain point (k.start).1 ∙ ((k.start).0 ∙ ap (λ (z : Site). z.start) (sym o.2)) in
        let held : in_own_site o.0 (p.address k.plain) ≡ true = subst (λ (z : Place). in_own_site o.0 z ≡ true) (sym first) (start_held o.0 (held_some (p.address q) o.0 here)) in
        let listed : Contains all k.plain = are.all k.plain point (kept_some k.plain (k.start_kept).0 (k.start_kept).1) (o.0, o.1, held) in
        let is_start : IsStartOf p o.0 k.plain = record { variant = (k.start).1; start = first; inside = held } in
        (o.0, kept_in.all k.plain o.0 listed o.1 is_start, o.2)

    -- so the points in kept sites, in order, are those of the sites whose start is kept
    pub site_points : (points sorted : List ℕ) → AreAmong p all starts points → AllPairs (λ q r. q < r) points → IsPermutation points sorted → AreInOrder p sorted → AreSitePoints p sorted
    site_points points sorted among up same ordered = record {
      ascend = λ i j d l inside. strict i j d l inside (first_of_points p (get_or sorted i d) (get_or sorted j d));
      each = λ q c. let old = among.each q (back q c) in each_point q (some old.0) (old.1).0 (old.1).1 (old.1).2;
      all = λ site q s k.
          let o = site_kept site q s k in
          let here : in_own_site o.0 (p.address q) ≡ true = subst (λ (z : Site). in_site z (p.address q) ≡ true) (sym o.2) k.inside in
          let listed : Contains all q = are.all q (kept_point q s k.kept) (kept_some q s k.kept) (o.0, (kept_in.each o.0 o.1).0, here) in
          Contains-permutation points sorted q same (among.all q listed (o.0, o.1, here));
    }
      where
        some : {q : ℕ} → Contains all q → IsSome (at kept q)
        some {q} c = All-contains (λ (z : ℕ). IsSome (at kept z)) all q all_kept c

        back : (q : ℕ) → Contains sorted q → Contains points q
        back q c = Contains-permutation sorted points q (IsPermutation-sym points sorted same) c

        point : (q : ℕ) → Contains sorted q → IsPoint p q
        point q c = (point_of q (some (among.each q (back q c)).0)).0

        strict : (i j d : ℕ) → i < j → j < length sorted → ComesBefore p (get_or sorted i d) (get_or sorted j d) ⊎ (ComesBefore p (get_or sorted j d) (get_or sorted i d) ⊎ ((p.address (get_or sorted i d) ≡ p.address (get_or sorted j d)) × (p.variant (get_or sorted i d) ≡ p.variant (get_or sorted j d)))) → ComesBefore p (get_or sorted i d) (get_or sorted j d)
        strict i j d l inside (inl h) = h
        strict i j d l inside (inr (inl h)) = absurd (ordered i j d (omega arith) inside h)
        strict i j d l inside (inr (inr (e, f))) =
            let q : ℕ = get_or sorted i d in
            let r : ℕ = get_or sorted j d in
            let same_point : q ≡ r = laid.apart q r (point q (Contains-get_or sorted i d (omega arith))) (point r (Contains-get_or sorted j d inside)) f e in
            absurd (keys_differ (λ (z : ℕ). z) points sorted up same i j d l inside same_point)
