-- The sites of an object are those of its program.
use Rattle.std.proofs.Common.{◌≡◌, ℕ, ◌+◌, ◌<◌, Bool, true, false, cond, ◌&&◌, eqb, leb, ltb, List, [], length, get_or, map, find, Option, Some, None, Contains, inl, inr, refl, sym, ap, ◌∙◌, subst, arith}
use Rattle.std.specs.Prelude.{is_some, filter_map, option_map}
use Rattle.std.specs.List.{flat_map}
use Rattle.std.specs.List.Sorted.{IsStrictlySortedBy}
use Rattle.std.specs.declared.cmp.Ordering.TheVariants.{Less}
use Rattle.std.proofs.lemmas.Bool.{and_from, false≢true}
use Rattle.std.proofs.lemmas.Bool.Decides.{nat_tests}
use Rattle.std.proofs.lemmas.List.{get_or-map, get_or_default, length-map}
use Rattle.std.proofs.lemmas.Map.Keys.{sorted_from_all_adjacent}
use Rattle.ot_base.specs.declared.place.Place.{Place}
use Rattle.ot_base.specs.Places.{same_place, place_cmp}
use Rattle.flow_defs.specs.Coded.{Coded}
use Rattle.special_sections.specs.declared.entries.AltEntry.{AltEntry}
use Rattle.alternatives.specs.declared.site.AlternativesSite.{AlternativesSite}
use Rattle.alternatives.specs.Faults.{AreRight}
use Rattle.alternatives.specs.Originals.{counts, entry_at}
use Rattle.alternatives.specs.Sites.{in_alternatives_site, AreSitesOf, EndsBefore}
use Rattle.alternatives.proofs.Ascending.{In, contains_in, in-map, in_contains}
use Rattle.alternatives.proofs.Finding as finding
use Rattle.alternatives.proofs.Placed.{and_both}
use Rattle.alternatives.proofs.PointOrder.{place_equal, place_total}
use Rattle.alternatives.proofs.SiteEntries.{is_place_refl, one_holds, place_is}
use Rattle.machine_defs.specs.Program.{Site as ProgramSite, in_site}
use Rattle.flow_defs.specs.Code.{alternatives_of, texts_of}
use Rattle.flow_defs.specs.Sites.{begins_at, places_of, places_of_text, site_holding, site_of_entry, site_starting_at, sites_of}
use Rattle.object_points.specs.Plain.{program_site, AreAllSites}
use Rattle.object_points.proofs.Entries.{begins_in_text, first_is, has_entry, has_site, listed_entry, no_site, numbered, site_with, some_first, some_len}
use Rattle.object_points.proofs.Made.{made_of_each, made_of_fewer}
use Rattle.object_points.proofs.SitePlaces.{off_less, places_sorted, sec_less}

abbrev start_of : AlternativesSite → Place
start_of s = s.start

ends_less : (p : Place) (n : ℕ) (q : Place) → 0 < n → EndsBefore p n q → place_cmp p q ≡ Less
ends_less p n q some (inl less) = sec_less p.sec q.sec p.off q.off less
ends_less p n q some (inr (same, ends)) = off_less p.sec q.sec p.off q.off same (omega arith)

at_start : (a b n : ℕ) → 0 < n → (eqb a a && (leb b b && ltb b (b + n))) ≡ true
at_start a b n some = grind (arith, nat_tests)

-- a site holds its start
holds_start : (s : AlternativesSite) (place : Place) → 0 < s.len → place ≡ s.start → in_alternatives_site s place ≡ true
holds_start s place some is = subst (λ p. in_alternatives_site s p ≡ true) (sym is) (at_start s.start.sec s.start.off s.len some)

equal_sites : (a : AltEntry) (s : AlternativesSite) → a.original ≡ s.start → a.original_len ≡ s.len → site_of_entry a ≡ program_site s
equal_sites a s start len =
    ap (λ (p : Place). let one : ProgramSite = record { start = p; len = a.original_len } in one) start
    ∙ ap (λ (n : ℕ). let one : ProgramSite = record { start = s.start; len = n } in one) len

begins_itself : (place : Place) (a : AltEntry) → counts a ≡ true → a.original ≡ place → begins_at place a ≡ true
begins_itself place a counting is = and_from (counts a) (same_place a.original place) counting (is_place_refl a.original place is)

module _ (o : Coded) (sites : List AlternativesSite) (numbers : List ℕ) (are : AreSitesOf (alternatives_of o) sites numbers) (right : AreRight (texts_of o) (alternatives_of o) (length (alternatives_of o))) where
  abbrev entries : List AltEntry
  entries = alternatives_of o

  -- the entries that begin at a place are those of one site
  record BeginsThere (place : Place) (a : AltEntry) : Type 0 where
    j : ℕ
    inside : j < length sites
    start : a.original ≡ (site_with sites j).start
    len : a.original_len ≡ (site_with sites j).len
    there : (site_with sites j).start ≡ place
    some : 0 < (site_with sites j).len

  begins_there : (place : Place) (a : AltEntry) → find (begins_at place) entries ≡ Some a → BeginsThere place a
  begins_there place a found =
      let first = first_is (begins_at place) entries a found in
      let parts = and_both (counts a) (same_place a.original place) first.passes in
      let number = numbered entries a first.listed in
      let counting : counts (entry_at entries number.k) ≡ true = ap counts number.is ∙ parts.0 in
      let site = has_site entries sites numbers are number.k counting in
      let start : a.original ≡ (site_with sites site.j).start = ap (λ (e : AltEntry). e.original) (sym number.is) ∙ site.one.start in
      let len : a.original_len ≡ (site_with sites site.j).len = ap (λ (e : AltEntry). e.original_len) (sym number.is) ∙ site.one.len in
      record {
        j = site.j;
        inside = site.one.inside;
        start = start;
        len = len;
        there = sym start ∙ place_is a.original place parts.1;
        some = subst (λ n. 0 < n) len (some_len a.original_len parts.0);
      }

  site_len : (j : ℕ) → j < length sites → 0 < (site_with sites j).len
  site_len j inside =
      let entry = has_entry entries sites numbers are j inside in
      subst (λ n. 0 < n) entry.one.len (some_len (entry_at entries entry.k).original_len entry.one.counting)

  -- a site is told by the first entry that begins there
  told : (j : ℕ) → j < length sites → (found : Option AltEntry) → find (begins_at (site_with sites j).start) entries ≡ found → is_some found ≡ true → option_map site_of_entry found ≡ Some (program_site (site_with sites j))
  told j inside None is some = absurd (false≢true some)
  told j inside (Some a) is some =
      let place : Place = (site_with sites j).start in
      let own = begins_there place a is in
      let same : own.j ≡ j = one_holds sites place own.j j no_site are.apart own.inside inside (holds_start (site_with sites own.j) place own.some (sym own.there)) (holds_start (site_with sites j) place (site_len j inside) refl) in
      ap (λ s. Some s) (equal_sites a (site_with sites own.j) own.start own.len ∙ ap (λ k. program_site (site_with sites k)) same)

  site_there : (j : ℕ) → j < length sites → site_starting_at o (site_with sites j).start ≡ Some (program_site (site_with sites j))
  site_there j inside =
      let place : Place = (site_with sites j).start in
      let entry = has_entry entries sites numbers are j inside in
      told j inside (find (begins_at place) entries) refl
      (some_first (begins_at place) entries (entry_at entries entry.k) (listed_entry entries entry.k entry.one.counting) (begins_itself place (entry_at entries entry.k) entry.one.counting entry.one.start))

  each_there : (s : AlternativesSite) → In s sites → site_starting_at o (start_of s) ≡ Some (program_site s)
  each_there s h =
      let at : Contains sites s = contains_in sites s h in
      let is : site_with sites at.0 ≡ s = get_or_default sites at.0 no_site s at.1 ∙ at.2 in
      subst (λ (r : AlternativesSite). site_starting_at o (start_of r) ≡ Some (program_site r)) is (site_there at.0 at.1)

  starts_sorted : IsStrictlySortedBy place_cmp (map start_of sites)
  starts_sorted = sorted_from_all_adjacent place_total (map start_of sites) no_site.start (λ k within.
      let next : k + 1 < length sites = omega (arith, within, length-map sites start_of) in
      ap (λ p. place_cmp p (get_or (map start_of sites) (k + 1) no_site.start)) (get_or-map start_of sites k no_site no_site.start (omega arith))
      ∙ ap (λ p. place_cmp (site_with sites k).start p) (get_or-map start_of sites (k + 1) no_site no_site.start next)
      ∙ ends_less (site_with sites k).start (site_with sites k).len (site_with sites (k + 1)).start (site_len k (omega arith)) (are.apart k (k + 1) no_site (omega arith) next))

  starts_listed : (q : Place) → In q (map start_of sites) → In q (places_of o)
  starts_listed q h =
      let at : Contains (map start_of sites) q = contains_in (map start_of sites) q h in
      let inside : at.0 < length sites = omega (arith, at.1, length-map sites start_of) in
      let entry = has_entry entries sites numbers are at.0 inside in
      let is : (entry_at entries entry.k).original ≡ q = entry.one.start ∙ sym (get_or-map start_of sites at.0 no_site q inside) ∙ at.2 in
      subst (λ p. In p (places_of o)) is (begins_in_text o entry.k right entry.one.counting)

  start_found : (q : Place) (found : Option AltEntry) → find (begins_at q) entries ≡ found → is_some (option_map site_of_entry found) ≡ true → In q (map start_of sites)
  start_found q None is some = absurd (false≢true some)
  start_found q (Some a) is some =
      let own = begins_there q a is in
      let listed : In (site_with sites own.j) sites = in_contains sites (site_with sites own.j) (own.j, own.inside, get_or_default sites own.j (site_with sites own.j) no_site own.inside) in
      subst (λ p. In p (map start_of sites)) own.there (in-map start_of sites (site_with sites own.j) listed)

  pub all_sites : map program_site sites ≡ sites_of o
  unfolding sites_of
  all_sites = sym (made_of_fewer place_cmp place_total place_equal (site_starting_at o) (places_of o) (map start_of sites) (places_sorted o) starts_sorted starts_listed (λ q h some. start_found q (find (begins_at q) entries) refl some)
      ∙ made_of_each (site_starting_at o) start_of program_site sites each_there)

-- ---- without text
pub no_sites : (o : Coded) → texts_of o ≡ [] → sites_of o ≡ []
unfolding sites_of
no_sites o none = ap (λ texts. filter_map (site_starting_at o) (flat_map places_of_text texts)) none

-- ---- the site that holds a place
module _ (o : Coded) (sites : List AlternativesSite) (place : Place) (all : AreAllSites o sites) where
  abbrev is_held : ProgramSite → Bool
  is_held s = in_site s place

  pub held_nowhere : ((k : ℕ) (d : AlternativesSite) → k < length sites → in_alternatives_site (get_or sites k d) place ≡ false) → site_holding o place ≡ None
  unfolding site_holding
  held_nowhere none =
      ap (find is_held) (sym all.all)
      ∙ finding.none_passes is_held (map program_site sites) (program_site no_site) (λ k within.
      let inside : k < length sites = omega (arith, within, length-map sites program_site) in
      ap is_held (get_or-map program_site sites k no_site (program_site no_site) inside) ∙ none k no_site inside)

  other_site : (i k : ℕ) (b : Bool) → in_alternatives_site (site_with sites k) place ≡ b → i < length sites → in_alternatives_site (site_with sites i) place ≡ true → k < length sites → (k ≡ i → ⊥) → b ≡ false
  other_site i k true held in_i here in_k other = absurd (other (one_holds sites place k i no_site all.apart in_k in_i held here))
  other_site i k false held in_i here in_k other = refl

  pub held_there : (i : ℕ) → i < length sites → ((d : AlternativesSite) → in_alternatives_site (get_or sites i d) place ≡ true) → site_holding o place ≡ Some (program_site (site_with sites i))
  unfolding site_holding
  held_there i inside here =
      let own : (k : ℕ) → k < length sites → get_or (map program_site sites) k (program_site no_site) ≡ program_site (site_with sites k) = λ k within. get_or-map program_site sites k no_site (program_site no_site) within in
      ap (find is_held) (sym all.all)
      ∙ finding.only_one is_held (map program_site sites) i (program_site no_site) (omega (arith, length-map sites program_site)) (λ k within other.
      let known : k < length sites = omega (arith, within, length-map sites program_site) in
      ap is_held (own k known) ∙ other_site i k (in_alternatives_site (site_with sites k) place) refl inside (here no_site) known other)
      ∙ ap (λ s. cond (is_held s) (Some s) None) (own i inside)
      ∙ ap (λ b. cond b (Some (program_site (site_with sites i))) None) (here no_site)

pub held_by_none : (o : Coded) (place : Place) → sites_of o ≡ [] → site_holding o place ≡ None
unfolding site_holding
held_by_none o place none = ap (find (λ s. in_site s place)) none
