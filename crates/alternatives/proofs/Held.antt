-- A place lies in a site exactly where it lies in the original of an entry.
use Rattle.std.proofs.Common.{◌≡◌, ℕ, zero, suc, ◌+◌, ◌<◌, ◌≤◌, Bool, true, false, eqb, leb, ltb, ◌&&◌, ◌||◌, not, List, [], ◌∷◌, length, get_or, Option, Some, None, Contains, inl, inr, refl, sym, ap, ◌∙◌, subst, arith}
use Rattle.std.specs.Prelude.{is_some, MatchOption}
use Rattle.std.specs.List.{list_any, range_with_len}
use Rattle.std.proofs.lemmas.Bool.{cases_Bool, false≢true}
use Rattle.std.proofs.lemmas.Bool.Decides.{nat_tests}
use Rattle.std.proofs.lemmas.List.{get_or_default}
use Rattle.std.proofs.lemmas.List.Folds.{list_any_at}
use Rattle.std.proofs.lemmas.List.Sorted.{Contains-permutation, IsPermutation-sym}
use Rattle.ot_base.specs.declared.place.Place.{Place}
use Rattle.ot_base.specs.Places.{is_within}
use Rattle.special_sections.specs.declared.entries.AltEntry.{AltEntry}
use Rattle.alternatives.specs.declared.site.AlternativesSite.{AlternativesSite}
use Rattle.alternatives.specs.Originals.{entry_at, counts, counted, no_entry}
use Rattle.alternatives.specs.Sites.{in_alternatives_site, is_in_site, AreSitesOf, FillFrom, IsOriginalOf}
use Rattle.alternatives.proofs.Ascending.{In, contains_in, every-in, every-passes, in-filter, in-range, in_contains}
use Rattle.alternatives.proofs.Opened.{counts_inside}
use Rattle.alternatives.proofs.SiteEntries.{covered, IsWithin}
use Rattle.alternatives.proofs.Whole.{fill_within}

-- where an index is that of no site
abbrev no_site : AlternativesSite
no_site = record { start = record { sec = 0; off = 0 }; len = 0; first = 0; count = 0 }

fill_some : (from to : ℕ) (sites : List AlternativesSite) (j : ℕ) (d : AlternativesSite) → FillFrom from sites to → j < length sites → 0 < (get_or sites j d).count
fill_some from to [] j d fill inside = absurd (omega arith)
fill_some from to (s ∷ sites) zero d fill inside = fill.1.0
fill_some from to (s ∷ sites) (suc j) d fill inside = fill_some (from + s.count) to sites j d fill.1.1 (omega arith)

-- what holds a place has a byte
has_byte : (a b c d n : ℕ) → (eqb a c && (leb b d && ltb d (b + n))) ≡ true → not (eqb n 0) ≡ true
has_byte a b c d n h = grind (arith, nat_tests)

-- the number of the site that holds a place, or that none does
abbrev pub Finds : List AlternativesSite → Place → Option ℕ → Type 0
Finds sites place found =
    MatchOption found ((k : ℕ) (d : AlternativesSite) → k < length sites → in_alternatives_site (get_or sites k d) place ≡ false)
    (λ i. (i < length sites) × ((d : AlternativesSite) → in_alternatives_site (get_or sites i d) place ≡ true))

-- an entry has the original that is a site
record IsSiteOf (entries : List AltEntry) (sites : List AlternativesSite) (k j : ℕ) : Type 0 where
  inside : j < length sites
  listed : k < length entries
  one : IsOriginalOf entries (get_or sites j no_site) k

held_same : (s : AlternativesSite) (a : AltEntry) (place : Place) → a.original ≡ s.start → a.original_len ≡ s.len → is_within a.original a.original_len place ≡ in_alternatives_site s place
held_same s a place start len = ap (λ p. is_within p a.original_len place) start ∙ ap (λ n. is_within s.start n place) len

-- the entry that holds a place, where one does
record Holder (entries : List AltEntry) (place : Place) : Type 0 where
  k : ℕ
  listed : k < length entries
  held : is_within (entry_at entries k).original (entry_at entries k).original_len place ≡ true

holder : (entries : List AltEntry) (place : Place) → is_in_site entries place ≡ true → Holder entries place
holder [] place any = absurd (false≢true any)
holder (a ∷ entries) place any = elim (cases_Bool (is_within a.original a.original_len place)) [
  | inl held ↦ record { k = 0; listed = omega arith; held = held }
  | inr other ↦
      let rest : Holder entries place = holder entries place (sym (ap (λ b. b || is_in_site entries place) other) ∙ any) in
      record { k = suc rest.k; listed = omega (arith, rest.listed); held = rest.held }
]

module _ (entries : List AltEntry) (sites : List AlternativesSite) (numbers : List ℕ) (are : AreSitesOf entries sites numbers) (place : Place) where
  its_site : (k : ℕ) → counts (entry_at entries k) ≡ true → (j : ℕ) × IsSiteOf entries sites k j
  its_site k counting =
      let known : k < length entries = counts_inside entries k counting in
      let listed : In k (counted entries) = in-filter (λ n. counts (entry_at entries n)) (range_with_len 0 (length entries)) k (in-range 0 (length entries) k (omega arith) (omega arith)) counting in
      let at : Contains numbers k = Contains-permutation (counted entries) numbers k are.all (contains_in (counted entries) k listed) in
      let w : IsWithin sites at.0 = covered 0 (length numbers) at.0 sites are.fill (omega arith) at.1 in
      let same : get_or numbers at.0 0 ≡ k = get_or_default numbers at.0 0 k at.1 ∙ at.2 in
      let original : IsOriginalOf entries (get_or sites w.j no_site) k = subst (IsOriginalOf entries (get_or sites w.j no_site)) same (are.alike w.j no_site w.inside at.0 (w.from no_site) (w.below no_site)) in
      (w.j, record { inside = w.inside; listed = known; one = original })

  its_entry : (j : ℕ) → j < length sites → (k : ℕ) × IsSiteOf entries sites k j
  its_entry j inside =
      let s : AlternativesSite = get_or sites j no_site in
      let some : 0 < s.count = fill_some 0 (length numbers) sites j no_site are.fill inside in
      let reach : s.first + s.count ≤ length numbers = fill_within 0 (length numbers) sites j no_site are.fill inside in
      let known : s.first < length numbers = omega arith in
      let k : ℕ = get_or numbers s.first 0 in
      let listed : Contains (counted entries) k = Contains-permutation numbers (counted entries) k (IsPermutation-sym (counted entries) numbers are.all) (s.first, known, get_or_default numbers s.first k 0 known) in
      let counting = every-in (λ n. counts (entry_at entries n) ≡ true) (counted entries) k (every-passes (λ n. counts (entry_at entries n)) (range_with_len 0 (length entries))) (in_contains (counted entries) k listed) in
      (k, record { inside = inside; listed = counts_inside entries k counting; one = are.alike j no_site inside s.first (omega arith) (omega arith) })

  pub some_holds : (i : ℕ) → i < length sites → ((d : AlternativesSite) → in_alternatives_site (get_or sites i d) place ≡ true) → is_in_site entries place ≡ true
  some_holds i inside held =
      let e = its_entry i inside in
      list_any_at (λ (a : AltEntry). is_within a.original a.original_len place) entries e.0 no_entry e.1.listed
      (held_same (get_or sites i no_site) (entry_at entries e.0) place e.1.one.start e.1.one.len ∙ held no_site)

  pub none_holds : ((k : ℕ) (d : AlternativesSite) → k < length sites → in_alternatives_site (get_or sites k d) place ≡ false) → is_in_site entries place ≡ false
  none_holds none = elim (cases_Bool (is_in_site entries place)) [
    | inr out ↦ out
    | inl any ↦
        let h : Holder entries place = holder entries place any in
        let a : AltEntry = entry_at entries h.k in
        let s = its_site h.k (has_byte a.original.sec a.original.off place.sec place.off a.original_len h.held) in
        absurd (false≢true (sym (none s.0 no_site s.1.inside) ∙ sym (held_same (get_or sites s.0 no_site) a place s.1.one.start s.1.one.len) ∙ h.held))
  ]

  -- whether a site is found
  pub found_is : (found : Option ℕ) → Finds sites place found → is_some found ≡ is_in_site entries place
  found_is None none = sym (none_holds none)
  found_is (Some i) one = sym (some_holds i one.0 one.1)
