-- The sites of the entries of an object, and the entries of its sites.
use Rattle.std.proofs.Common.{◌≡◌, ℕ, zero, suc, ◌+◌, ◌<◌, ◌≤◌, Bool, true, false, cond, not, eqb, List, [], ◌∷◌, length, get_or, find, Some, None, Contains, inl, inr, refl, ap, ◌∙◌, subst, arith, if◌then◌else◌}
use Rattle.std.specs.Prelude.{is_some}
use Rattle.std.specs.List.{range_with_len}
use Rattle.std.proofs.lemmas.Bool.{cases_lt}
use Rattle.std.proofs.lemmas.Bool.Decides.{nat_tests}
use Rattle.std.proofs.lemmas.List.{get_or_default}
use Rattle.std.proofs.lemmas.List.Sorted.{Contains-permutation, IsPermutation-sym}
use Rattle.flow_defs.specs.Coded.{Coded}
use Rattle.special_sections.specs.declared.entries.AltEntry.{AltEntry}
use Rattle.alternatives.specs.declared.fault.SiteWhy.TheVariants.{NotBoundary, Overlap, Replacement}
use Rattle.alternatives.specs.declared.site.AlternativesSite.{AlternativesSite}
use Rattle.alternatives.specs.declared.texts.SectionText.{SectionText}
use Rattle.alternatives.specs.Faults.{AreRight}
use Rattle.alternatives.specs.Originals.{counted, counts, entry_at, no_entry, overlaps_earlier}
use Rattle.alternatives.specs.Sites.{AreSitesOf, FillFrom, IsOriginalOf}
use Rattle.alternatives.specs.Texts.{behind, is_cut, is_whole}
use Rattle.alternatives.proofs.Ascending.{In, contains_in, every-in, every-passes, in-filter, in-range, in_contains}
use Rattle.alternatives.proofs.Opened.{counts_inside}
use Rattle.alternatives.proofs.Placed.{and_both, cut_has_text}
use Rattle.alternatives.proofs.Whole.{fill_within}
use Rattle.flow_defs.specs.Code.{alternatives_of, texts_of}
use Rattle.flow_defs.specs.Sites.{places_of}
use Rattle.object_points.proofs.SitePlaces.{listed_place}

-- ---- the first that passes a test
pub record IsFirst {X : Type 0} (p : X → Bool) (xs : List X) (x : X) : Type 0 where
  pub listed : In x xs
  pub passes : p x ≡ true

first_step : {X : Type 0} (p : X → Bool) (y : X) (xs : List X) (x : X) (b : Bool) → p y ≡ b → cond b (Some y) (find p xs) ≡ Some x → (find p xs ≡ Some x → IsFirst p xs x) → IsFirst p (y ∷ xs) x
first_step p y xs x true is found later = let same : y ≡ x = cc in record { listed = inl same; passes = subst (λ z. p z ≡ true) same is }
first_step p y xs x false is found later = let rest = later found in record { listed = inr rest.listed; passes = rest.passes }

pub first_is : {X : Type 0} (p : X → Bool) (xs : List X) (x : X) → find p xs ≡ Some x → IsFirst p xs x
first_is p [] x found = absurd (let bad : ⊥ = cc in bad)
first_is p (y ∷ xs) x found = first_step p y xs x (p y) refl found (first_is p xs x)

pub some_first : {X : Type 0} (p : X → Bool) (xs : List X) (x : X) → In x xs → p x ≡ true → is_some (find p xs) ≡ true
some_first p [] x h passes = absurd h
some_first p (y ∷ xs) x (inl same) passes = ap (λ b. is_some (cond b (Some y) (find p xs))) (ap p same ∙ passes)
some_first p (y ∷ xs) x (inr h) passes = elim (p y) as (λ b. is_some (cond b (Some y) (find p xs)) ≡ true) [ true ↦ refl | false ↦ some_first p xs x h passes ]

-- ---- entries
pub some_len : (n : ℕ) → not (eqb n 0) ≡ true → 0 < n
some_len n h = grind (arith, nat_tests)

-- an entry of the list has a number
pub record IsNumbered (entries : List AltEntry) (a : AltEntry) : Type 0 where
  pub k : ℕ
  pub is : entry_at entries k ≡ a

pub numbered : (entries : List AltEntry) (a : AltEntry) → In a entries → IsNumbered entries a
numbered entries a h = let at : Contains entries a = contains_in entries a h in record { k = at.0; is = get_or_default entries at.0 no_entry a at.1 ∙ at.2 }

pub listed_entry : (entries : List AltEntry) (k : ℕ) → counts (entry_at entries k) ≡ true → In (entry_at entries k) entries
listed_entry entries k counting =
    let inside = counts_inside entries k counting in
    in_contains entries (entry_at entries k) (k, inside, get_or_default entries k (entry_at entries k) no_entry inside)

whole_original : (c w o r : Bool) → c ≡ true → (if not c then None else if not w then Some NotBoundary else if o then Some Overlap else if not r then Some Replacement else None) ≡ None → w ≡ true
whole_original false w o r p h = cc
whole_original true true o r p h = refl
whole_original true false o r p h = cc

-- the original of one that counts begins in a text
pub begins_in_text : (o : Coded) (k : ℕ) → AreRight (texts_of o) (alternatives_of o) (length (alternatives_of o)) → counts (entry_at (alternatives_of o) k) ≡ true → In (entry_at (alternatives_of o) k).original (places_of o)
begins_in_text o k right counting =
    let entries : List AltEntry = alternatives_of o in
    let texts : List SectionText = texts_of o in
    let a : AltEntry = entry_at entries k in
    let whole = whole_original (counts a) (is_whole texts a.original a.original_len) (overlaps_earlier entries k) (is_whole texts a.replacement a.replacement_len) counting (right k (counts_inside entries k counting)) in
    let ends = (and_both (is_cut texts a.original) (is_cut texts (behind a.original a.original_len)) whole).1 in
    let text = cut_has_text texts (behind a.original a.original_len) ends in
    let some : 0 < a.original_len = some_len a.original_len counting in
    let end : a.original.off + a.original_len ≤ length text.t.text.bytes = text.holds in
    listed_place o text.t a.original text.is_in text.sec (omega arith)

-- ---- the site of an entry
record IsWithin (sites : List AlternativesSite) (i : ℕ) : Type 0 where
  j : ℕ
  inside : j < length sites
  from : (d : AlternativesSite) → (get_or sites j d).first ≤ i
  below : (d : AlternativesSite) → i < (get_or sites j d).first + (get_or sites j d).count

covered : (from to i : ℕ) (sites : List AlternativesSite) → FillFrom from sites to → from ≤ i → i < to → IsWithin sites i
covered from to i [] fill low high = absurd (omega arith)
covered from to i (s ∷ sites) fill low high = elim (cases_lt i (from + s.count)) [
  | inl here ↦ record { j = 0; inside = omega arith; from = λ d. omega (arith, fill.0); below = λ d. omega (arith, fill.0) }
  | inr later ↦
      let rest : IsWithin sites i = covered (from + s.count) to i sites fill.1.1 later high in
      record { j = suc rest.j; inside = omega (arith, rest.inside); from = rest.from; below = rest.below }
]

fill_some : (from to : ℕ) (sites : List AlternativesSite) (j : ℕ) (d : AlternativesSite) → FillFrom from sites to → j < length sites → 0 < (get_or sites j d).count
fill_some from to [] j d fill inside = absurd (omega arith)
fill_some from to (s ∷ sites) zero d fill inside = fill.1.0
fill_some from to (s ∷ sites) (suc j) d fill inside = fill_some (from + s.count) to sites j d fill.1.1 (omega arith)

-- where an index is that of no site
abbrev pub no_site : AlternativesSite
no_site = record { start = record { sec = 0; off = 0 }; len = 0; first = 0; count = 0 }

abbrev pub site_with : List AlternativesSite → ℕ → AlternativesSite
site_with sites j = get_or sites j no_site

-- an entry that counts and a site that is its original
pub record AreOne (entries : List AltEntry) (sites : List AlternativesSite) (k j : ℕ) : Type 0 where
  pub inside : j < length sites
  pub counting : counts (entry_at entries k) ≡ true
  pub start : (entry_at entries k).original ≡ (site_with sites j).start
  pub len : (entry_at entries k).original_len ≡ (site_with sites j).len

pub record HasSite (entries : List AltEntry) (sites : List AlternativesSite) (k : ℕ) : Type 0 where
  pub j : ℕ
  pub one : AreOne entries sites k j

pub record HasEntry (entries : List AltEntry) (sites : List AlternativesSite) (j : ℕ) : Type 0 where
  pub k : ℕ
  pub one : AreOne entries sites k j

module _ (entries : List AltEntry) (sites : List AlternativesSite) (numbers : List ℕ) (are : AreSitesOf entries sites numbers) where
  pub has_site : (k : ℕ) → counts (entry_at entries k) ≡ true → HasSite entries sites k
  has_site k counting =
      let listed : In k (counted entries) = in-filter (λ n. counts (entry_at entries n)) (range_with_len 0 (length entries)) k (in-range 0 (length entries) k (omega arith) (omega (arith, counts_inside entries k counting))) counting in
      let at : Contains numbers k = Contains-permutation (counted entries) numbers k are.all (contains_in (counted entries) k listed) in
      let w : IsWithin sites at.0 = covered 0 (length numbers) at.0 sites are.fill (omega arith) at.1 in
      let same : get_or numbers at.0 0 ≡ k = get_or_default numbers at.0 0 k at.1 ∙ at.2 in
      let original : IsOriginalOf entries (site_with sites w.j) k = subst (IsOriginalOf entries (site_with sites w.j)) same (are.alike w.j no_site w.inside at.0 (w.from no_site) (w.below no_site)) in
      record { j = w.j; one = record { inside = w.inside; counting = counting; start = original.start; len = original.len } }

  pub has_entry : (j : ℕ) → j < length sites → HasEntry entries sites j
  has_entry j inside =
      let s : AlternativesSite = site_with sites j in
      let some : 0 < s.count = fill_some 0 (length numbers) sites j no_site are.fill inside in
      let reach : s.first + s.count ≤ length numbers = fill_within 0 (length numbers) sites j no_site are.fill inside in
      let known : s.first < length numbers = omega arith in
      let k : ℕ = get_or numbers s.first 0 in
      let original : IsOriginalOf entries s k = are.alike j no_site inside s.first (omega arith) (omega arith) in
      let listed : Contains (counted entries) k = Contains-permutation numbers (counted entries) k (IsPermutation-sym (counted entries) numbers are.all) (s.first, known, get_or_default numbers s.first k 0 known) in
      let counting = every-in (λ n. counts (entry_at entries n) ≡ true) (counted entries) k (every-passes (λ n. counts (entry_at entries n)) (range_with_len 0 (length entries))) (in_contains (counted entries) k listed) in
      record { k = k; one = record { inside = inside; counting = counting; start = original.start; len = original.len } }
