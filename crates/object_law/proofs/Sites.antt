-- The sites of an object in order: each is the original of alternatives, and those that share a byte are one.
use Rattle.std.proofs.Common.{◌≡◌, ℕ, zero, suc, ◌+◌, ◌<◌, ◌≤◌, Bool, true, false, not, ◌&&◌, List, Some, length, Contains, refl, sym, ap, ◌∙◌, arith, subst, inl, inr, length-take}
use Rattle.std.specs.Prelude.{min, nat_le, nat_lt, option_map, take, ◌==◌}
use Rattle.std.specs.List.{list_any}
use Rattle.std.proofs.lemmas.Bool.{and_from, cases_lt, eq-eqb, eqb-true, false≢true, le-leb, leb-true, lt-ltb, ltb-true, not-false}
use Rattle.std.proofs.lemmas.List.{get_or-take, get_or_default}
use Rattle.std.proofs.lemmas.List.Elements.{Contains-get_or}
use Rattle.ot_base.specs.declared.place.Place.{Place}
use Rattle.ot_base.specs.Places.{same_place}
use Rattle.flow_defs.specs.Coded.{Coded}
use Rattle.machine_defs.specs.Program.{Site, in_site}
use Rattle.special_sections.specs.declared.entries.AltEntry.{AltEntry}
use Rattle.alternatives.specs.declared.texts.SectionText.{SectionText}
use Rattle.alternatives.specs.Originals.{counts, entry_at, is_same_original, no_entry, overlaps, shares_byte}
use Rattle.alternatives.specs.Texts.{behind}
use Rattle.unwinding_law.proofs.Lists.{found, in_below, in_flat_map, in_map}
use Rattle.table_law.proofs.Equal.{equal_places, same_place_is}
use Rattle.table_law.proofs.Lists.{finds, finds_one, from_filter_map, in_filter_map, some_is}
use Rattle.flow_defs.specs.Code.{alternatives_of, body_of, text_numbers, texts_of}
use Rattle.flow_defs.specs.Sites.{begins_at, places_of, places_of_text, site_of_entry, site_starting_at, sites_of}
use Rattle.object_law.specs.Flows.{ObjectIsInOrder}
use Rattle.object_law.proofs.Bodies.{cut_within}
use Rattle.object_law.proofs.EntryFacts.{counted_inside, entry_is, unrefused}
use Rattle.object_law.proofs.Levels.{and_false, and_true}

-- a listed alternative has a number
record HasEntry (entries : List AltEntry) (a : AltEntry) : Type 0 where
  k : ℕ
  is : entry_at entries k ≡ a

numbered_entry : (entries : List AltEntry) (a : AltEntry) → Contains entries a → HasEntry entries a
numbered_entry entries a (k, inside, is) = record { k = k; is = get_or_default entries k no_entry a inside ∙ is }

-- one that counts has a byte
pub some_len : (n : ℕ) → not (n == 0) ≡ true → 1 ≤ n
some_len zero e = absurd (false≢true e)
some_len (suc n) e = omega arith

-- two originals share a byte, or are the same
record SharesByte (a b : AltEntry) : Type 0 where
  sec : a.original.sec ≡ b.original.sec
  one : a.original.off < b.original.off + b.original_len
  other : b.original.off < a.original.off + a.original_len

pub record SameOriginal (a b : AltEntry) : Type 0 where
  pub off : a.original.off ≡ b.original.off
  pub len : a.original_len ≡ b.original_len

not_any : {X : Type 0} (p : X → Bool) (xs : List X) (x : X) → list_any p xs ≡ false → Contains xs x → p x ≡ false
not_any p xs x none c = by_test (p x) refl
  where
    by_test : (b : Bool) → p x ≡ b → b ≡ false
    by_test false e = refl
    by_test true e = absurd (false≢true (sym none ∙ found p xs x c e))

shares : (a b : AltEntry) → counts a ≡ true → counts b ≡ true → SharesByte a b → shares_byte a b ≡ true
shares a b of-a of-b s =
    and_from (counts a && counts b) _ (and_from (counts a) (counts b) of-a of-b)
    (and_from (a.original.sec == b.original.sec) _ (eq-eqb a.original.sec b.original.sec s.sec)
    (and_from (nat_lt a.original.off (b.original.off + b.original_len)) _ (lt-ltb a.original.off (b.original.off + b.original_len) s.one) (lt-ltb b.original.off (a.original.off + a.original_len) s.other)))

same_as_earlier : (o : Coded) (j k : ℕ) → ObjectIsInOrder o → j < k → counts (entry_at (alternatives_of o) j) ≡ true → counts (entry_at (alternatives_of o) k) ≡ true
    → SharesByte (entry_at (alternatives_of o) k) (entry_at (alternatives_of o) j) → SameOriginal (entry_at (alternatives_of o) k) (entry_at (alternatives_of o) j)
same_as_earlier o j k order less of-j of-k s =
    let entries = alternatives_of o in
    let a = entry_at entries k in
    let b = entry_at entries j in
    let inside = counted_inside entries k of-k in
    let fine = unrefused o entries k of-k (order.sites k inside) in
    let size : length (take k entries) ≡ min k (length entries) = length-take k entries in
    let listed : Contains (take k entries) b = subst (Contains (take k entries)) (get_or-take k entries j no_entry less) (Contains-get_or (take k entries) j no_entry (omega (arith, size, less, inside))) in
    let none = not_any (overlaps a) (take k entries) b fine.apart listed in
    let same : is_same_original a b ≡ true = not-false (is_same_original a b) (and_false (shares_byte a b) (not (is_same_original a b)) (shares a b of-k of-j s) none) in
    let parts = and_true (a.original.off == b.original.off) (a.original_len == b.original_len) same in
    record { off = eqb-true a.original.off b.original.off parts.0; len = eqb-true a.original_len b.original_len parts.1 }

same_original : (o : Coded) (j k : ℕ) → ObjectIsInOrder o → counts (entry_at (alternatives_of o) j) ≡ true → counts (entry_at (alternatives_of o) k) ≡ true
    → SharesByte (entry_at (alternatives_of o) j) (entry_at (alternatives_of o) k) → SameOriginal (entry_at (alternatives_of o) j) (entry_at (alternatives_of o) k)
same_original o j k order of-j of-k s = elim (cases_lt j k) [
  | inl less ↦ let same = same_as_earlier o j k order less of-j of-k (record { sec = sym s.sec; one = s.other; other = s.one }) in record { off = sym same.off; len = sym same.len }
  | inr late ↦ elim (cases_lt k j) [
    | inl less ↦ same_as_earlier o k j order less of-k of-j s
    | inr more ↦
        let same : j ≡ k = omega (arith, late, more) in
        record { off = ap (λ n. (entry_at (alternatives_of o) n).original.off) same; len = ap (λ n. (entry_at (alternatives_of o) n).original_len) same }
  ]
]

-- a place is in a site
pub record InSite (site : Site) (place : Place) : Type 0 where
  pub sec : site.start.sec ≡ place.sec
  pub from : site.start.off ≤ place.off
  pub before : place.off < site.start.off + site.len

pub in_site_is : (site : Site) (place : Place) → in_site site place ≡ true → InSite site place
in_site_is site place is =
    let parts = and_true (site.start.sec == place.sec) _ is in
    let bounds = and_true (nat_le site.start.off place.off) (nat_lt place.off (site.start.off + site.len)) parts.1 in
    record { sec = eqb-true site.start.sec place.sec parts.0; from = leb-true site.start.off place.off bounds.0; before = ltb-true place.off (site.start.off + site.len) bounds.1 }

pub is_in_site : (site : Site) (place : Place) → InSite site place → in_site site place ≡ true
is_in_site site place is =
    and_from (site.start.sec == place.sec) _ (eq-eqb site.start.sec place.sec is.sec)
    (and_from (nat_le site.start.off place.off) _ (le-leb site.start.off place.off is.from) (lt-ltb place.off (site.start.off + site.len) is.before))

-- a site is the original of an alternative that counts
pub record IsSiteOf (o : Coded) (site : Site) : Type 0 where
  pub k : ℕ
  pub counting : counts (entry_at (alternatives_of o) k) ≡ true
  pub is : site_of_entry (entry_at (alternatives_of o) k) ≡ site

site_found : (o : Coded) (place : Place) (site : Site) → site_starting_at o place ≡ Some site → IsSiteOf o site
site_found o place site e = elim (finds (begins_at place) (alternatives_of o)) [
  | inl none ↦ absurd (let missing = ap (option_map site_of_entry) none.0 in let z : ⊥ = cc in z)
  | inr one ↦
      let own = numbered_entry (alternatives_of o) one.0 one.2 in
      record { k = own.k; counting = ap counts own.is ∙ (and_true (counts one.0) (same_place one.0.original place) one.3).0; is = ap site_of_entry own.is ∙ some_is (sym (ap (option_map site_of_entry) one.1) ∙ e) }
]

pub site_is : (o : Coded) (site : Site) → Contains (sites_of o) site → IsSiteOf o site
unfolding sites_of
site_is o site c = let one = from_filter_map (site_starting_at o) (places_of o) site c in site_found o one.0 site one.2

equal_sites : (a b : AltEntry) → a.original.sec ≡ b.original.sec → SameOriginal a b → site_of_entry a ≡ site_of_entry b
equal_sites a b sec same =
    let start : a.original ≡ b.original = equal_places a.original b.original sec same.off in
    let one : ◌≡◌ {A = Site} (site_of_entry a) (record { start = b.original; len = a.original_len }) = ap (λ (p : Place). let s : Site = record { start = p; len = a.original_len } in s) start in
    one ∙ ap (λ (n : ℕ). let s : Site = record { start = b.original; len = n } in s) same.len

-- sites that hold one place are one
pub one_site : (o : Coded) (j k : ℕ) (place : Place) → ObjectIsInOrder o → counts (entry_at (alternatives_of o) j) ≡ true → counts (entry_at (alternatives_of o) k) ≡ true
    → InSite (site_of_entry (entry_at (alternatives_of o) j)) place → InSite (site_of_entry (entry_at (alternatives_of o) k)) place
    → site_of_entry (entry_at (alternatives_of o) j) ≡ site_of_entry (entry_at (alternatives_of o) k)
one_site o j k place order of-j of-k one other =
    let a = entry_at (alternatives_of o) j in
    let b = entry_at (alternatives_of o) k in
    let sec : a.original.sec ≡ b.original.sec = one.sec ∙ sym other.sec in
    let s : SharesByte a b = record { sec = sec; one = omega (arith, one.from, other.before); other = omega (arith, other.from, one.before) } in
    equal_sites a b sec (same_original o j k order of-j of-k s)

-- the original of an alternative that counts begins below the end of its text
pub starts_below : (o : Coded) (k : ℕ) → ObjectIsInOrder o → counts (entry_at (alternatives_of o) k) ≡ true → (entry_at (alternatives_of o) k).original.off < length (body_of o (entry_at (alternatives_of o) k).original.sec).bytes
starts_below o k order counting =
    let a = entry_at (alternatives_of o) k in
    omega (arith, some_len a.original_len counting, cut_within o (behind a.original a.original_len) (entry_is o k order counting).original_end)

listed_place : (o : Coded) (place : Place) → Contains (text_numbers o.elf) place.sec → place.off < length (body_of o place.sec).bytes → Contains (places_of o) place
unfolding texts_of
listed_place o place listed below =
    let made = λ (i : ℕ). let x : SectionText = record { sec = i; text = body_of o i } in x in
    let t : SectionText = made place.sec in
    in_flat_map places_of_text (texts_of o) t place (in_map made (text_numbers o.elf) place.sec listed)
    (in_map (λ off. let p : Place = record { sec = place.sec; off = off } in p) _ place.off (in_below (length (body_of o place.sec).bytes) place.off below))

-- and is a site
pub has_site : (o : Coded) (k : ℕ) → ObjectIsInOrder o → counts (entry_at (alternatives_of o) k) ≡ true → Contains (sites_of o) (site_of_entry (entry_at (alternatives_of o) k))
unfolding sites_of
has_site o k order counting =
    let entries = alternatives_of o in
    let a = entry_at entries k in
    let listed = Contains-get_or entries k no_entry (counted_inside entries k counting) in
    let itself : begins_at a.original a ≡ true = and_from (counts a) _ counting (and_from (a.original.sec == a.original.sec) _ (eq-eqb a.original.sec a.original.sec refl) (eq-eqb a.original.off a.original.off refl)) in
    let first = finds_one (begins_at a.original) entries a listed itself in
    let own = numbered_entry entries first.0 first.2 in
    let begins = and_true (counts first.0) (same_place first.0.original a.original) first.3 in
    let start : first.0.original ≡ a.original = same_place_is first.0.original a.original begins.1 in
    let of-first : counts (entry_at entries own.k) ≡ true = ap counts own.is ∙ begins.0 in
    let start_own : (entry_at entries own.k).original ≡ a.original = ap (λ (e : AltEntry). e.original) own.is ∙ start in
    let some = some_len (entry_at entries own.k).original_len of-first in
    let here : InSite (site_of_entry (entry_at entries own.k)) a.original = record { sec = ap (λ (p : Place). p.sec) start_own; from = omega (arith, ap (λ (p : Place). p.off) start_own); before = omega (arith, some, ap (λ (p : Place). p.off) start_own) } in
    let own_here : InSite (site_of_entry a) a.original = record { sec = refl; from = omega arith; before = omega (arith, some_len a.original_len counting) } in
    let same = one_site o own.k k a.original order of-first counting here own_here in
    in_filter_map (site_starting_at o) (places_of o) a.original (site_of_entry a)
    (listed_place o a.original (entry_is o k order counting).original.listed (starts_below o k order counting))
    (ap (option_map site_of_entry) first.1 ∙ ap Some (ap site_of_entry (sym own.is) ∙ same))
