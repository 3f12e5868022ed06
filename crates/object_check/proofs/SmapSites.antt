-- In which site a place lies, by the site's start, and whether that site has a replacement for processors with SMAP.
use Rattle.std.proofs.Common.{◌≡◌, ℕ, ◌+◌, ◌<◌, ◌≤◌, Bool, true, false, eqb, leb, ltb, ◌&&◌, ◌||◌, List, [], ◌∷◌, length, get_or, map, filter, cond, Option, Some, None, Contains, inl, inr, refl, sym, ap, ◌∙◌, subst, arith}
use Rattle.std.specs.List.{list_any}
use Rattle.std.proofs.lemmas.Bool.{cases_Bool, false≢true}
use Rattle.std.proofs.lemmas.Bool.Decides.{nat_tests}
use Rattle.ot_base.specs.declared.place.Place.{Place}
use Rattle.ot_base.specs.Places.{same_place}
use Rattle.special_sections.specs.declared.entries.AltEntry.{AltEntry}
use Rattle.alternatives.specs.declared.site.AlternativesSite.{AlternativesSite}
use Rattle.alternatives.specs.Originals.{counts}
use Rattle.alternatives.specs.Sites.{in_alternatives_site, AreSitesOf}
use Rattle.alternatives.proofs.Ascending.{In, contains_in, in_contains}
use Rattle.alternatives.proofs.Opened.{before_end, from_start}
use Rattle.alternatives.proofs.SiteEntries.{is_place_refl, one_holds, place_is}
use Rattle.machine_defs.specs.Program.{Site as ProgramSite, in_site}
use Rattle.flow_defs.specs.Sites.{site_of_entry}
use Rattle.object_points.specs.Places.{is_among}
use Rattle.object_points.proofs.Entries.{has_site, no_site, numbered, site_with, some_len}
use Rattle.object_check.specs.Allowances.{makes_smap_site}
use Rattle.object_check.specs.SmapSites.{IsSiteStart, is_start, smap_starts}

-- ---- the site of a place
-- what the original of an entry holds is what its site does
held_alike : (a : AltEntry) (s : AlternativesSite) (place : Place) → a.original ≡ s.start → a.original_len ≡ s.len → in_site (site_of_entry a) place ≡ in_alternatives_site s place
held_alike a s place start len =
    ap (λ (p : Place). let one : ProgramSite = record { start = p; len = a.original_len } in in_site one place) start
    ∙ ap (λ (n : ℕ). let one : ProgramSite = record { start = s.start; len = n } in in_site one place) len

at_start : (a b n : ℕ) → 0 < n → (eqb a a && (leb b b && ltb b (b + n))) ≡ true
at_start a b n some = grind (arith, nat_tests)

-- a site holds its start
holds_start : (s : AlternativesSite) (place : Place) → 0 < s.len → s.start ≡ place → in_alternatives_site s place ≡ true
holds_start s place some is = subst (λ p. in_alternatives_site s p ≡ true) is (at_start s.start.sec s.start.off s.len some)

-- a site that holds a place has a byte
held_some : (s : AlternativesSite) (place : Place) → in_alternatives_site s place ≡ true → 0 < s.len
held_some s place held =
    let from : s.start.off ≤ place.off = from_start s.start.sec place.sec s.start.off place.off s.len held in
    let below : place.off < s.start.off + s.len = before_end s.start.sec place.sec s.start.off place.off s.len held in
    omega arith

module _ (entries : List AltEntry) (sites : List AlternativesSite) (numbers : List ℕ) (are : AreSitesOf entries sites numbers) (place : Place) where
  -- the site that an entry makes
  record Makes (a : AltEntry) : Type 0 where
    j : ℕ
    inside : j < length sites
    start : a.original ≡ (site_with sites j).start
    len : a.original_len ≡ (site_with sites j).len

  makes : (a : AltEntry) → Contains entries a → counts a ≡ true → Makes a
  makes a c counting =
      let number = numbered entries a (in_contains entries a c) in
      let site = has_site entries sites numbers are number.k (ap counts number.is ∙ counting) in
      record {
        j = site.j;
        inside = site.one.inside;
        start = ap (λ (e : AltEntry). e.original) (sym number.is) ∙ site.one.start;
        len = ap (λ (e : AltEntry). e.original_len) (sym number.is) ∙ site.one.len;
      }

  -- no site holds the place
  pub starts_nowhere : ((k : ℕ) (d : AlternativesSite) → k < length sites → in_alternatives_site (get_or sites k d) place ≡ false) → IsSiteStart entries place None
  starts_nowhere none a c counting =
      let own = makes a c counting in
      held_alike a (site_with sites own.j) place own.start own.len ∙ none own.j no_site own.inside

  -- one does
  module _ (i : ℕ) (inside : i < length sites) (here : in_alternatives_site (site_with sites i) place ≡ true) where
    same_start : (j : ℕ) → j < length sites → 0 < (site_with sites j).len → (site_with sites i).start ≡ (site_with sites j).start → i ≡ j
    same_start j in_j some same =
        one_holds sites (site_with sites i).start i j no_site are.apart inside in_j
        (holds_start (site_with sites i) (site_with sites i).start (held_some (site_with sites i) place here) refl)
        (holds_start (site_with sites j) (site_with sites i).start some (sym same))

    by_start : (a : AltEntry) (own : Makes a) → counts a ≡ true → (held : Bool) → in_alternatives_site (site_with sites own.j) place ≡ held → held ≡ same_place (site_with sites i).start a.original
    by_start a own counting true held =
        let same : i ≡ own.j = one_holds sites place i own.j no_site are.apart inside own.inside here held in
        sym (is_place_refl (site_with sites i).start a.original (ap (λ k. (site_with sites k).start) same ∙ sym own.start))
    by_start a own counting false held = elim (cases_Bool (same_place (site_with sites i).start a.original)) [
      | inr other ↦ sym other
      | inl is ↦
          let some : 0 < (site_with sites own.j).len = subst (λ n. 0 < n) own.len (some_len a.original_len counting) in
          let same : i ≡ own.j = same_start own.j own.inside some (place_is (site_with sites i).start a.original is ∙ own.start) in
          absurd (false≢true (sym held ∙ subst (λ k. in_alternatives_site (site_with sites k) place ≡ true) same here))
    ]

    pub starts_there : IsSiteStart entries place (Some (site_with sites i).start)
    starts_there a c counting =
        let own = makes a c counting in
        held_alike a (site_with sites own.j) place own.start own.len ∙ by_start a own counting (in_alternatives_site (site_with sites own.j) place) refl

-- ---- whether that site has such a replacement
any_alike : {X : Type 0} (p q : X → Bool) (xs : List X) → ((x : X) → In x xs → p x ≡ q x) → list_any p xs ≡ list_any q xs
any_alike p q [] each = refl
any_alike p q (x ∷ xs) each = ap (λ b. b || list_any p xs) (each x (inl refl)) ∙ ap (λ b. q x || b) (any_alike p q xs (λ y h. each y (inr h)))

never : (b : Bool) → (b && false) ≡ false
never true = refl
never false = refl

never_any : {X : Type 0} (p : X → Bool) (xs : List X) → list_any (λ x. p x && false) xs ≡ false
never_any p [] = refl
never_any p (x ∷ xs) = ap (λ b. b || list_any (λ y. p y && false) xs) (never (p x)) ∙ never_any p xs

any_kept : {X Y : Type 0} (p : X → Bool) (f : X → Y) (q : Y → Bool) (xs : List X) → list_any (λ x. p x && q (f x)) xs ≡ list_any q (map f (filter p xs))
any_kept p f q [] = refl
any_kept p f q (x ∷ xs) =
    ap (λ b. (p x && q (f x)) || b) (any_kept p f q xs)
    ∙ elim (p x) as (λ b. ((b && q (f x)) || list_any q (map f (filter p xs))) ≡ list_any q (map f (cond b (x ∷ filter p xs) (filter p xs)))) [ true ↦ refl | false ↦ refl ]

both_alike : (c f x y : Bool) → (c ≡ true → x ≡ y) → ((c && f) && x) ≡ ((c && f) && y)
both_alike true f x y same = ap (λ b. f && b) (same refl)
both_alike false f x y same = refl

-- an entry makes such a site, and a place lies in it, where its original starts there
abbrev pub is_made_over : List AltEntry → Place → Bool
is_made_over entries place = list_any (λ a. makes_smap_site a && in_site (site_of_entry a) place) entries

by_starts : (entries : List AltEntry) (place : Place) (start : Option Place) → IsSiteStart entries place start → is_made_over entries place ≡ list_any (λ a. makes_smap_site a && is_start start a.original) entries
by_starts entries place start is =
    any_alike (λ a. makes_smap_site a && in_site (site_of_entry a) place) (λ a. makes_smap_site a && is_start start a.original) entries
    (λ a h. both_alike (counts a) _ (in_site (site_of_entry a) place) (is_start start a.original) (is a (contains_in entries a h)))

pub made_nowhere : (entries : List AltEntry) (place : Place) → IsSiteStart entries place None → is_made_over entries place ≡ false
made_nowhere entries place is = by_starts entries place None is ∙ never_any makes_smap_site entries

pub made_there : (entries : List AltEntry) (place start : Place) → IsSiteStart entries place (Some start) → is_made_over entries place ≡ is_among (smap_starts entries) start
made_there entries place start is = by_starts entries place (Some start) is ∙ any_kept makes_smap_site (λ (a : AltEntry). a.original) (same_place start) entries
