-- Whether a point of the object's code begins a row, from the site that holds it.
use Rattle.std.proofs.Common.{◌≡◌, ◌⊎◌, ℕ, true, false, not, List, [], ◌∷◌, Option, None, Some, IsSome, Contains, inl, inr, arith, refl, ap, sym, ◌∙◌, subst}
use Rattle.std.proofs.lemmas.Bool.{both_ways, cases_Bool, cases_lt, not-true, not-false}
use Rattle.ot_base.specs.declared.place.Place.{Place}
use Rattle.ot_base.specs.Places.{same_place}
use Rattle.state_defs.specs.declared.state.State.{State}
use Rattle.machine_defs.specs.Program.{Program, Site, in_site}
use Rattle.machine_defs.specs.IsProgram.{IsLaidOut}
use Rattle.unwinding_law.proofs.Lists.{cases, here, nowhere, there}
use Rattle.table_law.proofs.Equal.{same_place_is, is_same_place}
use Rattle.program_graph.specs.declared.parts.GraphSite.{GraphSite as OwnSite}
use Rattle.program_graph.specs.Tells.{site_of}
use Rattle.stack_rules.specs.Sites.{in_own_site, IsIndexOf}
use Rattle.program_check.specs.Changes.{BeginsRow, IsUnkeptStart, LiesOutside}

module _ (p : Program) (states : ℕ → Option State) (n : ℕ) (place : Place) (at : place ≡ p.place n) (sites : List OwnSite) (index : IsIndexOf p sites) (laid : IsLaidOut p) where
  -- a site that holds the place is one of the program
  inside_of : (site : OwnSite) → in_own_site site place ≡ true → in_site (site_of site) (p.place n) ≡ true
  inside_of site held = subst (λ (z : Place). in_site (site_of site) z ≡ true) at held

  -- where a site holds it, the point begins a row only if it isn't kept and the site begins there
  held_start : (site : OwnSite) → Contains sites site → in_own_site site place ≡ true → BeginsRow p states n → (states n ≡ None) × (site.start ≡ place)
  held_start site listed held begins = go begins.begins
    where
      go : LiesOutside p (p.place n) ⊎ IsUnkeptStart p states n → (states n ≡ None) × (site.start ≡ place)
      go (inl outside) = absurd (both_ways (in_site (site_of site) (p.place n)) (outside (site_of site) (index.listed site listed)) (inside_of site held))
      go (inr start) =
          let same : start.site ≡ site_of site = laid.sites_apart start.site (site_of site) (p.place n) start.listed (index.listed site listed) start.inside (inside_of site held) in
          (start.not_kept, ap (λ (z : Site). z.start) (sym same) ∙ (start.start ∙ sym at))

  pub kept_begins_none : (site : OwnSite) → Contains sites site → in_own_site site place ≡ true → IsSome (states n) → BeginsRow p states n → ⊥
  kept_begins_none site listed held some begins = let e : states n ≡ None = (held_start site listed held begins).0 in let k = subst IsSome e some in cc

  pub behind_begins_none : (site : OwnSite) → Contains sites site → in_own_site site place ≡ true → not (same_place site.start place) ≡ true → BeginsRow p states n → ⊥
  behind_begins_none site listed held behind begins = both_ways (same_place site.start place) (not-true (same_place site.start place) behind) (is_same_place site.start place (held_start site listed held begins).1)

  pub start_begins : (site : OwnSite) → Contains sites site → in_own_site site place ≡ true → states n ≡ None → not (same_place site.start place) ≡ false → p.variant n ≡ 0 → BeginsRow p states n
  start_begins site listed held none same plain = record {
    plain = plain;
    begins = inr (record {
      site = site_of site;
      listed = index.listed site listed;
      start = same_place_is site.start place (not-false (same_place site.start place) same) ∙ at;
      inside = inside_of site held;
      not_kept = none;
    });
  }

  pub outside_begins : ((site : OwnSite) → Contains sites site → in_own_site site place ≡ false) → p.variant n ≡ 0 → BeginsRow p states n
  outside_begins none plain = record { plain = plain; begins = inl (λ site listed. outside site listed (cases_Bool (in_site site (p.place n)))) }
    where
      outside : (site : Site) → Contains p.sites site → (in_site site (p.place n) ≡ true) ⊎ (in_site site (p.place n) ≡ false) → in_site site (p.place n) ≡ false
      outside site listed (inr no_site) = no_site
      outside site listed (inl held) =
          let own = index.all site (p.place n) listed held in
          let here : in_own_site own.0 place ≡ true = subst (λ (z : Place). in_own_site own.0 z ≡ true) (sym at) (subst (λ (s : Site). in_site s (p.place n) ≡ true) (sym own.2) held) in
          absurd (both_ways (in_own_site own.0 place) (none own.0 own.1) here)

  -- a site that holds the place, or none does
  holding : (xs : List OwnSite) → ((site : OwnSite) × Contains xs site × (in_own_site site place ≡ true)) ⊎ ((site : OwnSite) → Contains xs site → in_own_site site place ≡ false)
  holding [] = inr (λ site c. nowhere site c)
  holding (x ∷ xs) = elim (cases_Bool (in_own_site x place)) [
    | inl held ↦ inl (x, here x xs, held)
    | inr not_held ↦ elim (holding xs) [
      | inl r ↦ inl (r.0, there x xs r.0 r.1, r.2)
      | inr none ↦ inr (λ site c. elim (cases x xs site c) [ inl e ↦ subst (λ (s : OwnSite). in_own_site s place ≡ false) e not_held | inr d ↦ none site d ])
    ]
  ]

  -- it begins a row, or it doesn't
  pub begins_or_not : BeginsRow p states n ⊎ (BeginsRow p states n → ⊥)
  begins_or_not = elim (cases_lt 0 (p.variant n)) [
    | inl replaced ↦ inr (λ begins. omega (arith, replaced, begins.plain))
    | inr low ↦
        let plain : p.variant n ≡ 0 = omega arith in
        elim (holding sites) [ inl r ↦ by_state r.0 r.1 r.2 plain (states n) refl | inr none ↦ inl (outside_begins none plain) ]
  ]
    where
      by_state : (site : OwnSite) → Contains sites site → in_own_site site place ≡ true → p.variant n ≡ 0 → (o : Option State) → states n ≡ o → BeginsRow p states n ⊎ (BeginsRow p states n → ⊥)
      by_state site listed held plain (Some s) e = inr (kept_begins_none site listed held (subst IsSome (sym e) refl))
      by_state site listed held plain None e = elim (cases_Bool (not (same_place site.start place))) [
        | inl behind ↦ inr (behind_begins_none site listed held behind)
        | inr same ↦ inl (start_begins site listed held e same plain)
      ]
