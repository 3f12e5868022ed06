-- The row that begins at the place of a kept point is that of its state.
use Rattle.std.proofs.Common.{◌≡◌, ◌≢◌, ℕ, ◌⊎◌, Bool, true, false, ◌&&◌, Option, Some, None, Contains, refl, sym, ap, ◌∙◌, subst, inl, inr, arith}
use Rattle.std.specs.Prelude.{◌==◌, if◌then◌else◌, option_map, option_and_then, is_some}
use Rattle.std.proofs.lemmas.Bool.{and_parts, eq-eqb, eqb-true}
use Rattle.ot_base.specs.declared.place.Place.{Place}
use Rattle.ot_base.specs.Places.{same_place}
use Rattle.state_defs.specs.declared.state.State.{State}
use Rattle.state_defs.specs.Row.{zero_row, row_of}
use Rattle.machine_defs.specs.Program.{Program, IsPoint, Site, in_site, below}
use Rattle.machine_defs.specs.Kept.{Kept, AreKeptStates}
use Rattle.machine_defs.specs.Broken.{IsAccepted, KeptInSite, variants_disagree}
use Rattle.machine_defs.specs.Rows.{row_or_zero, plain_at, site_at, kept_at, row_of_point, is_kept_site, row_by, row_at}
use Rattle.machine_defs.specs.IsProgram.{IsLaidOut}
use Rattle.unwinding_law.proofs.Lists.{in_below, from_below}
use Rattle.table_law.proofs.Lists.{some_or_none, finds, finds_one, finds_none}
use Rattle.table_law.proofs.Equal.{row_stable, same_place_is, is_same_place}

-- the place lies in no site
abbrev pub IsOutside : Program → Place → Type 0
IsOutside p place = (site : Site) → Contains p.sites site → in_site site place ≡ false

-- two tests that pass
both_true : {a b : Bool} → a ≡ true → b ≡ true → (a && b) ≡ true
both_true {a} {b} e f = rw (e, f) refl

module _ (p : Program) (laid : IsLaidOut p) where
  -- a place lies in no site, or in one that is found
  pub outside_or_in : (place : Place) → ((site_at p place ≡ None) × IsOutside p place) ⊎ ((site : Site) × (site_at p place ≡ Some site) × Contains p.sites site × (in_site site place ≡ true))
  outside_or_in place = finds (λ (site : Site). in_site site place) p.sites

  -- outside sites none is found
  pub outside_none : (place : Place) → IsOutside p place → site_at p place ≡ None
  outside_none place outside = finds_none (λ (site : Site). in_site site place) p.sites (λ site c h. let e : in_site site place ≡ false = outside site c in let k : ⊥ = cc in k)

  -- the site in which a place lies is found
  pub site_found : (place : Place) (site : Site) → Contains p.sites site → in_site site place ≡ true → site_at p place ≡ Some site
  site_found place site c h =
      let r = finds_one (λ (site : Site). in_site site place) p.sites site c h in
      r.1 ∙ ap Some (laid.sites_apart r.0 site place r.2 c r.3 h)

  -- the plain point at a place is the one that is found
  pub plain_found : (q : ℕ) (place : Place) → IsPoint p q → p.variant q ≡ 0 → p.place q ≡ place → plain_at p place ≡ Some q
  plain_found q place point plain at =
      let test : ℕ → Bool = λ q. p.variant q == 0 && same_place (p.place q) place in
      let r = finds_one (λ (q : ℕ). p.variant q == 0 && same_place (p.place q) place) (below p.count) q (in_below p.count q point) (both_true (eq-eqb (p.variant q) 0 plain) (is_same_place (p.place q) place at)) in
      let k = and_parts (p.variant r.0 == 0) _ r.3 in
      let there : IsPoint p r.0 = from_below p.count r.0 r.2 in
      let plain_there : p.variant r.0 ≡ 0 = eqb-true (p.variant r.0) 0 k.0 in
      let same : p.place r.0 ≡ p.place q = same_place_is (p.place r.0) place k.1 ∙ sym at in
      r.1 ∙ ap Some (laid.apart r.0 q there point (plain_there ∙ sym plain) (laid.plain r.0 there plain_there ∙ (same ∙ sym (laid.plain q point plain))))

  -- where no plain point stands none is found
  pub plain_none : (place : Place) → ((q : ℕ) → IsPoint p q → p.variant q ≡ 0 → p.place q ≡ place → ⊥) → plain_at p place ≡ None
  plain_none place f = finds_none (λ (q : ℕ). p.variant q == 0 && same_place (p.place q) place) (below p.count) (λ q c h.
      let k = and_parts (p.variant q == 0) _ h in
      f q (from_below p.count q c) (eqb-true (p.variant q) 0 k.0) (same_place_is (p.place q) place k.1))

  -- what runs outside sites is plain
  pub outside_plain : (q : ℕ) → IsPoint p q → IsOutside p (p.address q) → p.variant q ≡ 0
  outside_plain q point outside = go (let t : (p.variant q ≡ 0) ⊎ (p.variant q ≢ 0) = grind arith in t)
    where
      go : (p.variant q ≡ 0) ⊎ (p.variant q ≢ 0) → p.variant q ≡ 0
      go (inl e) = e
      go (inr n) = let r = laid.replaced q point n in let e : in_site r.0 (p.address q) ≡ false = outside r.0 r.1 in let f = r.2 in absurd (let k : ⊥ = cc in k)

  module _ (states : ℕ → Option State) (kept : AreKeptStates p states) where
    -- a kept point's row is that of its state
    point_row : (q : ℕ) (s : State) → Kept p q s → row_of_point states q ≡ row_of s
    point_row q s k = ap row_or_zero ((kept q s).1 k)

    -- outside sites
    pub row_outside : (q : ℕ) (s : State) → IsPoint p q → IsOutside p (p.address q) → Kept p q s → row_at p states (p.address q) ≡ Some (row_of s)
    row_outside q s point outside k =
        let plain = outside_plain q point outside in
        ap (λ (o : Option Site). row_by p states o (p.address q)) (outside_none (p.address q) outside)
        ∙ (ap (option_map (row_of_point states)) (plain_found q (p.address q) point plain (sym (laid.plain q point plain))) ∙ ap Some (point_row q s k))

    -- outside sites no row begins where no plain point stands
    pub none_outside : (place : Place) → IsOutside p place → ((q : ℕ) → IsPoint p q → p.variant q ≡ 0 → p.place q ≡ place → ⊥) → row_at p states place ≡ None
    none_outside place outside f =
        ap (λ (o : Option Site). row_by p states o place) (outside_none place outside)
        ∙ ap (option_map (row_of_point states)) (plain_none place f)

    -- in a site whose start is kept
    kept_site : (site : Site) (start : ℕ) (t : State) → IsPoint p start → p.variant start ≡ 0 → p.place start ≡ site.start → Kept p start t → is_kept_site p states site ≡ true
    kept_site site start t point plain place k =
        ap (λ (o : Option ℕ). is_some (option_and_then states o)) (plain_found start site.start point plain place)
        ∙ ap (λ (o : Option State). is_some o) ((kept start t).1 k)

    -- a number with a state is kept
    pub some_kept : (q : ℕ) → is_some (states q) ≡ true → (s : State) × Kept p q s
    some_kept q h = elim (some_or_none (states q)) [
      | inl e ↦ let k : is_some (states q) ≡ false = ap (λ (o : Option State). is_some o) e in absurd (let z : ⊥ = cc in z)
      | inr s ↦ (s.0, (kept q s.0).0 s.1)
    ]

    -- and the other way round
    pub kept_some : (q : ℕ) (s : State) → Kept p q s → is_some (states q) ≡ true
    kept_some q s k = ap (λ (o : Option State). is_some o) ((kept q s).1 k)

    module _ (site : Site) (listed : Contains p.sites site) (start : ℕ) (t : State) (point : IsPoint p start) (plain : p.variant start ≡ 0) (place : p.place start ≡ site.start) (start_kept : Kept p start t) where
      -- a kept number in the site
      pub in_kept : (q : ℕ) (s : State) → in_site site (p.address q) ≡ true → Kept p q s → KeptInSite p site q s
      in_kept q s inside k = record { listed = listed; plain = start; start = (place, plain); start_kept = (t, start_kept); inside = inside; kept = k }

      -- in a site whose start is kept the rows are those of kept points
      row_there : (at : Place) → in_site site at ≡ true → row_at p states at ≡ option_map (row_of_point states) (kept_at p states at)
      row_there at inside =
          ap (λ (o : Option Site). row_by p states o at) (site_found at site listed inside)
          ∙ ap (λ (b : Bool). if b then option_map (row_of_point states) (kept_at p states at) else (if same_place site.start at then Some zero_row else None)) (kept_site site start t point plain place start_kept)

      -- there the row that begins at a kept point is that of its state, or rule 12 would warn
      pub row_inside : IsAccepted p → (q : ℕ) (s : State) → IsPoint p q → in_site site (p.address q) ≡ true → Kept p q s → row_at p states (p.address q) ≡ Some (row_of s)
      row_inside acc q s q_point inside k =
          let r = finds_one (λ (r : ℕ). is_some (states r) && same_place (p.address r) (p.address q)) (below p.count) q (in_below p.count q q_point) (both_true (kept_some q s k) (is_same_place (p.address q) (p.address q) refl)) in
          let h = and_parts (is_some (states r.0)) _ r.3 in
          let u = some_kept r.0 h.0 in
          let same : p.address r.0 ≡ p.address q = same_place_is (p.address r.0) (p.address q) h.1 in
          let there : in_site site (p.address r.0) ≡ true = subst (λ (z : Place). in_site site z ≡ true) (sym same) inside in
          row_there (p.address q) inside
          ∙ (ap (option_map (row_of_point states)) r.1
          ∙ ap Some (point_row r.0 u.0 u.1 ∙ row_stable (row_of u.0) (row_of s) (λ ne. acc _ _ _ _ (variants_disagree site r.0 q u.0 s (in_kept r.0 u.0 there u.1) (in_kept q s inside k) same ne))))

      -- and none begins where no kept point stands
      pub none_inside : (at : Place) → in_site site at ≡ true → ((q : ℕ) (s : State) → IsPoint p q → Kept p q s → p.address q ≡ at → ⊥) → row_at p states at ≡ None
      none_inside at inside f =
          row_there at inside
          ∙ ap (option_map (row_of_point states)) (finds_none (λ (r : ℕ). is_some (states r) && same_place (p.address r) at) (below p.count) (λ r c h.
          let k = and_parts (is_some (states r)) _ h in
          let u = some_kept r k.0 in
          f r u.0 (from_below p.count r c) u.1 (same_place_is (p.address r) at k.1)))
