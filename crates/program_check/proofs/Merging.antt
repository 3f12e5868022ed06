-- How rows of points and rows in sites come together.
use Rattle.std.proofs.Common.{◌≡◌, ◌⊎◌, ℕ, zero, suc, ◌+◌, ◌-◌, ◌<◌, ◌≤◌, true, false, List, [], ◌∷◌, ◌++◌, length, get_or, take, drop, Contains, Option, Some, inl, inr, arith, refl, ap, sym, ◌∙◌, subst}
use Rattle.std.specs.Prelude.{slice_range}
use Rattle.std.proofs.lemmas.Bool.{cases_lt, both_ways}
use Rattle.std.proofs.lemmas.List.{take_more, take_rest, get_or-drop, get_or_default, length-drop}
use Rattle.std.proofs.lemmas.List.Elements.{Contains-append_left, Contains-push, Contains-push_cases, Contains-get_or}
use Rattle.std.proofs.lemmas.Option.{none-some}
use Rattle.ot_base.specs.declared.place.Place.{Place}
use Rattle.ot_base.specs.declared.row.PlacedRow.{PlacedRow}
use Rattle.ot_base.specs.Places.{is_before}
use Rattle.state_defs.specs.declared.state.State.{State}
use Rattle.machine_defs.specs.Program.{Program, Site, IsPoint, in_site}
use Rattle.machine_defs.specs.IsProgram.{IsLaidOut}
use Rattle.machine_defs.specs.Kept.{Kept, AreKeptStates}
use Rattle.table_defs.specs.Order.{PlainPointsAscend}
use Rattle.unwinding_law.proofs.Lists.{nowhere}
use Rattle.program_check.specs.Changes.{Ascends, AreMerged, AreRowsInSites, BeginsRow, IsRowInSite, IsUnkeptStart, LiesOutside, add_all, after_row, row_from}
use Rattle.program_check.proofs.Places.{before_through, before_from, other_before}
use Rattle.program_check.proofs.Lists.{ascends_push, ascends_at}

-- rows that are added in two parts
pub add_all-append : (rows xs ys : List PlacedRow) → add_all rows (xs ++ ys) ≡ add_all (add_all rows xs) ys
add_all-append rows [] ys = refl
add_all-append rows (x ∷ xs) ys = add_all-append (after_row rows x) xs ys

-- a range with one more element
pub slice_more : {X : Type 0} (xs : List X) (from to : ℕ) (d : X) → from ≤ to → to < length xs → slice_range xs from (to + 1) ≡ slice_range xs from to ++ get_or xs to d ∷ []
slice_more {X} xs from to d l inside =
    let count : to + 1 - from ≡ to - from + 1 = omega arith in
    let there : from + (to - from) ≡ to = omega arith in
    ap (λ (n : ℕ). take n (drop from xs)) count
    ∙ take_more (drop from xs) (to - from) d (omega (arith, length-drop from xs))
    ∙ ap (λ (x : X). take (to - from) (drop from xs) ++ x ∷ []) (get_or-drop from xs (to - from) d ∙ ap (λ (n : ℕ). get_or xs n d) there)

module _ (p : Program) (states : ℕ → Option State) (in_sites : List PlacedRow) where
  -- the row is one of a point that begins one
  abbrev pub IsPlainRow : PlacedRow → Type 0
  IsPlainRow x = (q : ℕ) × IsPoint p q × BeginsRow p states q × (x ≡ row_from p states q)

  -- the rows of the first n points, and the first of those in sites
  pub record IsSoFar (n next : ℕ) (all : List PlacedRow) : Type 0 where
    pub ascend : Ascends all
    pub each : (x : PlacedRow) → Contains all x → IsPlainRow x ⊎ Contains in_sites x
    pub plain : (q : ℕ) → q < n → BeginsRow p states q → Contains all (row_from p states q)
    pub sites : (k : ℕ) (d : PlacedRow) → k < next → k < length in_sites → Contains all (get_or in_sites k d)
    pub before_plain : (x : PlacedRow) (r : ℕ) → Contains all x → n ≤ r → IsPoint p r → p.variant r ≡ 0 → is_before x.place (p.place r) ≡ true
    pub before_sites : (x : PlacedRow) (k : ℕ) (d : PlacedRow) → Contains all x → next ≤ k → k < length in_sites → is_before x.place (get_or in_sites k d).place ≡ true

  pub none_so_far : IsSoFar 0 0 []
  none_so_far = record {
    ascend = tt;
    each = λ x c. nowhere x c;
    plain = λ q l h. absurd (omega arith);
    sites = λ k d l inside. absurd (omega arith);
    before_plain = λ x r c l point plain. nowhere x c;
    before_sites = λ x k d c l inside. nowhere x c;
  }

  -- a point that begins no row
  pub no_row : (n next : ℕ) (all : List PlacedRow) → IsSoFar n next all → (BeginsRow p states n → ⊥) → IsSoFar (n + 1) next all
  no_row n next all h none = record {
    ascend = h.ascend;
    each = h.each;
    plain = λ q l begins. elim (cases_lt q n) [ inl lower ↦ h.plain q lower begins | inr same ↦ (let e : q ≡ n = omega arith in absurd (none (subst (λ (r : ℕ). BeginsRow p states r) e begins))) ];
    sites = h.sites;
    before_plain = λ x r c l point plain. h.before_plain x r c (omega arith) point plain;
    before_sites = h.before_sites;
  }

  -- the place of a row in a site comes before those of the points from n on
  abbrev pub IsBelow : ℕ → PlacedRow → Type 0
  IsBelow n x = (r : ℕ) → n ≤ r → IsPoint p r → p.variant r ≡ 0 → is_before x.place (p.place r) ≡ true

  -- one more row in a site
  one_in_site : (n next : ℕ) (d : PlacedRow) (all : List PlacedRow) → Ascends in_sites → IsSoFar n next all → next < length in_sites → IsBelow n (get_or in_sites next d) → IsSoFar n (next + 1) (all ++ get_or in_sites next d ∷ [])
  one_in_site n next d all up h inside below = record {
    ascend = ascends_push all x h.ascend (λ y c. h.before_sites y next d c (omega arith) inside);
    each = λ y c. elim (Contains-push_cases all x y c) [ inl a ↦ h.each y a | inr e ↦ inr (subst (λ (z : PlacedRow). Contains in_sites z) e (Contains-get_or in_sites next d inside)) ];
    plain = λ q l begins. Contains-append_left all (x ∷ []) (row_from p states q) (h.plain q l begins);
    sites = λ k e l k_inside. elim (cases_lt k next) [
      | inl lower ↦ Contains-append_left all (x ∷ []) (get_or in_sites k e) (h.sites k e lower k_inside)
      | inr same ↦ subst (λ (z : PlacedRow). Contains (all ++ x ∷ []) z) (get_or_default in_sites next d e inside ∙ ap (λ (m : ℕ). get_or in_sites m e) (let same_place : next ≡ k = omega arith in same_place)) (Contains-push all x)
    ];
    before_plain = λ y r c l point plain. elim (Contains-push_cases all x y c) [ inl a ↦ h.before_plain y r a l point plain | inr e ↦ subst (λ (z : PlacedRow). is_before z.place (p.place r) ≡ true) e (below r l point plain) ];
    before_sites = λ y k e c l k_inside. elim (Contains-push_cases all x y c) [
      | inl a ↦ h.before_sites y k e a (omega arith) k_inside
      | inr f ↦ subst (λ (z : PlacedRow). is_before z.place (get_or in_sites k e).place ≡ true) f (ascends_at in_sites up next k d e (omega arith) k_inside)
    ];
  }
    where
      x : PlacedRow
      x = get_or in_sites next d

  -- some more rows in sites
  pub more_in_sites : (count n next : ℕ) (d : PlacedRow) (all : List PlacedRow) → Ascends in_sites → IsSoFar n next all → next + count ≤ length in_sites → ((k : ℕ) → next ≤ k → k < next + count → IsBelow n (get_or in_sites k d))
      → (more : List PlacedRow) × IsSoFar n (next + count) more × (add_all [] more ≡ add_all (add_all [] all) (take count (drop next in_sites)))
  more_in_sites zero n next d all up h inside below = (all, subst (λ (m : ℕ). IsSoFar n m all) (let e : next ≡ next + 0 = omega arith in e) h, refl)
  more_in_sites (suc count) n next d all up h inside below =
      let r = more_in_sites count n next d all up h (omega arith) (λ k low high. below k low (omega arith)) in
      let at : PlacedRow = get_or in_sites (next + count) d in
      let one = one_in_site n (next + count) d r.0 up r.1 (omega arith) (below (next + count) (omega arith) (omega arith)) in
      let rest : List PlacedRow = drop next in_sites in
      let short : count < length rest = omega (arith, length-drop next in_sites) in
      let is : take (count + 1) rest ≡ take count rest ++ at ∷ [] = take_more rest count d short ∙ ap (λ (x : PlacedRow). take count rest ++ x ∷ []) (get_or-drop next in_sites count d) in
      let same : count + 1 ≡ suc count = omega arith in (
        r.0 ++ at ∷ [],
        subst (λ (m : ℕ). IsSoFar n m (r.0 ++ at ∷ [])) (let e : next + count + 1 ≡ next + suc count = omega arith in e) one,
        add_all-append [] r.0 (at ∷ [])
            ∙ ap (λ (rows : List PlacedRow). after_row rows at) r.2
            ∙ sym (add_all-append (add_all [] all) (take count rest) (at ∷ []))
            ∙ ap (λ (xs : List PlacedRow). add_all (add_all [] all) xs) (sym is)
            ∙ ap (λ (m : ℕ). add_all (add_all [] all) (take m rest)) same,
      )

  -- the row of a point
  pub one_row : (n next : ℕ) (all : List PlacedRow) → PlainPointsAscend p → IsSoFar n next all → IsPoint p n → BeginsRow p states n → ((k : ℕ) (d : PlacedRow) → next ≤ k → k < length in_sites → is_before (p.place n) (get_or in_sites k d).place ≡ true) → IsSoFar (n + 1) next (all ++ row_from p states n ∷ [])
  one_row n next all ascending h point begins behind = record {
    ascend = ascends_push all x h.ascend (λ y c. h.before_plain y n c (omega arith) point begins.plain);
    each = λ y c. elim (Contains-push_cases all x y c) [ inl a ↦ h.each y a | inr e ↦ inl (n, point, begins, sym e) ];
    plain = λ q l q_begins. elim (cases_lt q n) [
      | inl lower ↦ Contains-append_left all (x ∷ []) (row_from p states q) (h.plain q lower q_begins)
      | inr same ↦ subst (λ (r : ℕ). Contains (all ++ x ∷ []) (row_from p states r)) (let e : n ≡ q = omega arith in e) (Contains-push all x)
    ];
    sites = λ k d l inside. Contains-append_left all (x ∷ []) (get_or in_sites k d) (h.sites k d l inside);
    before_plain = λ y r c l r_point plain. elim (Contains-push_cases all x y c) [
      | inl a ↦ h.before_plain y r a (omega arith) r_point plain
      | inr e ↦ subst (λ (z : PlacedRow). is_before z.place (p.place r) ≡ true) e (before_from (p.place n) (p.place r) (ascending n r point r_point begins.plain plain (omega arith)))
    ];
    before_sites = λ y k d c l inside. elim (Contains-push_cases all x y c) [ inl a ↦ h.before_sites y k d a l inside | inr e ↦ subst (λ (z : PlacedRow). is_before z.place (get_or in_sites k d).place ≡ true) e (behind k d l inside) ];
  }
    where
      x : PlacedRow
      x = row_from p states n

  -- all rows
  merged : (all : List PlacedRow) → IsSoFar p.count (length in_sites) all → AreMerged p states in_sites all
  merged all h = record {
    ascend = h.ascend;
    each = h.each;
    plain = λ q point begins. h.plain q point begins;
    sites = λ x (k, l, e). subst (λ (z : PlacedRow). Contains all z) e (h.sites k x l l);
  }

  -- a point that begins a row doesn't stand where one in a site begins
  pub apart : IsLaidOut p → AreKeptStates p states → (x : PlacedRow) (q : ℕ) → IsRowInSite p states x → IsPoint p q → BeginsRow p states q → ((r : ℕ) (s : State) → Kept p r s → IsPoint p r) → p.place q ≡ x.place → ⊥
  apart laid kept x q row point begins kept_point e = go begins.begins
    where
      inside : in_site row.site (p.place q) ≡ true
      inside = subst (λ (z : Place). in_site row.site z ≡ true) (row.place ∙ sym e) (row.kept).inside

      go : LiesOutside p (p.place q) ⊎ IsUnkeptStart p states q → ⊥
      go (inl outside) = both_ways (in_site row.site (p.place q)) (outside row.site (row.kept).listed) inside
      go (inr start) =
          let same : start.site ≡ row.site = laid.sites_apart start.site row.site (p.place q) start.listed (row.kept).listed start.inside inside in
          let other : ℕ = (row.kept).plain in
          let other_point : IsPoint p other = kept_point other ((row.kept).start_kept).0 ((row.kept).start_kept).1 in
          let places : p.place other ≡ p.place q = ((row.kept).start).0 ∙ (ap (λ (z : Site). z.start) (sym same) ∙ start.start) in
          let one : other ≡ q = laid.apart other q other_point point (((row.kept).start).1 ∙ sym begins.plain) (laid.plain other other_point ((row.kept).start).1 ∙ (places ∙ sym (laid.plain q point begins.plain))) in
          let some : states other ≡ Some ((row.kept).start_kept).0 = (kept other ((row.kept).start_kept).0).1 ((row.kept).start_kept).1 in
          none-some _ (sym start.not_kept ∙ (ap states (sym one) ∙ some))

  -- the rows in sites up to a point that begins one, and its row
  pub step : PlainPointsAscend p → IsLaidOut p → AreKeptStates p states → ((q : ℕ) (s : State) → Kept p q s → IsPoint p q) → Ascends in_sites → AreRowsInSites p states in_sites
      → (n next end : ℕ) (d : PlacedRow) (all : List PlacedRow) → IsSoFar n next all → next ≤ end → end ≤ length in_sites
      → ((k : ℕ) → next ≤ k → k < end → is_before (get_or in_sites k d).place (p.place n) ≡ true) → (end < length in_sites → is_before (get_or in_sites end d).place (p.place n) ≡ false)
      → IsPoint p n → BeginsRow p states n
      → (more : List PlacedRow) × IsSoFar (n + 1) end more × (add_all [] more ≡ after_row (add_all (add_all [] all) (slice_range in_sites next end)) (row_from p states n))
  step ascending laid kept kept_point up rows n next end d all h low high before other point begins =
      let r = more_in_sites (end - next) n next d all up h (omega arith) (λ k l m. below k l (omega arith)) in
      let there : IsSoFar n end r.0 = subst (λ (m : ℕ). IsSoFar n m r.0) (let e : next + (end - next) ≡ end = omega arith in e) r.1 in (
        r.0 ++ row_from p states n ∷ [],
        one_row n end r.0 ascending there point begins behind,
        add_all-append [] r.0 (row_from p states n ∷ []) ∙ ap (λ (xs : List PlacedRow). after_row xs (row_from p states n)) r.2,
      )
    where
      below : (k : ℕ) → next ≤ k → k < end → IsBelow n (get_or in_sites k d)
      below k l m r after r_point plain = elim (cases_lt n r) [
        | inl later ↦ before_through (get_or in_sites k d).place (p.place n) (p.place r) (before k l m) (before_from (p.place n) (p.place r) (ascending n r point r_point begins.plain plain later))
        | inr same ↦ subst (λ (q : ℕ). is_before (get_or in_sites k d).place (p.place q) ≡ true) (let e : n ≡ r = omega arith in e) (before k l m)
      ]

      first : end < length in_sites → is_before (p.place n) (get_or in_sites end d).place ≡ true
      first inside = other_before (get_or in_sites end d).place (p.place n) (other inside) (apart laid kept (get_or in_sites end d) n (rows.each (get_or in_sites end d) (Contains-get_or in_sites end d inside)) point begins kept_point)

      behind : (k : ℕ) (e : PlacedRow) → end ≤ k → k < length in_sites → is_before (p.place n) (get_or in_sites k e).place ≡ true
      behind k e l inside = elim (cases_lt end k) [
        | inl later ↦ before_through (p.place n) (get_or in_sites end d).place (get_or in_sites k e).place (first (omega arith)) (ascends_at in_sites up end k d e later inside)
        | inr same ↦
            let one : end ≡ k = omega arith in
            subst (λ (x : PlacedRow). is_before (p.place n) x.place ≡ true) (get_or_default in_sites end d e (omega arith) ∙ ap (λ (m : ℕ). get_or in_sites m e) one) (first (omega arith))
      ]

  -- all rows, with those in sites behind the last point
  pub whole : (n next : ℕ) (d : PlacedRow) (all : List PlacedRow) → Ascends in_sites → n ≡ p.count → next ≤ length in_sites → IsSoFar n next all → (more : List PlacedRow) × AreMerged p states in_sites more × (add_all [] more ≡ add_all (add_all [] all) (drop next in_sites))
  whole n next d all up last low h =
      let r = more_in_sites (length in_sites - next) n next d all up h (omega arith) (λ k l m q after point plain. absurd (omega (arith, after, point, last))) in
      let there : IsSoFar p.count (length in_sites) r.0 = subst (λ (m : ℕ). IsSoFar m (length in_sites) r.0) last (subst (λ (m : ℕ). IsSoFar n m r.0) (let e : next + (length in_sites - next) ≡ length in_sites = omega arith in e) r.1) in
      (r.0, merged r.0 there, r.2 ∙ ap (λ (xs : List PlacedRow). add_all (add_all [] all) xs) (take_rest in_sites next))
