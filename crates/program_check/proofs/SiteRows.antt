-- The rows of kept points of sites.
use Rattle.std.proofs.Common.{◌≡◌, ◌≢◌, ◌⊎◌, ℕ, suc, ◌+◌, ◌-◌, ◌<◌, ◌≤◌, true, List, [], ◌∷◌, ◌++◌, Contains, length, get_or, take, drop, map, Option, inl, inr, arith, ap, sym, ◌∙◌, subst}
use Rattle.std.specs.Prelude.{slice_range}
use Rattle.std.specs.List.{AllPairs}
use Rattle.std.proofs.lemmas.Bool.{cases_lt}
use Rattle.std.proofs.lemmas.List.{drop-map, get_or_default, get_or-map, take-map}
use Rattle.std.proofs.lemmas.List.Elements.{Contains-append_left, Contains-push, Contains-push_cases, Contains-get_or}
use Rattle.std.proofs.lemmas.List.Quantifiers.{all_pairs_push}
use Rattle.ot_base.specs.declared.place.Place.{Place}
use Rattle.ot_base.specs.declared.row.PlacedRow.{PlacedRow}
use Rattle.ot_base.specs.Places.{is_before}
use Rattle.state_defs.specs.declared.state.State.{State}
use Rattle.machine_defs.specs.Program.{Program}
use Rattle.unwinding_law.proofs.Lists.{here, there, cases, in_map, nowhere}
use Rattle.stack_rules.specs.Points.{ComesBefore, IsSitePoint, AreSitePoints}
use Rattle.program_check.specs.Changes.{AreFirstOf, Ascends, AreRowsInSites, row_in_site, rows_in_sites}
use Rattle.program_check.proofs.Places.{before_through}

-- one point runs before another
abbrev pub RunsBefore : Program → ℕ → ℕ → Type 0
RunsBefore p q r = is_before (p.address q) (p.address r) ≡ true

module _ (p : Program) (points : List ℕ) where
  -- the first at each address of the first i points
  pub record AreSoFar (i : ℕ) (firsts : List ℕ) : Type 0 where
    pub each : (q : ℕ) → Contains firsts q → (k : ℕ) × (k < i) × ((d : ℕ) → get_or points k d ≡ q)
    pub all : (k d : ℕ) → k < i → (r : ℕ) × Contains firsts r × (p.address r ≡ p.address (get_or points k d))
    pub ascend : AllPairs (ComesBefore p) points → AllPairs (RunsBefore p) firsts

  pub none_so_far : AreSoFar 0 []
  none_so_far = record { each = λ q c. nowhere q c; all = λ k d l. absurd (omega arith); ascend = λ up i j d l inside. absurd (let z : j < 0 = inside in omega (arith, z)) }

  module _ (i d : ℕ) (inside : i < length points) (firsts : List ℕ) (h : AreSoFar i firsts) where
    -- an earlier point's address is before one that is another than that before it
    address_before : AllPairs (ComesBefore p) points → p.address (get_or points (i - 1) d) ≢ p.address (get_or points i d) → (k : ℕ) → k < i → RunsBefore p (get_or points k d) (get_or points i d)
    address_before ordered differ k l = go (cases_lt k (i - 1))
      where
        last : (q r : ℕ) → ComesBefore p q r → p.address q ≢ p.address r → RunsBefore p q r
        last q r (inl e) ne = e
        last q r (inr e) ne = absurd (ne e.0)

        first : (q r s : ℕ) → ComesBefore p q r → RunsBefore p r s → RunsBefore p q s
        first q r s (inl e) k = before_through (p.address q) (p.address r) (p.address s) e k
        first q r s (inr e) k = subst (λ (a : Place). is_before a (p.address s) ≡ true) (sym e.0) k

        here_last : RunsBefore p (get_or points (i - 1) d) (get_or points i d)
        here_last = last (get_or points (i - 1) d) (get_or points i d) (ordered (i - 1) i d (omega arith) inside) differ

        go : (k < i - 1) ⊎ (i - 1 ≤ k) → RunsBefore p (get_or points k d) (get_or points i d)
        go (inl lower) = first (get_or points k d) (get_or points (i - 1) d) (get_or points i d) (ordered k (i - 1) d lower (omega arith)) here_last
        go (inr same) = let e : i - 1 ≡ k = omega arith in subst (λ (m : ℕ). RunsBefore p (get_or points m d) (get_or points i d)) e here_last

    -- a point at another address than the one before
    pub one_more : ((i ≡ 0) ⊎ (p.address (get_or points (i - 1) d) ≢ p.address (get_or points i d))) → AreSoFar (i + 1) (firsts ++ get_or points i d ∷ [])
    one_more other = record {
      each = λ q c. elim (Contains-push_cases firsts (get_or points i d) q c) [
        | inl a ↦ let r = h.each q a in (r.0, omega (arith, r.1), r.2)
        | inr e ↦ (i, omega arith, λ f. get_or_default points i f d inside ∙ e)
      ];
      all = λ k f l. elim (cases_lt k i) [
        | inl lower ↦ let r = h.all k f lower in (r.0, Contains-append_left firsts (get_or points i d ∷ []) r.0 r.1, r.2)
        | inr same ↦ let e : i ≡ k = omega arith in (get_or points i d, Contains-push firsts (get_or points i d), ap p.address (get_or_default points i d f inside ∙ ap (λ (m : ℕ). get_or points m f) e))
      ];
      ascend = λ ordered. all_pairs_push (RunsBefore p) firsts (get_or points i d) (h.ascend ordered) (λ k f l. behind ordered (get_or firsts k f) (h.each (get_or firsts k f) (Contains-get_or firsts k f l)));
    }
      where
        behind : AllPairs (ComesBefore p) points → (q : ℕ) → (k : ℕ) × (k < i) × ((f : ℕ) → get_or points k f ≡ q) → RunsBefore p q (get_or points i d)
        behind ordered q r = elim other [
          | inl first ↦ absurd (omega (arith, r.1, first))
          | inr differ ↦ subst (λ (s : ℕ). RunsBefore p s (get_or points i d)) (r.2 d) (address_before ordered differ r.0 r.1)
        ]

    -- a point at the address of the one before
    pub one_passed : (i ≢ 0) → p.address (get_or points (i - 1) d) ≡ p.address (get_or points i d) → AreSoFar (i + 1) firsts
    one_passed some same = record {
      each = λ q c. let r = h.each q c in (r.0, omega (arith, r.1), r.2);
      all = λ k f l. elim (cases_lt k i) [
        | inl lower ↦ h.all k f lower
        | inr last ↦
            let e : i ≡ k = omega arith in
            let r = h.all (i - 1) d (omega arith) in
            (r.0, r.1, r.2 ∙ (same ∙ ap p.address (get_or_default points i d f inside ∙ ap (λ (m : ℕ). get_or points m f) e)))
      ];
      ascend = h.ascend;
    }

  pub firsts_are : (n : ℕ) (firsts : List ℕ) → length points ≤ n → n ≤ length points → AreSoFar n firsts → AreFirstOf p points firsts
  firsts_are n firsts l m h = record {
    each = λ q c. let r = h.each q c in subst (λ (s : ℕ). Contains points s) (r.2 q) (Contains-get_or points r.0 q (omega (arith, r.1)));
    all = λ q (k, inside, e). let r = h.all k q (omega (arith, inside)) in (r.0, r.1, r.2 ∙ ap p.address e);
    ascend = h.ascend;
  }

-- what is mapped comes from an element
from_map : {X Y : Type 0} (f : X → Y) (xs : List X) (y : Y) → Contains (map f xs) y → (x : X) × Contains xs x × (f x ≡ y)
from_map f [] y c = nowhere y c
from_map f (x ∷ xs) y c = elim (cases (f x) (map f xs) y c) [ inl e ↦ (x, here x xs, e) | inr d ↦ let r = from_map f xs y d in (r.0, there x xs r.0 r.1, r.2) ]

module _ (p : Program) (states : ℕ → Option State) where
  -- rows of points that run one before another ascend
  rows_ascend : (points : List ℕ) → AllPairs (RunsBefore p) points → Ascends (rows_in_sites p states points)
  rows_ascend [] up = tt
  rows_ascend (q ∷ points) up = (
    λ y c. let r = from_map (row_in_site p states) points y c in behind y r.0 r.1 r.2,
    rows_ascend points (λ i j d l inside. up (suc i) (suc j) d (omega arith) (omega arith)),
  )
    where
      behind : (y : PlacedRow) (r : ℕ) → Contains points r → row_in_site p states r ≡ y → is_before (p.address q) y.place ≡ true
      behind y r (k, l, e) is =
          let later : RunsBefore p q (get_or points k r) = up 0 (suc k) r (omega arith) (omega arith) in
          subst (λ (z : PlacedRow). is_before (p.address q) z.place ≡ true) is (subst (λ (s : ℕ). RunsBefore p q s) e later)

  -- so they are the rows in the sites of the program
  pub in_program : (points firsts : List ℕ) → AreSitePoints p points → AreFirstOf p points firsts → AreRowsInSites p states (rows_in_sites p states firsts)
  in_program points firsts are first = record {
    ascend = rows_ascend firsts (first.ascend are.ascend);
    each = λ x c.
        let r = from_map (row_in_site p states) firsts x c in
        let q : IsSitePoint p r.0 = are.each r.0 (first.each r.0 r.1) in
        record { site = q.site; point = r.0; state = q.state; kept = q.kept; place = ap (λ (z : PlacedRow). z.place) r.2; row = ap (λ (z : PlacedRow). z.row) (sym r.2) };
    all = λ site q s k.
        let r = first.all q (are.all site q s k) in
        (row_in_site p states r.0, in_map (row_in_site p states) firsts r.0 r.1, r.2);
  }

  -- the rows of a range of points
  pub rows_of_range : (points : List ℕ) (from to : ℕ) → slice_range (rows_in_sites p states points) from to ≡ rows_in_sites p states (slice_range points from to)
  rows_of_range points from to = ap (take (to - from)) (drop-map (row_in_site p states) from points) ∙ take-map (row_in_site p states) (to - from) (drop from points)

  -- the row at a place of the list
  pub row_there : (points : List ℕ) (k : ℕ) (d : PlacedRow) → k < length points → get_or (rows_in_sites p states points) k d ≡ row_in_site p states (get_or points k 0)
  row_there points k d inside = get_or-map (row_in_site p states) points k 0 d inside
