-- The look-up of a row, whatever the order of the table.
use Rattle.std.proofs.lemmas.Option.{none-some}
use Rattle.std.proofs.Common.{◌≡◌, ◌≢◌, ℕ, ◌+◌, ◌*◌, ◌<◌, ◌≤◌, ◌⊎◌, true, false, cond, not, ◌&&◌, ◌||◌, List, ◌∷◌, Option, Some, None, Contains, eqb, ltb, leb, refl, sym, ap, ◌∙◌, subst, inl, inr, arith}
use Rattle.std.specs.Prelude.{option_map}
use Rattle.std.proofs.lemmas.Bool.{ltb-true, le-leb}
use Rattle.std.proofs.lemmas.Bool.Decides.{nat_tests}
use Rattle.std.proofs.lemmas.List.Elements.{All-contains, Contains-append_right, Contains-append_cases}
use Rattle.ot_base.specs.declared.row.Row.{Row}
use Rattle.ot_base.specs.declared.row.PlacedRow.{PlacedRow}
use Rattle.state_defs.specs.Row.{zero_row}
use Rattle.table_defs.specs.declared.range.Range.{Range}
use Rattle.ot_base.specs.declared.codes.TheConstants.{KIND_UNDEFINED}
use Rattle.table_defs.specs.Placement.{address_of}
use Rattle.table_defs.specs.Lookup.{AddressedRow, addressed_row, addressed, at_or_below, comes_before, IsLast, RowHoldsAt, find_row}
use Rattle.table_defs.specs.WalkLaws.{FoundIsLast, NoneFoundIsNone}
use Rattle.unwinding_law.proofs.Lists.{here, cases, nowhere, in_filter, from_filter}
use Rattle.table_law.proofs.Equal.{low_is}
use Rattle.table_law.proofs.Lists.{some_is, some_or_none, in_filter_map, from_filter_map}

-- a row at an address
abbrev pub at_address : ℕ → Row → AddressedRow
at_address at row = record { address = at; row = row }

-- The order of the look-up as an order of numbers.
abbrev rank : AddressedRow → ℕ
rank x = 2 * x.address + cond (eqb x.row.kind KIND_UNDEFINED) 0 1

-- the test of the order is one of numbers
by_rank : (a b j k u : ℕ) → (ltb a b || (eqb a b && (eqb j u && not (eqb k u)))) ≡ ltb (2 * a + cond (eqb j u) 0 1) (2 * b + cond (eqb k u) 0 1)
by_rank a b j k u = grind (arith, nat_tests)

-- a row that comes before another is of lower rank
before_rank : (x y : AddressedRow) → comes_before x y ≡ true → rank x < rank y
before_rank x y h = ltb-true (rank x) (rank y) (sym (by_rank x.address y.address x.row.kind y.row.kind KIND_UNDEFINED) ∙ h)

-- no row comes before one that comes before it
one_way : (x y : AddressedRow) → comes_before x y ≡ true → comes_before y x ≡ true → ⊥
one_way x y h k = let a = before_rank x y h in let b = before_rank y x k in omega (arith, a, b)

-- a row comes before one of a higher address
pub before_above : (a b : ℕ) (row other : Row) → a < b → comes_before (at_address a row) (at_address b other) ≡ true
before_above a b row other h = go a b row.kind other.kind KIND_UNDEFINED h
  where
    go : (a b j k u : ℕ) → a < b → (ltb a b || (eqb a b && (eqb j u && not (eqb k u)))) ≡ true
    go a b j k u h = grind (arith, nat_tests)

-- and one that says that nothing is known before one of another kind at its address or above
pub zero_before : (a b : ℕ) (other : Row) → a ≤ b → other.kind ≢ 0 → comes_before (at_address a zero_row) (at_address b other) ≡ true
zero_before a b other h k = go a b other.kind h k
  where
    go : (a b k : ℕ) → a ≤ b → k ≢ 0 → (ltb a b || (eqb a b && not (eqb k 0))) ≡ true
    go a b k h l = grind (arith, nat_tests)

-- a row of the table that lies at or below the address, at this one
pub record Lies (rows : List PlacedRow) (ranges : List Range) (address : ℕ) (x : PlacedRow) (at : ℕ) : Type 0 where
  pub listed : Contains rows x
  pub placed : address_of ranges x.place ≡ Some at
  pub low : at ≤ address

-- the rows at or below the address are of these contents, or come before another of them
abbrev pub AllGiveWay : List PlacedRow → List Range → ℕ → Row → Type 0
AllGiveWay rows ranges address row = (x : PlacedRow) (at : ℕ) → Lies rows ranges address x at
    → (x.row ≡ row) ⊎ ((y : PlacedRow) × (b : ℕ) × Lies rows ranges address y b × (comes_before (at_address at x.row) (at_address b y.row) ≡ true))

module _ (rows : List PlacedRow) (ranges : List Range) (address : ℕ) where
  -- a row that lies there is among those that the look-up sees
  in_low : (x : PlacedRow) (at : ℕ) → Lies rows ranges address x at → Contains (at_or_below address (addressed ranges rows)) (at_address at x.row)
  in_low x at h = in_filter (λ (a : AddressedRow). leb a.address address) (addressed ranges rows) (at_address at x.row)
      (in_filter_map (addressed_row ranges) rows x (at_address at x.row) h.listed (ap (option_map (λ (n : ℕ). at_address n x.row)) h.placed))
      (le-leb at address h.low)

  -- what a row with an address is
  addressed_is : (x : PlacedRow) (o : Option ℕ) (a : AddressedRow) → address_of ranges x.place ≡ o → option_map (λ (n : ℕ). at_address n x.row) o ≡ Some a → (address_of ranges x.place ≡ Some a.address) × (x.row ≡ a.row)
  addressed_is x None a e h = absurd (none-some _ h)
  addressed_is x (Some n) a e h = let k = some_is h in (e ∙ ap (λ (z : AddressedRow). Some z.address) k, ap (λ (z : AddressedRow). z.row) k)

  -- each that the look-up sees is a row that lies there
  from_low : (a : AddressedRow) → Contains (at_or_below address (addressed ranges rows)) a → (x : PlacedRow) × Lies rows ranges address x a.address × (x.row ≡ a.row)
  from_low a c =
      let f = from_filter (λ (a : AddressedRow). leb a.address address) (addressed ranges rows) a c in
      let r = from_filter_map (addressed_row ranges) rows a f.0 in
      let k = addressed_is r.0 (address_of ranges (r.0).place) a refl r.2 in
      (r.0, record { listed = r.1; placed = k.0; low = low_is a.address address f.1 }, k.1)

  -- where all but rows of these contents give way, a row of these contents is found, or none
  pub finds_row : FoundIsLast → (row : Row) → AllGiveWay rows ranges address row → (find_row rows ranges address ≡ Some row) ⊎ (find_row rows ranges address ≡ None)
  finds_row found row all = elim (some_or_none (find_row rows ranges address)) [ inl none ↦ inr none | inr one ↦ inl (one.1 ∙ ap Some (go one.0 ((found rows ranges address one.0).0 one.1))) ]
    where
      low : List AddressedRow
      low = at_or_below address (addressed ranges rows)

      -- no row comes behind the one that holds
      later : (s : Row) (h : RowHoldsAt rows ranges address s) (b : AddressedRow) → Contains (at_or_below address (addressed ranges rows)) b → comes_before (at_address h.from s) b ≡ true → ⊥
      later s h b c before = elim (Contains-append_cases l.ahead (z ∷ l.behind) b (subst (λ (xs : List AddressedRow). Contains xs b) l.all c)) [
        | inl d ↦ let e : comes_before z b ≡ false = All-contains (λ other. comes_before z other ≡ false) l.ahead b l.before_none d in let k : ⊥ = cc in k
        | inr d ↦ elim (cases z l.behind b d) [
          | inl e ↦ one_way z z (subst (λ (w : AddressedRow). comes_before z w ≡ true) (sym e) before) (subst (λ (w : AddressedRow). comes_before z w ≡ true) (sym e) before)
          | inr k ↦ one_way z b before (All-contains (λ other. comes_before other z ≡ true) l.behind b l.after_each k)
        ]
      ]
        where
          z : AddressedRow
          z = at_address h.from s

          l : IsLast (at_or_below address (addressed ranges rows)) z
          l = h.last

      go : (s : Row) → RowHoldsAt rows ranges address s → s ≡ row
      go s h =
          let l = h.last in
          let z : AddressedRow = at_address h.from s in
          let c : Contains (at_or_below address (addressed ranges rows)) z = subst (λ (xs : List AddressedRow). Contains xs z) (sym l.all) (Contains-append_right l.ahead (z ∷ l.behind) z (here z l.behind)) in
          let x = from_low z c in
          elim (all x.0 h.from x.1) [
            | inl e ↦ sym x.2 ∙ e
            | inr y ↦ absurd (later s h (at_address y.1 (y.0).row) (in_low y.0 y.1 y.2) (subst (λ (r : Row). comes_before (at_address h.from r) (at_address y.1 (y.0).row) ≡ true) x.2 y.3))
          ]

  -- one is found where one lies at or below
  pub finds_some : NoneFoundIsNone → (x : PlacedRow) (at : ℕ) → Lies rows ranges address x at → find_row rows ranges address ≡ None → ⊥
  finds_some none x at h e = nowhere (at_address at x.row) (subst (λ (xs : List AddressedRow). Contains xs (at_address at x.row)) ((none rows ranges address).0 e) (in_low x at h))
