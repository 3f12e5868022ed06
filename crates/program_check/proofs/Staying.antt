-- A point at which the rows stay as they are.
use Rattle.std.proofs.Common.{◌≡◌, ◌⊎◌, ℕ, zero, suc, ◌+◌, ◌-◌, ◌<◌, ◌≤◌, true, false, List, [], length, get_or, take, drop, Option, inl, inr, arith, ap, subst, sym, ◌∙◌}
use Rattle.ot_base.specs.declared.row.PlacedRow.{PlacedRow}
use Rattle.ot_base.specs.Places.{is_before}
use Rattle.state_defs.specs.declared.state.State.{State}
use Rattle.machine_defs.specs.Program.{Program, IsPoint}
use Rattle.machine_defs.specs.IsProgram.{IsLaidOut}
use Rattle.machine_defs.specs.Kept.{Kept, AreKeptStates}
use Rattle.machine_defs.specs.Rows.{row_of_point}
use Rattle.table_defs.specs.Order.{PlainPointsAscend}
use Rattle.program_check.specs.Changes.{Ascends, AreRowsInSites, BeginsRow, add_all, after_row, is_held, row_from}
use Rattle.program_check.proofs.Held.{held_stays}
use Rattle.program_check.proofs.Merging.{IsSoFar, no_row, step}

module _ (p : Program) (states : ℕ → Option State) (in_sites : List PlacedRow) where
  -- a point whose row the rows end with, where no row in a site waits before it
  same_row : PlainPointsAscend p → IsLaidOut p → AreKeptStates p states → ((q : ℕ) (s : State) → Kept p q s → IsPoint p q) → Ascends in_sites → AreRowsInSites p states in_sites
      → (n next : ℕ) (d : PlacedRow) (all rows : List PlacedRow) → IsSoFar p states in_sites n next all → next ≤ length in_sites → (p.variant n ≡ 0 → next < length in_sites → is_before (get_or in_sites next d).place (p.place n) ≡ false)
      → IsPoint p n → BeginsRow p states n ⊎ (BeginsRow p states n → ⊥) → rows ≡ add_all [] all → (p.variant n ≡ 0 → is_held rows (p.place n).sec (row_of_point states n) ≡ true)
      → (more : List PlacedRow) × IsSoFar p states in_sites (n + 1) next more × (rows ≡ add_all [] more)
  same_row ascending laid kept kept_point up in_order n next d all rows h low clear point (inr none) is held = (all, no_row p states in_sites n next all h none, is)
  same_row ascending laid kept kept_point up in_order n next d all rows h low clear point (inl begins) is held =
      let x : PlacedRow = row_from p states n in
      let r = step p states in_sites ascending laid kept kept_point up in_order n next next d all h (omega arith) low (λ k l m. absurd (omega (arith, l, m))) (clear begins.plain) point begins in
      let none : 0 ≡ next - next = omega arith in (
        r.0,
        r.1,
        sym (held_stays rows x (held begins.plain))
            ∙ ap (λ (xs : List PlacedRow). after_row xs x) is
            ∙ ap (λ (k : ℕ). after_row (add_all (add_all [] all) (take k (drop next in_sites))) x) none
            ∙ sym r.2,
      )

  -- several such points
  same_count : PlainPointsAscend p → IsLaidOut p → AreKeptStates p states → ((q : ℕ) (s : State) → Kept p q s → IsPoint p q) → Ascends in_sites → AreRowsInSites p states in_sites
      → (count from next : ℕ) (d : PlacedRow) (all rows : List PlacedRow) → IsSoFar p states in_sites from next all → next ≤ length in_sites → from + count ≤ p.count
      → ((k : ℕ) → from ≤ k → k < from + count → p.variant k ≡ 0 → next < length in_sites → is_before (get_or in_sites next d).place (p.place k) ≡ false)
      → ((k : ℕ) → BeginsRow p states k ⊎ (BeginsRow p states k → ⊥))
      → ((k : ℕ) → from ≤ k → k < from + count → p.variant k ≡ 0 → is_held rows (p.place k).sec (row_of_point states k) ≡ true)
      → rows ≡ add_all [] all → (more : List PlacedRow) × IsSoFar p states in_sites (from + count) next more × (rows ≡ add_all [] more)
  same_count ascending laid kept kept_point up in_order zero from next d all rows h low within clear begins held is = (all, subst (λ (m : ℕ). IsSoFar p states in_sites m next all) (let e : from ≡ from + 0 = omega arith in e) h, is)
  same_count ascending laid kept kept_point up in_order (suc count) from next d all rows h low within clear begins held is =
      let r = same_count ascending laid kept kept_point up in_order count from next d all rows h low (omega (arith, within)) (λ k l m. clear k l (omega (arith, m))) begins (λ k l m. held k l (omega (arith, m))) is in
      let last : ℕ = from + count in
      let one = same_row ascending laid kept kept_point up in_order last next d r.0 rows r.1 low (clear last (omega arith) (omega arith)) (let point : last < p.count = omega (arith, within) in point) (begins last) r.2 (held last (omega arith) (omega arith)) in
      (one.0, subst (λ (m : ℕ). IsSoFar p states in_sites m next one.0) (let e : last + 1 ≡ from + suc count = omega arith in e) one.1, one.2)

  -- the points from one up to another
  pub same_rows : PlainPointsAscend p → IsLaidOut p → AreKeptStates p states → ((q : ℕ) (s : State) → Kept p q s → IsPoint p q) → Ascends in_sites → AreRowsInSites p states in_sites
      → (from to next : ℕ) (d : PlacedRow) (all rows : List PlacedRow) → IsSoFar p states in_sites from next all → next ≤ length in_sites → from ≤ to → to ≤ p.count
      → ((k : ℕ) → from ≤ k → k < to → p.variant k ≡ 0 → next < length in_sites → is_before (get_or in_sites next d).place (p.place k) ≡ false)
      → ((k : ℕ) → BeginsRow p states k ⊎ (BeginsRow p states k → ⊥))
      → ((k : ℕ) → from ≤ k → k < to → p.variant k ≡ 0 → is_held rows (p.place k).sec (row_of_point states k) ≡ true)
      → rows ≡ add_all [] all → (more : List PlacedRow) × IsSoFar p states in_sites to next more × (rows ≡ add_all [] more)
  same_rows ascending laid kept kept_point up in_order from to next d all rows h low order within clear begins held is =
      let there : from + (to - from) ≡ to = omega (arith, order) in
      let r = same_count ascending laid kept kept_point up in_order (to - from) from next d all rows h low (omega (arith, there, within)) (λ k l m. clear k l (omega (arith, m, there))) begins (λ k l m. held k l (omega (arith, m, there))) is in
      (r.0, subst (λ (m : ℕ). IsSoFar p states in_sites m next r.0) there r.1, r.2)
