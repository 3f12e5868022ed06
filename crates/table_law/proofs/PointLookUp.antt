-- Where a walk looks a point up, and what it finds there.
use Rattle.std.proofs.Common.{◌≡◌, ℕ, ◌+◌, ◌^◌, ◌<◌, ◌≤◌, Bool, true, false, not, List, Option, Some, None, MatchBool, sym, ap, ◌∙◌, subst, inl, inr, arith}
use Rattle.ot_base.specs.declared.row.PlacedRow.{PlacedRow}
use Rattle.state_defs.specs.declared.state.EndKind.TheVariants.{Undefined}
use Rattle.state_defs.specs.declared.state.State.{State}
use Rattle.state_defs.specs.Address.{down}
use Rattle.state_defs.specs.State.{ended_by}
use Rattle.state_defs.specs.Row.{row_of}
use Rattle.machine_defs.specs.Program.{Program, IsPoint, is_call}
use Rattle.machine_defs.specs.Machine.{Bases, IsOutside, point_address, return_address}
use Rattle.machine_defs.specs.IsProgram.{IsInText}
use Rattle.table_defs.specs.declared.range.Range.{Range}
use Rattle.table_defs.specs.Placement.{is_inside}
use Rattle.table_defs.specs.Lookup.{find_row}
use Rattle.table_defs.specs.Walk.{lookup_address}
use Rattle.table_defs.specs.Placed.{IsPlacedBy}
use Rattle.table_defs.specs.Tells.{TellsState, TellsPoint}
use Rattle.table_law.proofs.PlacedTables.{text_inside, stands_within, outside_ranges}

-- A walk with this ip looks at a point: at its address, where ip is that of the next instruction, or
-- right before the address behind it, where it is a call.
abbrev pub LooksAt : Program → Bases → Bool → ℕ → ℕ → Type 0
LooksAt p bases true ip q = ip ≡ point_address p bases q
LooksAt p bases false ip q = (ip ≡ return_address p bases q) × (is_call (p.role q) ≡ true)

module _ (p : Program) (bases : Bases) (ranges : List Range) (placed : IsPlacedBy p bases ranges) where
  -- the address that it looks up is in a section
  pub inside : IsInText p → (next : Bool) (ip q : ℕ) → IsPoint p q → LooksAt p bases next ip q → is_inside ranges (lookup_address next ip) ≡ true
  inside laid true ip q point e =
      let w = stands_within p bases ranges placed laid q point in
      text_inside p bases ranges placed w.text ip w.among (subst (λ (x : ℕ). bases w.text.sec ≤ x) (sym e) w.from) (subst (λ (x : ℕ). x < bases w.text.sec + w.text.size) (sym e) (before (point_address p bases q) (p.insn q).len (bases w.text.sec + w.text.size) w.length w.within))
    where
      before : (address len to : ℕ) → 1 ≤ len → address + len ≤ to → address < to
      before address len to a b = omega arith
  inside laid false ip q point (e, call) =
      let w = stands_within p bases ranges placed laid q point in
      let last = last_byte (point_address p bases q) (p.insn q).len (bases w.text.sec) (bases w.text.sec + w.text.size) w.from w.length w.within w.in_memory in
      text_inside p bases ranges placed w.text (down ip 1) w.among (subst (λ (x : ℕ). bases w.text.sec ≤ down x 1) (sym e) last.0) (subst (λ (x : ℕ). down x 1 < bases w.text.sec + w.text.size) (sym e) last.1)
    where
      last_byte : (address len from to : ℕ) → from ≤ address → 1 ≤ len → address + len ≤ to → to < 2 ^ 64 → (from ≤ down (address + len) 1) × (down (address + len) 1 < to)
      last_byte address len from to a b c d = (omega arith, omega arith)

  -- one that leads outside
  pub not_inside : (signal b : Bool) (ra : ℕ) → b ≡ not signal → MatchBool b (IsOutside p bases (down ra 1)) (IsOutside p bases ra) → is_inside ranges (lookup_address signal ra) ≡ false
  not_inside true true ra e out = absurd (let k : ⊥ = cc in k)
  not_inside true false ra e out = outside_ranges p bases ranges placed ra out
  not_inside false true ra e out = outside_ranges p bases ranges placed (down ra 1) out
  not_inside false false ra e out = absurd (let k : ⊥ = cc in k)

-- a frame goes back to where the walk looks next
pub looks_back : (p : Program) (bases : Bases) (call : ℕ) (signal b : Bool) (ra : ℕ) → b ≡ not signal → MatchBool b ((ra ≡ return_address p bases call) × (is_call (p.role call) ≡ true)) (ra ≡ point_address p bases call) → LooksAt p bases signal ra call
looks_back p bases call true true ra e h = absurd (let k : ⊥ = cc in k)
looks_back p bases call true false ra e h = h
looks_back p bases call false true ra e h = h
looks_back p bases call false false ra e h = absurd (let k : ⊥ = cc in k)

-- what is told of the point is found there
pub told_there : (p : Program) (bases : Bases) (rows : List PlacedRow) (ranges : List Range) (q : ℕ) (state : State) (next : Bool) (ip : ℕ) → TellsPoint p bases rows ranges q state → LooksAt p bases next ip q → TellsState state (find_row rows ranges (lookup_address next ip))
told_there p bases rows ranges q state true ip t e = subst (λ (x : ℕ). TellsState state (find_row rows ranges x)) (sym e) t.at
told_there p bases rows ranges q state false ip t (e, call) = subst (λ (x : ℕ). TellsState state (find_row rows ranges (down x 1))) (sym e) (t.last_byte call)

-- it is the state's row, where the stack hasn't ended
pub live_row : (state : State) (found : Option _) → ended_by state ≡ None → TellsState state found → found ≡ Some (row_of state)
live_row state found e (inl h) = h
live_row state found e (inr (h, n)) = absurd (let k : Some Undefined ≡ None = sym (ap ended_by h) ∙ e in let m : ⊥ = cc in m)
