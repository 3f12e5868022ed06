-- The range among ascending ones that can have an address.
use Rattle.std.proofs.Common.{◌≡◌, ℕ, zero, suc, ◌+◌, ◌-◌, ◌*◌, ◌<◌, ◌≤◌, Bool, true, false, cond, ◌||◌, ◌&&◌, List, [], ◌∷◌, refl, sym, ◌∙◌, ap, subst, inl, inr, leb, ltb, length, get_or, arith}
use Rattle.std.specs.Prelude.{All}
use Rattle.std.specs.List.{AllWithin, list_any}
use Rattle.std.specs.List.Sorted.{IsNonDecreasingBy, IsPartitionPoint}
use Rattle.std.proofs.lemmas.Bool.{cases_lt, lt-ltb, le-ltb, le-leb, lt-leb}
use Rattle.std.proofs.lemmas.List.{get_or-map, get_or_default, length-map}
use Rattle.table_defs.specs.declared.range.Range.{Range}
use Rattle.table_defs.specs.Placement.{covers, is_inside}
use Rattle.orc_walk.specs.declared.blocks.Blocks.{Blocks}
use Rattle.table_defs.specs.Lookup.{AddressedRow}
use Rattle.std.proofs.lemmas.List.Sums.{count_by-le-length}
use Rattle.orc_walk.specs.Rows.{addressed_row, rows_of}
use Rattle.orc_walk.specs.Cost.{block_of, rows_in_block, rows_to_search}
use Rattle.orc_walk.specs.Blocks.{IsAscending, HasFirsts, ranges_of, beginning_of, rows_below, first_block, last_block}
use Rattle.orc_walk.proofs.LastRow.{Items}
use Rattle.orc_walk.proofs.Counts.{below_split, rows_of_block}

none_passes : {X : Type 0} (p : X → Bool) (xs : List X) → All (λ x. p x ≡ false) xs → list_any p xs ≡ false
none_passes p [] none = refl
none_passes p (x ∷ xs) none = ap (λ b. b || list_any p xs) (none 0 x (omega arith)) ∙ none_passes p xs (λ k d lt. none (suc k) d (omega arith))

or_false : (a b : Bool) → b ≡ false → (a || b) ≡ a
or_false true b h = refl
or_false false b h = h

-- where none of the others passes, the one at k tells
one_passes : {X : Type 0} (p : X → Bool) (xs : List X) (k : ℕ) (d : X) → k < length xs → AllWithin (λ x. p x ≡ false) xs 0 k → AllWithin (λ x. p x ≡ false) xs (k + 1) (length xs) → list_any p xs ≡ p (get_or xs k d)
one_passes p [] k d lt before after = absurd (omega arith)
one_passes p (x ∷ xs) zero d lt before after = or_false (p x) (list_any p xs) (none_passes p xs (λ k e h. after (suc k) e (omega arith) (omega arith)))
one_passes p (x ∷ xs) (suc k) d lt before after =
    ap (λ b. b || list_any p xs) (before 0 x (omega arith) (omega arith))
    ∙ one_passes p xs k d (omega arith) (λ i e low h. before (suc i) e (omega arith) (omega arith)) (λ i e low h. after (suc i) e (omega arith) (omega arith))

and_false : (a b : Bool) → b ≡ false → (a && b) ≡ false
and_false true b h = h
and_false false b h = refl

below_base : (range : Range) (address : ℕ) → address < range.base → covers range address ≡ false
below_base range address lt = ap (λ b. b && ltb address (range.base + range.size)) (lt-leb range.base address lt)

pub past_end : (range : Range) (address : ℕ) → range.base + range.size ≤ address → covers range address ≡ false
past_end range address le = and_false (leb range.base address) (ltb address (range.base + range.size)) (le-ltb _ _ le)

abbrev pub Split : List Blocks → ℕ → ℕ → Type 0
Split blocks address n = IsPartitionPoint (λ b. b.range.base ≤ address) (λ b. address < b.range.base) blocks n

range_at : (blocks : List Blocks) (k : ℕ) (d : Blocks) (e : Range) → k < length blocks → get_or (ranges_of blocks) k e ≡ (get_or blocks k d).range
range_at blocks k d e lt = get_or-map (λ b. b.range) blocks k d e lt

ranges_length : (blocks : List Blocks) → length (ranges_of blocks) ≡ length blocks
ranges_length blocks = length-map blocks (λ b. b.range)

-- the bases ascend
pub bases_ascend : (blocks : List Blocks) → IsAscending (ranges_of blocks) → IsNonDecreasingBy (λ b. b.range.base) blocks
bases_ascend blocks m i j d le lt =
    elim (cases_lt i j) [
      | inl less ↦
          let long = ranges_length blocks in
          let pair : (get_or (ranges_of blocks) i d.range).base + (get_or (ranges_of blocks) i d.range).size ≤ (get_or (ranges_of blocks) j d.range).base = m.apart i j d.range less (omega arith) in
          let one : (get_or (ranges_of blocks) i d.range).base ≡ (get_or blocks i d).range.base = ap (λ r. r.base) (range_at blocks i d d.range (omega arith)) in
          let other : (get_or (ranges_of blocks) j d.range).base ≡ (get_or blocks j d).range.base = ap (λ r. r.base) (range_at blocks j d d.range lt) in
          omega arith
      | inr not_less ↦ let same : i ≡ j = omega arith in subst (λ k. (get_or blocks i d).range.base ≤ (get_or blocks k d).range.base) same (omega arith)
    ]

above : (blocks : List Blocks) (address i n : ℕ) (d : Blocks) (e : Range) → n ≤ i → i < length blocks → Split blocks address n → covers (get_or (ranges_of blocks) i e) address ≡ false
above blocks address i n d e low lt split =
    let base : (get_or (ranges_of blocks) i e).base ≡ (get_or blocks i d).range.base = ap (λ r. r.base) (range_at blocks i d e lt) in
    let high : address < (get_or blocks i d).range.base = split.1 i d low lt in
    below_base (get_or (ranges_of blocks) i e) address (omega arith)

some_blocks : (blocks : List Blocks) (i : ℕ) → i < length blocks → Blocks
some_blocks [] i lt = absurd (omega arith)
some_blocks (b ∷ blocks) i lt = b

-- where all begin above the address, none has it
pub none_inside : (blocks : List Blocks) (address : ℕ) → Split blocks address 0 → is_inside (ranges_of blocks) address ≡ false
none_inside blocks address split =
    none_passes (λ range. covers range address) (ranges_of blocks)
    (λ i e lt. let long = ranges_length blocks in above blocks address i 0 (some_blocks blocks i (omega arith)) e (omega arith) (omega arith) split)

-- the last range that begins at or below the address tells whether one has it
pub one_inside : (blocks : List Blocks) (address k : ℕ) (d : Blocks) → IsAscending (ranges_of blocks) → k < length blocks → Split blocks address (k + 1) → is_inside (ranges_of blocks) address ≡ covers (get_or blocks k d).range address
one_inside blocks address k d m lt split =
    let long = ranges_length blocks in
    one_passes (λ range. covers range address) (ranges_of blocks) k d.range (omega arith)
    (λ i e low high.
    let pair : (get_or (ranges_of blocks) i e).base + (get_or (ranges_of blocks) i e).size ≤ (get_or (ranges_of blocks) k e).base = m.apart i k e high (omega arith) in
    let base : (get_or (ranges_of blocks) k e).base ≡ (get_or blocks k d).range.base = ap (λ r. r.base) (range_at blocks k d e lt) in
    let here : (get_or blocks k d).range.base ≤ address = split.0 k d (omega arith) (omega arith) in
    past_end (get_or (ranges_of blocks) i e) address (omega arith))
    (λ i e low high. above blocks address i (k + 1) d e low (omega arith) split)
    ∙ ap (λ range. covers range address) (range_at blocks k d d.range lt)

pub begins_below : (blocks : List Blocks) (address n k : ℕ) (b : Blocks) → Split blocks address n → k < n → b ≡ get_or blocks k b → b.range.base ≤ address
begins_below blocks address n k b split lt is = subst (λ x. x.range.base ≤ address) (sym is) (split.0 k b (omega arith) lt)

-- all rows are chosen from where no range has the address
pub all_rows : (ranges : List Range) (rows : List AddressedRow) (address : ℕ) → is_inside ranges address ≡ false → rows_to_search ranges rows address ≡ length rows
all_rows ranges rows address outside = ap (λ b. cond b (rows_in_block (block_of address) rows) (length rows)) outside

-- A range that has the address: the numbers of its blocks tell the rows of the address's block.
pub record IsNear (items : Items) (ranges : List Range) (address low high : ℕ) : Type 0 where
  pub order : low ≤ high
  pub within : high ≤ length items
  pub below : AllWithin (λ item. item.0 ≤ address) items 0 low
  pub above : AllWithin (λ item. address < item.0) items high (length items)
  pub number : high - low ≡ rows_to_search ranges (rows_of items) address

pub near : (items : Items) (ranges : List Range) (address block : ℕ) → IsNonDecreasingBy (λ item. item.0) items → block ≡ block_of address → is_inside ranges address ≡ true
    → IsNear items ranges address (rows_below (beginning_of block) (rows_of items)) (rows_below (beginning_of (block + 1)) (rows_of items))
near items ranges address block up at inside =
    let low = below_split items (beginning_of block) up in
    let high = below_split items (beginning_of (block + 1)) up in
    let count = rows_of_block (rows_of items) block in
    let long : length (rows_of items) ≡ length items = length-map items addressed_row in
    let begins : block * 256 ≤ address = omega (arith, at) in
    let ends : address < (block + 1) * 256 = omega (arith, at) in
    record {
      order = omega (arith, count);
      within = omega (arith, long, count_by-le-length (λ row. ltb row.address (beginning_of (block + 1))) (rows_of items));
      below = (λ k d zero_le lt. let less : (get_or items k d).0 < block * 256 = low.0 k d zero_le lt in omega arith);
      above = (λ k d le lt. let more : (block + 1) * 256 ≤ (get_or items k d).0 = high.1 k d le lt in omega arith);
      number = (let r : rows_below (beginning_of (block + 1)) (rows_of items) - rows_below (beginning_of block) (rows_of items) ≡ rows_in_block block (rows_of items) = omega (arith, count) in
          r ∙ ap (λ b. rows_in_block b (rows_of items)) at ∙ sym (ap (λ b. cond b (rows_in_block (block_of address) (rows_of items)) (length (rows_of items))) inside));
    }

-- an address that a range covers is in one of the blocks from its first to its last
pub covered_block : (range : Range) (address : ℕ) → range.base ≤ address → address < range.base + range.size → (first_block range ≤ block_of address) × (block_of address ≤ last_block range)
covered_block range address low high =
    let before : address ≤ range.base + range.size - 1 = omega arith in
    (omega arith, omega arith)

pub covered : (range : Range) (address : ℕ) → range.base ≤ address → address < range.base + range.size → covers range address ≡ true
covered range address low high = ap (λ b. b && ltb address (range.base + range.size)) (le-leb range.base address low) ∙ lt-ltb _ _ high

-- the number that stands for a block
pub first_at : (rows : List AddressedRow) (b : Blocks) (block k x : ℕ) → HasFirsts rows b → first_block b.range + k ≡ block → k < length b.firsts.items → x ≡ get_or b.firsts.items k x → x ≡ rows_below (beginning_of block) rows
first_at rows b block k x right at lt is = is ∙ get_or_default b.firsts.items k x 0 lt ∙ right.each k lt ∙ ap (λ n. rows_below (beginning_of n) rows) at

-- both numbers of the address's block are there
pub has_both : (rows : List AddressedRow) (b : Blocks) (address : ℕ) → HasFirsts rows b → b.range.base ≤ address → address < b.range.base + b.range.size
    → (block_of address - first_block b.range + 1 < length b.firsts.items) × (first_block b.range + (block_of address - first_block b.range) ≡ block_of address)
has_both rows b address right low high =
    let within = covered_block b.range address low high in
    (omega (arith, right.number, within.0, within.1), omega (arith, within.0))

pub near_by : (items : Items) (ranges : List Range) (b : Blocks) (address k low high : ℕ) → IsNonDecreasingBy (λ item. item.0) items → HasFirsts (rows_of items) b → is_inside ranges address ≡ true
    → b.range.base ≤ address → address < b.range.base + b.range.size → k ≡ block_of address - first_block b.range → low ≡ get_or b.firsts.items k low → high ≡ get_or b.firsts.items (k + 1) high
    → IsNear items ranges address low high
near_by items ranges b address k low high up right inside from to at low_is high_is =
    let both = has_both (rows_of items) b address right from to in
    let low_count : low ≡ rows_below (beginning_of (block_of address)) (rows_of items) = first_at (rows_of items) b (block_of address) k low right (omega (arith, both.1)) (omega (arith, both.0)) low_is in
    let high_count : high ≡ rows_below (beginning_of (block_of address + 1)) (rows_of items) = first_at (rows_of items) b (block_of address + 1) (k + 1) high right (omega (arith, both.1)) (omega (arith, both.0)) high_is in
    subst (λ n. IsNear items ranges address n high) (sym low_count) (subst (λ n. IsNear items ranges address (rows_below (beginning_of (block_of address)) (rows_of items)) n) (sym high_count) (near items ranges address (block_of address) up refl inside))
