-- What placing gives, and when it is refused.
use Rattle.std.proofs.Common.{◌≡◌, ℕ, ◌+◌, ◌^◌, ◌<◌, ◌≤◌, Bool, true, false, cond, not, ◌||◌, List, [], ◌∷◌, Option, Some, refl, sym, ◌∙◌, ap, subst, eqb, arith, rules}
use Rattle.std.specs.Prelude.{All, IfSome, find, option_map, is_some}
use Rattle.std.specs.List.{list_any}
use Rattle.std.specs.Ordering.{nat_cmp}
use Rattle.std.specs.BTreeMap.{BTreeMap, get}
use Rattle.ot_base.specs.declared.row.PlacedRow.{PlacedRow}
use Rattle.table_defs.specs.declared.range.Range.{Range}
use Rattle.orc_walk.specs.declared.faults.PlaceWhy.TheVariants.{Missing}
use Rattle.orc_walk.specs.declared.faults.PlaceFault.TheVariants.{At}
use Rattle.orc_walk.specs.Bases.{HasBases}
use Rattle.orc_walk.specs.Faults.{is_placed, first_missing}
use Rattle.orc_walk.specs.Table.{IsWithin, IsLaidOut}
use Rattle.std.proofs.lemmas.List.Elements.{All-head, All-tail}

-- a section has a base where it has a range
has_base : (ranges : List Range) (sec : ℕ) → is_some (option_map (λ (r : Range). r.base) (find (λ r. eqb r.sec sec) ranges)) ≡ list_any (λ r. eqb r.sec sec) ranges
has_base [] sec = refl
has_base (r ∷ ranges) sec = go r ranges sec (has_base ranges sec) (eqb r.sec sec)
  where
    go : (r : Range) (ranges : List Range) (sec : ℕ) → is_some (option_map (λ (r : Range). r.base) (find (λ r. eqb r.sec sec) ranges)) ≡ list_any (λ r. eqb r.sec sec) ranges
        → (b : Bool) → is_some (option_map (λ (r : Range). r.base) (cond b (Some r) (find (λ r. eqb r.sec sec) ranges))) ≡ (b || list_any (λ r. eqb r.sec sec) ranges)
    go r ranges sec rest true = refl
    go r ranges sec rest false = rest

find_same : {X : Type 0} (p q : X → Bool) (xs : List X) → ((x : X) → p x ≡ q x) → find p xs ≡ find q xs
find_same p q [] same = refl
find_same p q (x ∷ xs) same = ap (λ b. cond b (Some x) (find p xs)) (same x) ∙ ap (cond (q x) (Some x)) (find_same p q xs same)

abbrev pub unplaced : BTreeMap ℕ ℕ → List PlacedRow → Option PlacedRow
unplaced bases rows = find (λ placed. not (is_some (get nat_cmp bases placed.place.sec))) rows

-- the first row without a base is the first without a range
pub missing_same : (ranges : List Range) (bases : BTreeMap ℕ ℕ) (rows : List PlacedRow) → HasBases ranges bases → first_missing ranges rows ≡ option_map (λ placed. At placed.place.sec Missing) (unplaced bases rows)
missing_same ranges bases rows has =
    ap (option_map (λ placed. At placed.place.sec Missing))
    (find_same (λ placed. not (is_placed ranges placed.place.sec)) (λ placed. not (is_some (get nat_cmp bases placed.place.sec))) rows (λ placed.
    ap not (sym (ap is_some (has placed.place.sec) ∙ has_base ranges placed.place.sec))))

-- a row's address is a 64-bit number
pub sum_fits : (ranges : List Range) (bases : BTreeMap ℕ ℕ) (placed : PlacedRow) → HasBases ranges bases → IsLaidOut ranges → IsWithin ranges placed → IfSome (get nat_cmp bases placed.place.sec) (λ base. base + placed.place.off < 2 ^ 64)
sum_fits ranges bases placed has laid within = subst (λ o. IfSome o (λ base. base + placed.place.off < 2 ^ 64)) (sym (has placed.place.sec)) (at placed.place.off ranges placed.place.sec laid.in_memory within)
  where
    at : (off : ℕ) (ranges : List Range) (sec : ℕ) → All (λ range. range.base + range.size < 2 ^ 64) ranges → IfSome (find (λ range. eqb range.sec sec) ranges) (λ range. off ≤ range.size) → IfSome (option_map (λ (r : Range). r.base) (find (λ r. eqb r.sec sec) ranges)) (λ base. base + off < 2 ^ 64)
    at off [] sec all within = search rules
    at off (r ∷ ranges) sec all within = go off r ranges sec (All-head (λ range. range.base + range.size < 2 ^ 64) r ranges all) (at off ranges sec (All-tail (λ range. range.base + range.size < 2 ^ 64) r ranges all)) (eqb r.sec sec) within
      where
        go : (off : ℕ) (r : Range) (ranges : List Range) (sec : ℕ) → r.base + r.size < 2 ^ 64
            → (IfSome (find (λ range. eqb range.sec sec) ranges) (λ range. off ≤ range.size) → IfSome (option_map (λ (r : Range). r.base) (find (λ r. eqb r.sec sec) ranges)) (λ base. base + off < 2 ^ 64))
            → (b : Bool) → IfSome (cond b (Some r) (find (λ range. eqb range.sec sec) ranges)) (λ range. off ≤ range.size) → IfSome (option_map (λ (r : Range). r.base) (cond b (Some r) (find (λ r. eqb r.sec sec) ranges))) (λ base. base + off < 2 ^ 64)
        go off r ranges sec lt rest true within = omega arith
        go off r ranges sec lt rest false within = rest within
