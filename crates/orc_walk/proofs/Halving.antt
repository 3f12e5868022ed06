-- A step of halving.
use Rattle.std.proofs.Common.{◌≡◌, ℕ, ◌+◌, ◌-◌, ◌*◌, ◌^◌, ◌<◌, ◌≤◌, length, get_or, ap, add-one, arith}
use Rattle.std.specs.List.{AllWithin}
use Rattle.std.specs.List.Sorted.{IsNonDecreasingBy}
use Rattle.std.proofs.Math.Nat.{pow-le-pow_right, two-pow-succ, mul-le-mul_left, mul-le-mul_right}
use Rattle.std.proofs.lemmas.Bool.Decides.{nat_tests}
use Rattle.std.proofs.lemmas.Option.{get_or_from_slice_get}
use Rattle.std.specs.Prelude.{Some, slice_get}
use Rattle.ot_base.specs.declared.row.Row.{Row}
use Rattle.ot_base.specs.CountedItems.{one_more}
use Rattle.orc_walk.specs.Cost.{ReadsFew}
use Rattle.orc_walk.proofs.LastRow.{Items}

-- all items up to one at or below the address are at or below it
pub below_middle : (items : Items) (address middle : ℕ) → IsNonDecreasingBy (λ item. item.0) items → middle < length items → ((d : _) → (get_or items middle d).0 ≤ address) → AllWithin (λ item. item.0 ≤ address) items 0 (middle + 1)
below_middle items address middle up lt here k d low k_lt =
    let le : (get_or items k d).0 ≤ (get_or items middle d).0 = up k middle d (omega arith) lt in
    let at : (get_or items middle d).0 ≤ address = here d in
    omega arith

pub above_middle : (items : Items) (address middle : ℕ) → IsNonDecreasingBy (λ item. item.0) items → middle < length items → ((d : _) → address < (get_or items middle d).0) → AllWithin (λ item. address < item.0) items middle (length items)
above_middle items address middle up lt here k d low k_lt =
    let le : (get_or items middle d).0 ≤ (get_or items k d).0 = up middle k d low k_lt in
    let at : address < (get_or items middle d).0 = here d in
    omega arith

-- one reading more, and at most half the items left
pub record Few (readings gap bound : ℕ) : Type 0 where
  pub left : 2 ^ readings * (2 * gap) ≤ bound
  pub all : 2 ^ readings ≤ bound

pub few_more : (k more gap less bound : ℕ) → more ≤ k + 1 → 2 * less ≤ gap → 0 < gap → Few k gap bound → Few more less bound
few_more k more gap less bound one half some few =
    let double : 2 ^ more ≤ 2 ^ (k + 1) = pow-le-pow_right (omega arith) one in
    let twice : 2 ^ (k + 1) ≡ 2 ^ k + 2 ^ k = rw (add-one k) (two-pow-succ k) in
    record {
      left = omega (arith, few.left, mul-le-mul_right (2 * less) double, ap (λ q. q * (2 * less)) twice, mul-le-mul_left (2 ^ k) half);
      all = omega (arith, few.left, mul-le-mul_left (2 ^ k) some);
    }

-- a reading more is counted, unless the count stands at its end
pub one_more_counted : (reads : ℕ) → (reads ≤ one_more reads) × (one_more reads ≤ reads + 1)
one_more_counted reads = grind (arith, nat_tests)

-- the address of an item that was read
pub item_address : (items : Items) (i : ℕ) (item : ℕ × Row) (d : ℕ × Row) → slice_get items i ≡ Some item → (get_or items i d).0 ≡ item.0
item_address items i item d read = ap (λ (x : ℕ × Row). x.0) (get_or_from_slice_get items i item d read)

-- halving and one reading more
pub reads_few : (before middle after low high rows : ℕ) → before ≤ middle → middle ≤ after → after ≤ middle + 1 → 2 ^ (middle - before) ≤ 2 * (high - low) + 1 → high - low ≡ rows → ReadsFew rows before after
reads_few before middle after low high rows up more once few same =
    let double : 2 ^ (after - before) ≤ 2 ^ (middle - before + 1) = pow-le-pow_right (omega arith) (omega arith) in
    let twice : 2 ^ (middle - before + 1) ≡ 2 ^ (middle - before) + 2 ^ (middle - before) = rw (add-one (middle - before)) (two-pow-succ (middle - before)) in
    record {
      no_fewer = omega arith;
      few = omega arith;
    }
