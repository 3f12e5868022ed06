-- Sums on addresses, which wrap at 2^64, and the plain sums that they are within a region.
use Rattle.std.proofs.Common.{◌≡◌, ℕ, ◌+◌, ◌-◌, ◌*◌, ◌/◌, ◌%◌, ◌^◌, ◌<◌, ◌≤◌, true, ℤ, pos, negsuc, neg_ℤ, ◌+ℤ◌, ◌≤ℤ◌, arith}
use Rattle.std.specs.Prelude.{int_le}
use Rattle.std.proofs.lemmas.Int.{ints}
use Rattle.std.proofs.lemmas.Bool.{and_parts}
use Rattle.state_defs.specs.Address.{up, down, shifted}
use Rattle.state_defs.specs.Move.{is_near}

-- x is a + k but for whole turns of 2^64
pub record IsTurned (x a : ℕ) (k : ℤ) : Type 0 where
  pub below : x < 2 ^ 64
  pub turns_up : ℕ
  pub turns_down : ℕ
  pub sum : pos (x + 2 ^ 64 * turns_up) ≡ pos (a + 2 ^ 64 * turns_down) +ℤ k

pub shifted_turned : (a : ℕ) (k : ℤ) → IsTurned (shifted a k) a k
shifted_turned a (pos n) = record { below = omega (arith, ints); turns_up = (a + n) / 2 ^ 64; turns_down = 0; sum = omega (arith, ints) }
shifted_turned a (negsuc n) = record {
  below = omega (arith, ints);
  turns_up = (a + (2 ^ 64 - (n + 1) % 2 ^ 64)) / 2 ^ 64;
  turns_down = 1 + (n + 1) / 2 ^ 64;
  sum = omega (arith, ints);
}

pub same_turned : (x y a : ℕ) (k : ℤ) → IsTurned x a k → IsTurned y a k → x ≡ y
same_turned x y a k f g = omega (arith, ints)

pub turned_turned : (x y a : ℕ) (j k l : ℤ) → IsTurned x a j → IsTurned y x k → l ≡ j +ℤ k → IsTurned y a l
turned_turned x y a j k l f g e = record {
  below = g.below;
  turns_up = f.turns_up + g.turns_up;
  turns_down = f.turns_down + g.turns_down;
  sum = omega (arith, ints);
}

pub turned_along : (x y a : ℕ) (k : ℤ) → x ≡ y → IsTurned y a k → IsTurned x a k
turned_along x y a k e f = record { below = omega (arith, ints); turns_up = f.turns_up; turns_down = f.turns_down; sum = omega (arith, ints) }

pub plain_turned : (x a : ℕ) (k : ℤ) → x < 2 ^ 64 → pos x ≡ pos a +ℤ k → IsTurned x a k
plain_turned x a k b e = record { below = b; turns_up = 0; turns_down = 0; sum = omega (arith, ints) }

pub shifted_from : (x a : ℕ) (k : ℤ) → IsTurned x a k → x ≡ shifted a k
shifted_from x a k f = same_turned x (shifted a k) a k f (shifted_turned a k)

pub turned_from : (x a : ℕ) (k : ℤ) → x ≡ shifted a k → IsTurned x a k
turned_from x a k e = turned_along x (shifted a k) a k e (shifted_turned a k)

pub record IsNear (n : ℤ) : Type 0 where
  pub high : n ≤ℤ pos (2 ^ 30)
  pub low : pos 0 ≤ℤ (n +ℤ pos (2 ^ 30))

pub near_from : (n : ℤ) → is_near n ≡ true → IsNear n
near_from n e =
    let both : (int_le n (pos (2 ^ 30)) ≡ true) × (int_le (pos 0) (n +ℤ pos (2 ^ 30)) ≡ true) = and_parts _ _ e in
    record { high = omega (arith, ints, both.0); low = omega (arith, ints, both.1) }

-- within a region and near, the sum is plain
pub plain_below : (x a : ℕ) (n : ℤ) → IsTurned x a (neg_ℤ n) → IsNear n → x < 2 ^ 64 - 2 ^ 30 → a < 2 ^ 64 - 2 ^ 30 → pos x +ℤ n ≡ pos a
plain_below x a n f near p q = omega (arith, ints)

-- sums that don't wrap
pub up_plain : (address n : ℕ) → address + n < 2 ^ 64 → up address n ≡ address + n
up_plain address n short = omega arith

pub down_plain : (address n : ℕ) → address < 2 ^ 64 → n ≤ address → down address n + n ≡ address
down_plain address n short h = omega arith
