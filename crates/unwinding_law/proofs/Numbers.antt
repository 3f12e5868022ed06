-- Sums of addresses that don't wrap, words that are read, and equal numbers.
use Rattle.std.proofs.Common.{◌≡◌, ℕ, ◌+◌, ◌-◌, ◌^◌, ◌<◌, ◌≤◌, Bool, true, false, ◌&&◌, Option, Some, None, if◌then◌else◌, take, drop, nat_le, MatchOption, refl, sym, ap, subst, arith, le-leb, leb-true}
use Rattle.state_defs.specs.Address.{up, down}
use Rattle.state_defs.specs.Region.{Region, hi_of, little_endian, has_word, Reads, Holds}

pub up_down : (x : ℕ) → x < 2 ^ 64 → up (down x 8) 8 ≡ x
up_down x h = omega arith

pub down_up : (x : ℕ) → x < 2 ^ 64 → down (up x 8) 8 ≡ x
down_up x h = omega arith

-- what lies eight bytes below an address of the stack, and in the stack, doesn't wrap
pub down_inside : (x hi : ℕ) → x ≤ hi → hi < 2 ^ 64 - 2 ^ 30 → down x 8 ≤ hi → down x 8 + 8 ≡ x
down_inside x hi a b c = omega arith

pub up_inside : (x hi : ℕ) → x ≤ hi → hi < 2 ^ 64 - 2 ^ 30 → up x 8 ≡ x + 8
up_inside x hi a b = omega arith

pub up_none : (x : ℕ) → x < 2 ^ 64 → up x 0 ≡ x
up_none x h = omega arith

-- a word that is read inside the region is held there
pub reads_holds : (r : Region) (a w : ℕ) → r.lo ≤ a → a + 8 ≤ hi_of r → Reads r a w → Holds r a w
reads_holds r a w l h e = go (has_word r a) inside e
  where
    inside : has_word r a ≡ true
    inside = let x : nat_le r.lo a ≡ true = le-leb r.lo a l in let y : nat_le (a + 8) (hi_of r) ≡ true = le-leb (a + 8) (hi_of r) h in rw (x, y) refl

    word : ℕ
    word = little_endian (take 8 (drop (a - r.lo) r.bytes))

    go : (b : Bool) → b ≡ true → MatchOption (if b then Some word else None) (w < 2 ^ 64) (λ held. w ≡ held) → (if b then Some word else None) ≡ Some w
    go true k m = ap Some (sym m)
    go false k m = absurd (let z : ⊥ = cc in z)

pub holds_reads : (r : Region) (a v w : ℕ) → Holds r a v → Reads r a w → w ≡ v
holds_reads r a v w h e = subst (λ (o : Option ℕ). MatchOption o (w < 2 ^ 64) (λ held. w ≡ held)) h e

pub holds_inside : (r : Region) (a v : ℕ) → Holds r a v → a + 8 ≤ hi_of r
holds_inside r a v h = go (nat_le r.lo a) (nat_le (a + 8) (hi_of r)) refl h
  where
    go : (b c : Bool) → nat_le (a + 8) (hi_of r) ≡ c → (if b && c then Some (little_endian (take 8 (drop (a - r.lo) r.bytes))) else None) ≡ Some v → a + 8 ≤ hi_of r
    go true true e k = leb-true (a + 8) (hi_of r) e
    go true false e k = absurd (let z : ⊥ = cc in z)
    go false c e k = absurd (let z : ⊥ = cc in z)
