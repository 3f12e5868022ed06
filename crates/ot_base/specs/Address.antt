-- Addresses: whole numbers below 2^64. Sums on them wrap at 2^64, unless a definition adds plainly.
use Rattle.std.specs.Prelude.{ℕ, ◌+◌, ◌-◌, ◌%◌, ◌^◌, ℤ, pos, negsuc}

-- the address n bytes above
abbrev pub up : ℕ → ℕ → ℕ
up address n = (address + n) % 2 ^ 64

-- the address n bytes below
abbrev pub down : ℕ → ℕ → ℕ
down address n = (address + (2 ^ 64 - n % 2 ^ 64)) % 2 ^ 64

-- the address moved by a signed number of bytes, as by a displacement
abbrev pub shifted : ℕ → ℤ → ℕ
shifted address (pos n) = up address n
shifted address (negsuc n) = down address (n + 1)
