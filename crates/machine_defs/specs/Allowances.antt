-- What an object and the lists of names allow at points and symbols of a program. Only rules that options ask for look at it.
use Rattle.std.specs.Prelude.{◌≡◌, ℕ, Bool, false, Option, Some, None, Contains}
use Rattle.machine_defs.specs.Program.{Program, IsPoint, entry_points}

pub record Allowances : Type 0 where
  -- Whether an indirect branch or a return may stay as it is at this point: its place is listed in
  -- `.discard.retpoline_safe`.
  pub safe_branch : ℕ → Bool
  -- Whether this point's code runs before user space does: its section is named `.init.text`, and the object is no part of a
  -- module. What it branches to and how it returns is no matter of the options `retpoline` and `rethunk`.
  pub before_user_space : ℕ → Bool
  -- Whether the name of this symbol is listed as that of a function that may be called with user access on.
  pub safe_name : ℕ → Bool
  -- Whether a processor with SMAP has other code in place of this point: it runs in an alternatives site that has
  -- replacements for such a processor (feature X86_FEATURE_SMAP, without flags), and is of none of these.
  pub lacks_smap : ℕ → Bool

-- an owner is safe where it is a function whose name is listed
abbrev pub is_safe_owner : Allowances → Option ℕ → Bool
is_safe_owner allowed None = false
is_safe_owner allowed (Some function) = allowed.safe_name function

-- A point is in a safe function: the name of its function is listed as one that may be called with user access on; of a part
-- that of its parent. Code of no function is in none.
abbrev pub is_safe : Program → Allowances → ℕ → Bool
is_safe p allowed q = is_safe_owner allowed (p.owner q)

-- Entries are points at the starts of functions, and control that comes to an entry stands in its function. This holds of every
-- program that is read from an object.
pub record EntersFunctions (p : Program) : Type 0 where
  pub points : (entry : ℕ) → Contains p.entries entry → IsPoint p entry
  pub entries : (entry : ℕ) → Contains p.entries entry → (function : ℕ) × (p.function entry ≡ Some function)
  pub arrivals : (entry q : ℕ) → Contains p.entries entry → Contains (entry_points p entry) q → (p.function q ≡ p.function entry) × (p.owner q ≡ p.owner entry)
