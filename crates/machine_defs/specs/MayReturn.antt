-- From which points on a return may come.
use Rattle.std.specs.Prelude.{◌≡◌, ◌≢◌, ℕ, ◌&&◌, ◌||◌, Bool, true, false, not, Option, Some, None, is_none, Contains}
use Rattle.std.specs.List.{list_any}
use Rattle.machine_defs.specs.declared.flow.Edge.{Edge}
use Rattle.machine_defs.specs.declared.flow.EdgeKind.TheVariants.{Next}
use Rattle.machine_defs.specs.declared.flow.Role.{Role}
use Rattle.machine_defs.specs.declared.flow.Role.TheVariants.{CallIn, CallEither, CallOut, CallAny, Return, JumpOut, JumpAny}
use Rattle.machine_defs.specs.Program.{Program, entry_points, is_call, edge}

-- the name of a symbol, if there is one, is listed as one that never returns
abbrev pub is_listed_symbol : Program → Option ℕ → Bool
is_listed_symbol p None = false
is_listed_symbol p (Some sym) = p.never_returns sym

-- A call is told by a listed name: that of its symbol, or of the function whose start is its entry; where it calls code of no
-- function, that of the symbol by which it names it. What isn't a call isn't.
abbrev pub is_listed_by : Program → Option ℕ → Role → Bool
is_listed_by p named (CallIn entry) = is_listed_symbol p (p.function entry) || (is_none (p.owner entry) && is_listed_symbol p named)
is_listed_by p named (CallEither entry sym) = p.never_returns sym || is_listed_symbol p (p.function entry)
is_listed_by p named (CallOut sym) = p.never_returns sym
is_listed_by p named _ = false

-- A call is listed: told by a listed name, and not marked as one behind which control comes back.
abbrev pub is_listed : Program → ℕ → Bool
is_listed p q = not (p.marked_call q) && is_listed_by p (p.names q) (p.role q)

-- whether a role is that of a call that may go to code outside
abbrev pub calls_outside : Role → Bool
calls_outside (CallOut sym) = true
calls_outside (CallEither entry sym) = true
calls_outside CallAny = true
calls_outside _ = false

-- whether a call may return whatever the code of the program does that it goes to: it is marked, or it may go to code outside and
-- isn't listed
abbrev pub may_return_outright : Program → ℕ → Bool
may_return_outright p q = is_call (p.role q) && (p.marked_call q || (calls_outside (p.role q) && not (is_listed p q)))

-- the least set of points such that it has each return and each jump that may leave; each point with
-- a successor in it, other than by a call's Next; and each call that is neither a dead end nor listed,
-- which is marked or whose target may return, and one of whose next points is in it
pub data MayReturn (p : Program) : ℕ → Type 0 where
  returns : (q : ℕ) → p.role q ≡ Return → MayReturn p q
  jumps_anywhere : (q : ℕ) → p.role q ≡ JumpAny → MayReturn p q
  jumps_out : (q sym : ℕ) → p.role q ≡ JumpOut sym → p.never_returns sym ≡ false → MayReturn p q
  goes_on : (q : ℕ) (e : Edge) → is_call (p.role q) ≡ false → Contains (p.goes q) e → MayReturn p e.to → MayReturn p q
  branches : (q : ℕ) (e : Edge) → e.kind ≢ Next → Contains (p.goes q) e → MayReturn p e.to → MayReturn p q
  comes_back : (q r : ℕ) → may_return_outright p q ≡ true → p.dead_end q ≡ false → Contains (p.goes q) (edge r Next) → MayReturn p r → MayReturn p q
  comes_back_in : (q r entry first : ℕ) → p.role q ≡ CallIn entry → is_listed p q ≡ false → p.dead_end q ≡ false → Contains (entry_points p entry) first → MayReturn p first → Contains (p.goes q) (edge r Next) → MayReturn p r → MayReturn p q

-- whether a return may come from the code that a call goes to; what isn't a call of an entry passes
abbrev pub code_may_return : Program → Role → Bool
code_may_return p (CallIn entry) = list_any p.may_return (entry_points p entry)
code_may_return p _ = true

-- Whether the target of a call may return: the call isn't listed, and it is marked or a return may come from the code that it goes
-- to. What isn't a call passes.
abbrev pub target_may_return : Program → ℕ → Bool
target_may_return p q = not (is_listed p q) && (p.marked_call q || code_may_return p (p.role q))
