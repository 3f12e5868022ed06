-- The rules of user access (41 to 47; Linux 6.6, tools/objtool/Documentation/objtool.txt, "redundant UACCESS disable" and those
-- beside it), as the set of their warnings.
use Rattle.std.specs.Prelude.{◌≡◌, ℕ, Bool, true, false, Option, Some, None, Contains, ℤ, pos, negsuc}
use Rattle.ot_base.specs.declared.place.Place.{Place}
use Rattle.ot_base.specs.declared.rules.TheConstants.{CALL_WITH_ACCESS, RETURN_WITH_ACCESS, RETURN_WITHOUT_ACCESS, ACCESS_ON_TWICE, ACCESS_OFF_TWICE, SAFE_FUNCTION_ACCESS_OFF, POPF_WITH_ACCESS_TRACKED}
use Rattle.operation_defs.specs.declared.op.Op.TheVariants.{Stac, Clac, Popf}
use Rattle.machine_defs.specs.declared.flow.EdgeKind.TheVariants.{Sibling}
use Rattle.machine_defs.specs.declared.flow.Role.TheVariants.{CallIn, CallEither, CallOut, CallAny, Return, JumpOut, JumpAny}
use Rattle.machine_defs.specs.Program.{Program, edge}
use Rattle.machine_defs.specs.Kept.{edges_of}
use Rattle.machine_defs.specs.Broken.{LeavesByJump}
use Rattle.machine_defs.specs.Allowances.{Allowances, is_safe}
use Rattle.machine_defs.specs.Access.{Reached}

-- the number of a function, or -1 where there is none
abbrev pub function_number : Option ℕ → ℤ
function_number None = negsuc 0
function_number (Some function) = pos function

-- the point calls, or jumps to another function, where the callee is told by this number: the function of an entry that isn't
-- safe (-1 for code of no function), or a symbol outside whose name isn't listed, or -1 for an indirect target
pub data CallsUnsafe (p : Program) (allowed : Allowances) (q : ℕ) : ℤ → Type 0 where
  inside : (entry : ℕ) → p.role q ≡ CallIn entry → is_safe p allowed entry ≡ false → CallsUnsafe p allowed q (function_number (p.function entry))
  weak_inside : (entry sym : ℕ) → p.role q ≡ CallEither entry sym → is_safe p allowed entry ≡ false → CallsUnsafe p allowed q (function_number (p.function entry))
  weak_outside : (entry sym : ℕ) → p.role q ≡ CallEither entry sym → allowed.safe_name sym ≡ false → CallsUnsafe p allowed q (pos sym)
  outside : (sym : ℕ) → p.role q ≡ CallOut sym → allowed.safe_name sym ≡ false → CallsUnsafe p allowed q (pos sym)
  jumps_outside : (sym : ℕ) → p.role q ≡ JumpOut sym → allowed.safe_name sym ≡ false → CallsUnsafe p allowed q (pos sym)
  tail_call : (r : ℕ) → Contains (edges_of p q) (edge r Sibling) → is_safe p allowed r ≡ false → CallsUnsafe p allowed q (function_number (p.function r))
  indirect : p.role q ≡ CallAny → CallsUnsafe p allowed q (negsuc 0)
  jumps_anywhere : p.role q ≡ JumpAny → CallsUnsafe p allowed q (negsuc 0)

-- the point leaves its function: by a return, by a jump to another one, or by one outside
pub data Leaves (p : Program) (q : ℕ) : Type 0 where
  by_return : p.role q ≡ Return → Leaves p q
  by_jump : LeavesByJump p q → Leaves p q

-- The warnings of the rules 41 to 47. The place is that of the point that breaks the rule, the first number tells the callee of
-- rule 41 and is 0 elsewhere, the second is 0. Whether the function is a safe one goes by the home of the frame.
pub data AccessWarns (p : Program) (allowed : Allowances) : Place → ℕ → ℤ → ℤ → Type 0 where
  -- 41. a function that isn't safe is called, or jumped to, with user access on
  call_with_access : (q : ℕ) (home : Bool) (callee : ℤ) → Reached p allowed q true home → CallsUnsafe p allowed q callee → AccessWarns p allowed (p.place q) CALL_WITH_ACCESS callee (pos 0)
  -- 42. a function that isn't safe is left with user access on
  return_with_access : (q : ℕ) → Reached p allowed q true false → Leaves p q → AccessWarns p allowed (p.place q) RETURN_WITH_ACCESS (pos 0) (pos 0)
  -- 43. a safe function is left with user access off
  return_without_access : (q : ℕ) → Reached p allowed q false true → Leaves p q → AccessWarns p allowed (p.place q) RETURN_WITHOUT_ACCESS (pos 0) (pos 0)
  -- 44. user access is turned on where it is on
  on_twice : (q : ℕ) (home : Bool) → Reached p allowed q true home → (p.insn q).op ≡ Stac → AccessWarns p allowed (p.place q) ACCESS_ON_TWICE (pos 0) (pos 0)
  -- 45. it is turned off where it is off, in a function that isn't safe; code of no function may turn it off so
  off_twice : (q owner : ℕ) → Reached p allowed q false false → p.owner q ≡ Some owner → (p.insn q).op ≡ Clac → AccessWarns p allowed (p.place q) ACCESS_OFF_TWICE (pos 0) (pos 0)
  -- 46. a safe function turns it off
  safe_turns_off : (q : ℕ) (access : Bool) → Reached p allowed q access true → (p.insn q).op ≡ Clac → AccessWarns p allowed (p.place q) SAFE_FUNCTION_ACCESS_OFF (pos 0) (pos 0)
  -- 47. where it is on, a popf may change it unseen
  popf : (q : ℕ) (home : Bool) → Reached p allowed q true home → (p.insn q).op ≡ Popf → AccessWarns p allowed (p.place q) POPF_WITH_ACCESS_TRACKED (pos 0) (pos 0)
