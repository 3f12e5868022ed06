-- The entry rules (51 to 54; Linux 6.6, tools/objtool/Documentation/objtool.txt: noinstr, straight-line speculation, indirect branch
-- tracking), as the set of their warnings.
use Rattle.std.specs.Prelude.{◌≡◌, ℕ, ◌+◌, ◌==◌, ◌&&◌, Bool, true, false, Option, Some, None, Contains, ℤ, pos, negsuc}
use Rattle.std.specs.List.{list_any}
use Rattle.ot_base.specs.declared.place.Place.{Place}
use Rattle.operation_defs.specs.declared.op.Op.{Op}
use Rattle.operation_defs.specs.declared.op.Op.TheVariants.{Endbr, Int3, JmpInd, Ret, RetImm}
use Rattle.machine_defs.specs.declared.flow.EdgeKind.TheVariants.{Sibling}
use Rattle.machine_defs.specs.declared.flow.Role.TheVariants.{CallIn, CallEither, CallOut, CallAny, JumpOut, JumpAny}
use Rattle.machine_defs.specs.Program.{IsPoint, Program, below, edge, entry_points}
use Rattle.machine_defs.specs.Kept.{edges_of}
use Rattle.entry_rules.specs.declared.options.EntryOptions.{EntryOptions}
use Rattle.ot_base.specs.declared.rules.TheConstants.{CALL_LEAVES_NOINSTR, JUMP_WITHOUT_INT3, RETURN_WITHOUT_INT3, TAKEN_WITHOUT_ENDBR}
use Rattle.entry_rules.specs.Facts.{EntryFacts}

-- a point runs in code that isn't instrumented
abbrev pub is_noinstr : Program → EntryFacts → ℕ → Bool
is_noinstr p facts q = facts.noinstr (p.address q).sec

-- how a warning tells the function of an entry: by its symbol, or by -1 where there is none
abbrev pub callee_number : Option ℕ → ℤ
callee_number (Some function) = pos function
callee_number None = negsuc 0

-- The point calls, or jumps to another function, where that is instrumented or outside. The callee is told by this number: that of
-- the function of an entry, that of a symbol outside, or -1 for an indirect target.
pub data LeavesNoinstr (p : Program) (facts : EntryFacts) (q : ℕ) : ℤ → Type 0 where
  calls : (entry : ℕ) → p.role q ≡ CallIn entry → is_noinstr p facts entry ≡ false → LeavesNoinstr p facts q (callee_number (p.function entry))
  calls_weak : (entry sym : ℕ) → p.role q ≡ CallEither entry sym → is_noinstr p facts entry ≡ false → LeavesNoinstr p facts q (callee_number (p.function entry))
  calls_weak_outside : (entry sym : ℕ) → p.role q ≡ CallEither entry sym → LeavesNoinstr p facts q (pos sym)
  calls_outside : (sym : ℕ) → p.role q ≡ CallOut sym → LeavesNoinstr p facts q (pos sym)
  calls_anywhere : p.role q ≡ CallAny → LeavesNoinstr p facts q (negsuc 0)
  jumps : (r : ℕ) → Contains (edges_of p q) (edge r Sibling) → is_noinstr p facts r ≡ false → LeavesNoinstr p facts q (callee_number (p.function r))
  jumps_outside : (sym : ℕ) → p.role q ≡ JumpOut sym → LeavesNoinstr p facts q (pos sym)
  jumps_anywhere : p.role q ≡ JumpAny → LeavesNoinstr p facts q (negsuc 0)

-- a point stands right behind another: in the same variant and section, where the other's instruction ends
abbrev pub is_right_behind : Program → ℕ → ℕ → Bool
is_right_behind p q r =
    p.variant r == p.variant q && ((p.place r).sec == (p.place q).sec && (p.place r).off == (p.place q).off + (p.insn q).len)

abbrev pub is_int3 : Op → Bool
is_int3 Int3 = true
is_int3 _ = false

-- the instruction right behind a point is an INT3
abbrev pub is_before_int3 : Program → ℕ → Bool
is_before_int3 p q = list_any (λ r. is_right_behind p q r && is_int3 (p.insn r).op) (below p.count)

abbrev pub is_return : Op → Bool
is_return Ret = true
is_return RetImm = true
is_return _ = false

abbrev pub is_indirect_jump : Op → Bool
is_indirect_jump (JmpInd table) = true
is_indirect_jump _ = false

abbrev pub is_endbr : Op → Bool
is_endbr Endbr = true
is_endbr _ = false

-- The warnings of the entry rules, as far as the options ask for them. The place is that of the point, of the last that of the
-- entry; the first number tells the callee of rule 51 and is 0 elsewhere, the second is 0. They are of any point, reached or not.
pub data EntryWarns (p : Program) (facts : EntryFacts) (options : EntryOptions) : Place → ℕ → ℤ → ℤ → Type 0 where
  -- 51. code that isn't instrumented calls code that is, or jumps there as to another function
  leaves_noinstr : (q : ℕ) (callee : ℤ) → options.noinstr ≡ true → IsPoint p q → is_noinstr p facts q ≡ true → LeavesNoinstr p facts q callee → EntryWarns p facts options (p.place q) CALL_LEAVES_NOINSTR callee (pos 0)
  -- 52. no INT3 follows a return
  bare_return : (q : ℕ) → options.sls ≡ true → IsPoint p q → is_return (p.insn q).op ≡ true → is_before_int3 p q ≡ false → EntryWarns p facts options (p.place q) RETURN_WITHOUT_INT3 (pos 0) (pos 0)
  -- 53. none follows an indirect jump
  bare_jump : (q : ℕ) → options.sls ≡ true → IsPoint p q → is_indirect_jump (p.insn q).op ≡ true → is_before_int3 p q ≡ false → EntryWarns p facts options (p.place q) JUMP_WITHOUT_INT3 (pos 0) (pos 0)
  -- 54. control that comes to an entry whose address is taken may stand at another instruction than an ENDBR
  taken_bare : (entry q : ℕ) → options.ibt ≡ true → Contains p.entries entry → facts.taken entry ≡ true → Contains (entry_points p entry) q → is_endbr (p.insn q).op ≡ false → EntryWarns p facts options (p.place entry) TAKEN_WITHOUT_ENDBR (pos 0) (pos 0)

-- nothing is warned of under these options
abbrev pub IsClean : Program → EntryFacts → EntryOptions → Type 0
IsClean p facts options = (place : Place) (rule : ℕ) (a b : ℤ) → EntryWarns p facts options place rule a b → ⊥
