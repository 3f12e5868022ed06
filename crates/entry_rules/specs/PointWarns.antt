-- The warnings of the entry rules, rule by rule.
use Rattle.std.specs.Prelude.{◌≡◌, ℕ, ◌⊎◌, true, false, Contains, ℤ, pos, negsuc}
use Rattle.ot_base.specs.declared.place.Place.{Place}
use Rattle.ot_base.specs.declared.warning.Warning.{Warning}
use Rattle.ot_base.specs.Warnings.{bare_warning, numbered_warning}
use Rattle.machine_defs.specs.declared.flow.Edge.{Edge}
use Rattle.machine_defs.specs.declared.flow.EdgeKind.TheVariants.{Sibling}
use Rattle.machine_defs.specs.declared.flow.Role.{Role}
use Rattle.machine_defs.specs.declared.flow.Role.TheVariants.{CallIn, CallEither, CallOut, CallAny, JumpOut, JumpAny}
use Rattle.machine_defs.specs.Kept.{edges_of}
use Rattle.machine_defs.specs.Program.{IsPoint, Program, entry_points}
use Rattle.ot_base.specs.declared.rules.TheConstants.{CALL_LEAVES_NOINSTR, JUMP_WITHOUT_INT3, RETURN_WITHOUT_INT3, TAKEN_WITHOUT_ENDBR}
use Rattle.entry_rules.specs.EntryWarns.{LeavesNoinstr, callee_number, is_before_int3, is_endbr, is_indirect_jump, is_noinstr, is_return}
use Rattle.entry_rules.specs.Facts.{EntryFacts}

-- a warning of rule 51
abbrev pub callee_warning : Place → ℤ → Warning
callee_warning place callee = numbered_warning place CALL_LEAVES_NOINSTR callee (pos 0)

-- control goes to a point in code that is instrumented
abbrev pub PointIsLeftFor : Program → EntryFacts → Place → ℕ → Warning → Type 0
PointIsLeftFor p facts place r w = is_noinstr p facts r ≡ false × w ≡ callee_warning place (callee_number (p.function r))

-- so a role calls, or jumps to another function
abbrev pub RoleLeaves : Program → EntryFacts → Place → Role → Warning → Type 0
RoleLeaves p facts place (CallIn entry) w = PointIsLeftFor p facts place entry w
RoleLeaves p facts place (CallEither entry sym) w = PointIsLeftFor p facts place entry w ⊎ w ≡ callee_warning place (pos sym)
RoleLeaves p facts place (CallOut sym) w = w ≡ callee_warning place (pos sym)
RoleLeaves p facts place CallAny w = w ≡ callee_warning place (negsuc 0)
RoleLeaves p facts place (JumpOut sym) w = w ≡ callee_warning place (pos sym)
RoleLeaves p facts place JumpAny w = w ≡ callee_warning place (negsuc 0)
RoleLeaves p facts place _ w = ⊥

-- and an edge
abbrev pub EdgeLeaves : Program → EntryFacts → Place → Edge → Warning → Type 0
EdgeLeaves p facts place e w = e.kind ≡ Sibling × PointIsLeftFor p facts place e.to w

abbrev pub EdgesLeave : Program → EntryFacts → ℕ → Warning → Type 0
EdgesLeave p facts q w = (e : Edge) × Contains (edges_of p q) e × EdgeLeaves p facts (p.place q) e w

-- 51 at a point, and at any point
abbrev pub PointLeaves : Program → EntryFacts → ℕ → Warning → Type 0
PointLeaves p facts q w = is_noinstr p facts q ≡ true × ((callee : ℤ) × LeavesNoinstr p facts q callee × w ≡ callee_warning (p.place q) callee)

abbrev pub LeavingWarns : Program → EntryFacts → Warning → Type 0
LeavingWarns p facts w = (q : ℕ) × IsPoint p q × PointLeaves p facts q w

-- 52, 53 at a point, and at any point
abbrev pub PointIsBare : Program → ℕ → Warning → Type 0
PointIsBare p q w =
    ((is_return (p.insn q).op ≡ true × is_before_int3 p q ≡ false) × w ≡ bare_warning (p.place q) RETURN_WITHOUT_INT3)
    ⊎ ((is_indirect_jump (p.insn q).op ≡ true × is_before_int3 p q ≡ false) × w ≡ bare_warning (p.place q) JUMP_WITHOUT_INT3)

abbrev pub BareWarns : Program → Warning → Type 0
BareWarns p w = (q : ℕ) × IsPoint p q × PointIsBare p q w

-- 54: control that comes to an entry whose address is taken may stand at a point that is no ENDBR
abbrev pub PointIsTaken : Program → EntryFacts → ℕ → Warning → Type 0
PointIsTaken p facts q w =
    (entry : ℕ) × (Contains p.entries entry × Contains (entry_points p entry) q) × facts.taken entry ≡ true × is_endbr (p.insn q).op ≡ false
    × w ≡ bare_warning (p.place entry) TAKEN_WITHOUT_ENDBR

abbrev pub TakenWarns : Program → EntryFacts → Warning → Type 0
TakenWarns p facts w = (q : ℕ) × IsPoint p q × PointIsTaken p facts q w
