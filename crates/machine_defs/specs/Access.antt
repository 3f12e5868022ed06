-- Whether user access (the AC flag of RFLAGS, which STAC sets and CLAC clears) may be on where control comes to a point.
use Rattle.std.specs.Prelude.{◌≡◌, ◌≢◌, ℕ, Bool, true, false, None, Contains}
use Rattle.operation_defs.specs.declared.op.Op.{Op}
use Rattle.operation_defs.specs.declared.op.Op.TheVariants.{Stac, Clac}
use Rattle.machine_defs.specs.declared.flow.Edge.{Edge}
use Rattle.machine_defs.specs.declared.flow.EdgeKind.{EdgeKind}
use Rattle.machine_defs.specs.declared.flow.EdgeKind.TheVariants.{Next, Taken, Fixup, Table, Sibling}
use Rattle.machine_defs.specs.Program.{Program, IsPoint, entry_points}
use Rattle.machine_defs.specs.Kept.{edges_of}
use Rattle.machine_defs.specs.Ways.{is_call_hint}
use Rattle.machine_defs.specs.Allowances.{Allowances, is_safe}

-- User access behind an instruction. A popf leaves it off where it is off; where it is on, rule 47 is met.
abbrev pub access_after : Op → Bool → Bool
access_after Stac access = true
access_after Clac access = false
access_after op access = access

-- user access at the end of an edge; an instruction that faults has done nothing
abbrev pub access_along : EdgeKind → Op → Bool → Bool
access_along Next op access = access_after op access
access_along Taken op access = access_after op access
access_along Fixup op access = access
access_along Table op access = access_after op access
access_along Sibling op access = access

-- Control comes to a point with user access on or off, in a frame whose function expects it on or off (its home): on where the
-- function is safe. So it does to an entry as its function expects; to a point of no function, at whose own place a hint stands,
-- with access off, and so, by a call, to one at which a hint counts that tells a call frame or ends the stack; and along the edges
-- of a function, in which the home stays. Where a site has replacements for a processor with SMAP, they alone are entered.
pub data Reached (p : Program) (allowed : Allowances) : ℕ → Bool → Bool → Type 0 where
  entered : (q entry : ℕ) → Contains p.entries entry → Contains (entry_points p entry) q → allowed.lacks_smap q ≡ false
      → Reached p allowed q (is_safe p allowed entry) (is_safe p allowed entry)
  hinted : (q : ℕ) → IsPoint p q → p.own_hint q ≡ true → p.owner q ≡ None → Reached p allowed q false false
  called : (q : ℕ) → IsPoint p q → is_call_hint (p.hint q) ≡ true → p.owner q ≡ None → allowed.lacks_smap q ≡ false → Reached p allowed q false false
  along : (q : ℕ) (access home : Bool) (e : Edge) → Reached p allowed q access home → Contains (edges_of p q) e → e.kind ≢ Sibling → allowed.lacks_smap e.to ≡ false
      → Reached p allowed e.to (access_along e.kind (p.insn q).op access) home
