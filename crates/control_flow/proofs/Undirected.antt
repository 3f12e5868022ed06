-- Points that are decoded as no direct call or branch, and those whose direct jumps go to the thunk for indirect ones.
use Rattle.std.proofs.Common.{◌≡◌, ℤ, Bool, true, false, cond, None, refl, sym, ap}
use Rattle.std.specs.Prelude.{is_some, option_and_then}
use Rattle.std.proofs.lemmas.Bool.{false≢true}
use Rattle.operation_defs.specs.declared.op.Op.{Op}
use Rattle.operation_defs.specs.declared.op.Op.TheVariants as ops
use Rattle.operation_defs.specs.Made.{Around, made}
use Rattle.symbols_relocs.specs.BranchNames.{name_by}
use Rattle.symbols_relocs.specs.Displacements.{displacement_of}
use Rattle.alternatives.specs.declared.point.Point.{Point}
use Rattle.flow_defs.specs.Coded.{Coded}
use Rattle.flow_defs.specs.declared.destination.Destination.TheVariants.{ToIndirectThunk}
use Rattle.flow_defs.specs.Arrival.{around, decoded_insn, insn_of_object}
use Rattle.flow_defs.specs.Roles.{returns_through, returns_through_by}
use Rattle.flow_defs.specs.Targets.{destination_of, names_of, returning_inside, returning_target}
use Rattle.point_edges.specs.Straight.{is_straight_op}

-- a direct call or branch
abbrev pub is_direct : Op → Bool
is_direct (ops.Call rel) = true
is_direct (ops.Jmp rel wide) = true
is_direct (ops.Jcc rel wide) = true
is_direct _ = false

no_displacement : (op : Op) → is_direct op ≡ false → displacement_of op ≡ None
no_displacement (ops.Call rel) h = absurd (false≢true (sym h))
no_displacement (ops.Jmp rel wide) h = absurd (false≢true (sym h))
no_displacement (ops.Jcc rel wide) h = absurd (false≢true (sym h))
no_displacement _ h = refl

nothing_through : (o : Coded) (p : Point) (op : Op) → is_direct op ≡ false → returns_through_by o p op ≡ None
nothing_through o p (ops.Call rel) h = absurd (false≢true (sym h))
nothing_through o p (ops.Jmp rel wide) h = absurd (false≢true (sym h))
nothing_through o p (ops.Jcc rel wide) h = absurd (false≢true (sym h))
nothing_through o p _ h = refl

-- what the program makes of a call is none of two kinds
no_straight_call : (returning within : Bool) (rel : ℤ) → is_straight_op (cond returning (ops.Jmp rel true) (cond within ops.Hop (ops.Call rel))) ≡ true → false ≡ true
no_straight_call true within rel h = h
no_straight_call false true rel h = h
no_straight_call false false rel h = h

straight_made : (a : Around) (op : Op) → is_straight_op (made a op) ≡ true → is_direct op ≡ false
straight_made a (ops.Call rel) h = absurd (false≢true (no_straight_call a.returning a.intra_call rel h))
straight_made a (ops.Jmp rel wide) h = absurd (false≢true h)
straight_made a (ops.Jcc rel wide) h = absurd (false≢true h)
straight_made a _ h = refl

abbrev pub is_by_memory : Op → Bool
is_by_memory (ops.JmpInd table) = true
is_by_memory _ = false

no_memory_call : (returning within : Bool) (rel : ℤ) → is_by_memory (cond returning (ops.Jmp rel true) (cond within ops.Hop (ops.Call rel))) ≡ true → false ≡ true
no_memory_call true within rel h = h
no_memory_call false true rel h = h
no_memory_call false false rel h = h

memory_made : (a : Around) (op : Op) → is_by_memory (made a op) ≡ true → is_direct op ≡ false
memory_made a (ops.Call rel) h = absurd (false≢true (no_memory_call a.returning a.intra_call rel h))
memory_made a (ops.Jmp rel wide) h = absurd (false≢true h)
memory_made a (ops.Jcc rel wide) h = absurd (false≢true h)
memory_made a _ h = refl

thunk_through : (o : Coded) (p : Point) (op : Op) → destination_of o p ≡ ToIndirectThunk → returns_through_by o p op ≡ None
thunk_through o p (ops.Call rel) is = ap (returning_target o) is
thunk_through o p (ops.Jmp rel wide) is = ap (returning_inside o) is
thunk_through o p (ops.Jcc rel wide) is = ap (returning_inside o) is
thunk_through o p _ is = refl

module _ (o : Coded) (p : Point) where
  -- a straight point is decoded as none
  pub straight_direct : is_straight_op (insn_of_object o p).op ≡ true → is_direct (decoded_insn o p).op ≡ false
  unfolding insn_of_object
  straight_direct h = straight_made (around o p) (decoded_insn o p).op h

  memory_direct : is_by_memory (insn_of_object o p).op ≡ true → is_direct (decoded_insn o p).op ≡ false
  unfolding insn_of_object
  memory_direct h = memory_made (around o p) (decoded_insn o p).op h

  -- it names no symbol, and returns through no code
  pub names_nothing : is_direct (decoded_insn o p).op ≡ false → is_some (names_of o p) ≡ false
  names_nothing undirected = ap (λ d. is_some (option_and_then (name_by o.elf p.place (decoded_insn o p).len) d)) (no_displacement (decoded_insn o p).op undirected)

  pub returns_through_nothing : is_direct (decoded_insn o p).op ≡ false → returns_through o p ≡ None
  unfolding returns_through
  returns_through_nothing undirected = nothing_through o p (decoded_insn o p).op undirected

  -- nor does an indirect jump
  pub memory_through : is_by_memory (insn_of_object o p).op ≡ true → returns_through o p ≡ None
  memory_through h = returns_through_nothing (memory_direct h)

  pub by_thunk_through : destination_of o p ≡ ToIndirectThunk → returns_through o p ≡ None
  unfolding returns_through
  by_thunk_through is = thunk_through o p (decoded_insn o p).op is
