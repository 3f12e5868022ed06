-- The entries that calls go to are points.
use Rattle.std.proofs.Common.{◌≡◌, ℕ, ◌<◌, Bool, true, false, List, [], ◌∷◌, length, Option, Some, None, refl, sym, ap, ◌∙◌, subst, if◌then◌else◌}
use Rattle.std.specs.Prelude.{is_some, unwrap_or}
use Rattle.std.proofs.lemmas.Bool.{false≢true}
use Rattle.std.proofs.lemmas.List.Quantifiers.{position-Some}
use Rattle.ot_base.specs.declared.place.Place.{Place}
use Rattle.alternatives.specs.Texts.{is_boundary}
use Rattle.operation_defs.specs.declared.insn.Insn.{Insn}
use Rattle.operation_defs.specs.declared.op.Op.{Op}
use Rattle.operation_defs.specs.declared.op.Op.TheVariants as ops
use Rattle.flow_defs.specs.Coded.{Coded}
use Rattle.machine_defs.specs.declared.flow.Role.{Role}
use Rattle.machine_defs.specs.declared.flow.Role.TheVariants.{Plain, CallIn, CallEither, CallOut, JumpOut}
use Rattle.alternatives.specs.declared.point.Point.{Point}
use Rattle.flow_defs.specs.declared.destination.Destination.{Destination}
use Rattle.flow_defs.specs.declared.destination.Destination.TheVariants.{ToPlace, ToOwnPoint, ToOutside, ToIndirectThunk, ToReturnThunk, ToNowhere}
use Rattle.flow_defs.specs.declared.destination.Way.{Way}
use Rattle.flow_defs.specs.declared.destination.Way.TheVariants as ways
use Rattle.flow_defs.specs.Arrival.{insn_of_object, is_padding}
use Rattle.flow_defs.specs.Code.{no_point, number_of, plain_point, points_of_object, same_point, texts_of}
use Rattle.flow_defs.specs.Owners.{unchecked_start}
use Rattle.flow_defs.specs.Roles.{call_by, call_of_gate, call_role, entry_call, gate_called, is_called, jump_by_table, jump_by_way, jump_role, place_call, plain_number, returns_through, role_by, role_of, role_through, table_of_point}
use Rattle.flow_defs.specs.Targets.{destination_of}
use Rattle.flow_defs.specs.Ways.{jump_way}
use Rattle.point_arrivals.proofs.Aims.{has_number}

-- the entry that a role calls
abbrev entry_called : Role → Option ℕ
entry_called (CallIn entry) = Some entry
entry_called (CallEither entry sym) = Some entry
entry_called _ = None

-- what is no symbol is none
pub not_some : (x : Option ℕ) → ((n : ℕ) → x ≡ Some n → ⊥) → x ≡ None
not_some None none = refl
not_some (Some n) none = absurd (none n refl)

-- it is a point
abbrev IsKnown : Coded → Role → Type 0
IsKnown o role = (entry : ℕ) → entry_called role ≡ Some entry → entry < length (points_of_object o)

none_called : (o : Coded) (role : Role) → entry_called role ≡ None → IsKnown o role
none_called o role none entry is = absurd (cc)

module _ (o : Coded) where
  number_inside : (p : Point) (found : Option ℕ) → number_of o p ≡ found → is_some found ≡ true → unwrap_or found 0 < length (points_of_object o)
  number_inside p None is some = absurd (false≢true some)
  number_inside p (Some n) is some = (position-Some (same_point p) (points_of_object o) n no_point is).0

  plain_inside : (place : Place) → is_boundary (texts_of o) place ≡ true → plain_number o place < length (points_of_object o)
  plain_inside place boundary = number_inside (plain_point place) (number_of o (plain_point place)) refl (has_number o (plain_point place) ∙ boundary)

  entry_known : (n : ℕ) (weak : Option ℕ) → n < length (points_of_object o) → IsKnown o (entry_call n weak)
  entry_known n None inside entry is = let same : n ≡ entry = cc in subst (λ k. k < length (points_of_object o)) same inside
  entry_known n (Some sym) inside entry is = let same : n ≡ entry = cc in subst (λ k. k < length (points_of_object o)) same inside

  gate_known : (gate : Option ℕ) → IsKnown o (call_of_gate gate)
  gate_known None = none_called o Plain refl
  gate_known (Some sym) = none_called o (CallOut sym) refl

  entered : (place : Place) (weak gate : Option ℕ) (b : Bool) → is_boundary (texts_of o) place ≡ true → IsKnown o (if b then entry_call (plain_number o place) weak else call_of_gate gate)
  entered place weak gate true boundary = entry_known (plain_number o place) weak (plain_inside place boundary)
  entered place weak gate false boundary = gate_known gate

  started : (from : Point) (place : Place) (weak start : Option ℕ) → is_boundary (texts_of o) place ≡ true → IsKnown o (call_by o from place weak start)
  started from place weak (Some f) boundary = none_called o (call_by o from place weak (Some f)) refl
  started from place weak None boundary = entered place weak (gate_called o from place) (is_called o from place) boundary

  bounded : (from : Point) (place : Place) (weak : Option ℕ) (b : Bool) → is_boundary (texts_of o) place ≡ b → IsKnown o (if b then call_by o from place weak (unchecked_start o.elf place) else Plain)
  bounded from place weak true boundary = started from place weak (unchecked_start o.elf place) boundary
  bounded from place weak false boundary = none_called o Plain refl

  place_known : (from : Point) (place : Place) (weak : Option ℕ) → IsKnown o (place_call o from place weak)
  place_known from place weak = bounded from place weak (is_boundary (texts_of o) place) refl

  unpadded : (from : Point) (place : Place) (b : Bool) → IsKnown o (if b then Plain else place_call o from place None)
  unpadded from place true = none_called o Plain refl
  unpadded from place false = place_known from place None

  call_known : (from : Point) (to : Destination) → IsKnown o (call_role o from to)
  call_known from (ToPlace place weak crossing) = place_known from place weak
  call_known from (ToOwnPoint point) = unpadded from point.place (is_padding o point)
  call_known from (ToOutside sym) = none_called o (call_role o from (ToOutside sym)) refl
  call_known from ToIndirectThunk = none_called o (call_role o from ToIndirectThunk) refl
  call_known from ToReturnThunk = none_called o Plain refl
  call_known from ToNowhere = none_called o Plain refl

  -- jumps call no entry
  way_calls : (way : Way) (weak : Option ℕ) → entry_called (jump_by_way way weak) ≡ None
  way_calls ways.Bad weak = refl
  way_calls (ways.Outside f) weak = refl
  way_calls (ways.Along kind) None = refl
  way_calls (ways.Along kind) (Some sym) = refl

  table_calls : (places : List Place) → entry_called (jump_by_table places) ≡ None
  table_calls [] = refl
  table_calls (place ∷ places) = refl

  jump_calls : (point : Point) (to : Destination) → entry_called (jump_role o point to) ≡ None
  jump_calls point (ToPlace place weak crossing) = way_calls (jump_way o point crossing place) weak
  jump_calls point (ToOwnPoint other) = refl
  jump_calls point (ToOutside sym) = refl
  jump_calls point ToIndirectThunk = table_calls (table_of_point o point)
  jump_calls point ToReturnThunk = refl
  jump_calls point ToNowhere = refl

  op_known : (point : Point) (op : Op) → IsKnown o (role_by o point op)
  op_known point (ops.Call rel) = call_known point (destination_of o point)
  op_known point (ops.Jmp rel wide) = none_called o (jump_role o point (destination_of o point)) (jump_calls point (destination_of o point))
  op_known point (ops.Jcc rel wide) = none_called o (jump_role o point (destination_of o point)) (jump_calls point (destination_of o point))
  op_known point (ops.JmpInd table) = none_called o (jump_by_table (table_of_point o point)) (table_calls (table_of_point o point))
  op_known point op = none_called o (role_by o point op) refl

  through_known : (point : Point) (through : Option ℕ) → IsKnown o (role_through o point through)
  through_known point None = op_known point (insn_of_object o point).op
  through_known point (Some sym) = none_called o (JumpOut sym) refl

  role_known : (point : Point) → IsKnown o (role_of o point)
  unfolding role_of
  role_known point = through_known point (returns_through o point)

  pub call_inside : (point : Point) (entry : ℕ) → role_of o point ≡ CallIn entry → entry < length (points_of_object o)
  call_inside point entry is = role_known point entry (ap entry_called is)

  pub weak_call_inside : (point : Point) (entry sym : ℕ) → role_of o point ≡ CallEither entry sym → entry < length (points_of_object o)
  weak_call_inside point entry sym is = role_known point entry (ap entry_called is)

  -- the role by whether the point returns through code that returns for its caller
  pub role_as_through : (point : Point) (through : Option ℕ) (symbol : ℕ) → through ≡ returns_through o point → through ≡ Some symbol → JumpOut symbol ≡ role_of o point
  unfolding role_of
  role_as_through point through symbol is some = ap (role_through o point) (sym some ∙ is)

  pub role_as_by : (point : Point) (insn : Insn) (through : Option ℕ) → through ≡ returns_through o point → through ≡ None → insn ≡ insn_of_object o point → role_by o point insn.op ≡ role_of o point
  unfolding role_of
  role_as_by point insn through is none own = ap (λ (i : Insn). role_by o point i.op) own ∙ ap (role_through o point) (sym none ∙ is)
