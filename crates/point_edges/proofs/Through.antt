-- Code that returns for its caller, inside another instruction.
use Rattle.std.proofs.Common.{◌≡◌, ℕ, Bool, true, false, Option, Some, None, refl, sym, ap, ◌∙◌, if◌then◌else◌}
use Rattle.std.specs.Prelude.{ℤ}
use Rattle.ot_base.specs.declared.place.Place.{Place}
use Rattle.operation_defs.specs.declared.op.Op.{Op}
use Rattle.operation_defs.specs.declared.op.Op.TheVariants.{Call, Jcc, Jmp}
use Rattle.alternatives.specs.declared.point.Point.{Point}
use Rattle.alternatives.specs.Texts.{is_boundary}
use Rattle.flow_defs.specs.Coded.{Coded}
use Rattle.flow_defs.specs.Code.{texts_of}
use Rattle.flow_defs.specs.Decoded.{decoded_insn}
use Rattle.flow_defs.specs.Roles.{returns_through, returns_through_by}
use Rattle.flow_defs.specs.Targets.{returning_inside, returning_target}
use Rattle.flow_defs.specs.declared.destination.Crossing.{Crossing}
use Rattle.flow_defs.specs.declared.destination.Crossing.TheVariants.{MayCross, MayNotCross}
use Rattle.flow_defs.specs.declared.destination.Destination.TheVariants.{ToPlace}

nothing : (b : Bool) → (if b then None else None) ≡ (let x : Option ℕ = None in x)
nothing true = refl
nothing false = refl

-- it is where no instruction begins
inside_is : (o : Coded) (place : Place) (weak : Option ℕ) (crossing : Crossing) → (if is_boundary (texts_of o) place then None else returning_target o (ToPlace place weak crossing)) ≡ returning_inside o (ToPlace place weak crossing)
inside_is o place weak MayCross = refl
inside_is o place weak MayNotCross = nothing (is_boundary (texts_of o) place)

module _ (o : Coded) (place : Place) (weak : Option ℕ) (crossing : Crossing) (found : Option ℕ) (is : found ≡ returning_target o (ToPlace place weak crossing)) where
  -- without such code there is none inside
  pub none_returns : found ≡ None → None ≡ returning_inside o (ToPlace place weak crossing)
  none_returns none =
      sym (nothing (is_boundary (texts_of o) place))
      ∙ ap (λ (x : Option ℕ). if is_boundary (texts_of o) place then None else x) (sym none ∙ is)
      ∙ inside_is o place weak crossing

  -- where an instruction begins, there is none either
  pub boundary_returns : is_boundary (texts_of o) place ≡ true → None ≡ returning_inside o (ToPlace place weak crossing)
  boundary_returns boundary =
      ap (λ (b : Bool). if b then None else returning_target o (ToPlace place weak crossing)) (sym boundary)
      ∙ inside_is o place weak crossing

  pub inside_returns : is_boundary (texts_of o) place ≡ false → (symbol : ℕ) → found ≡ Some symbol → Some symbol ≡ returning_inside o (ToPlace place weak crossing)
  inside_returns inside symbol some =
      sym some ∙ is
      ∙ ap (λ (b : Bool). if b then None else returning_target o (ToPlace place weak crossing)) (sym inside)
      ∙ inside_is o place weak crossing

-- ---- through which code a point returns, by its decoded operation
pub through_by : (o : Coded) (point : Point) (op : Op) → op ≡ (decoded_insn o point).op → returns_through_by o point op ≡ returns_through o point
unfolding returns_through
through_by o point op is = ap (returns_through_by o point) is

-- only calls and jumps do
pub other_through : (o : Coded) (point : Point) (op : Op) → ((rel : ℤ) → op ≡ Call rel → ⊥) → ((rel : ℤ) (wide : Bool) → op ≡ Jmp rel wide → ⊥) → ((rel : ℤ) (wide : Bool) → op ≡ Jcc rel wide → ⊥) → None ≡ returns_through_by o point op
other_through o point (Call rel) call jump branch = absurd (call rel refl)
other_through o point (Jmp rel wide) call jump branch = absurd (jump rel wide refl)
other_through o point (Jcc rel wide) call jump branch = absurd (branch rel wide refl)
other_through o point _ call jump branch = refl
