-- Calls and jumps inside their replacement.
use Rattle.std.proofs.Common.{◌≡◌, ℕ, Bool, ◌||◌, not, Some, sym, ap, ◌∙◌}
use Rattle.flow_defs.specs.Coded.{Coded}
use Rattle.alternatives.specs.declared.point.Point.{Point}
use Rattle.flow_defs.specs.Tables.{same_owner}
use Rattle.flow_defs.specs.declared.destination.Destination.TheVariants.{ToOwnPoint}
use Rattle.flow_defs.specs.Arrival.{is_padding}
use Rattle.flow_defs.specs.Code.{number_of, point_at}
use Rattle.flow_defs.specs.Marks.{is_bad_jump, is_inner_call, is_inner_call_of}
use Rattle.flow_defs.specs.Owners.{owner_of_point}
use Rattle.point_edges.proofs.Numbered.{numbered, padding_of_number}

pub bad_within : (o : Coded) (point other : Point) (to : ℕ) → number_of o other ≡ Some to → not (same_owner (owner_of_point o point) (owner_of_point o (point_at o to))) ≡ is_bad_jump o point (ToOwnPoint other)
bad_within o point other to is =
    ap (λ (p : Point). not (same_owner (owner_of_point o point) (owner_of_point o p))) (sym (numbered o other to is).1)

pub inner_within : (o : Coded) (from point : Point) (n : ℕ) (b : Bool) → number_of o point ≡ Some n → b ≡ is_padding o (point_at o n) → (b || is_inner_call_of o from point.place) ≡ is_inner_call o from (ToOwnPoint point)
inner_within o from point n b is padding =
    ap (λ padded. padded || is_inner_call_of o from point.place) (padding ∙ padding_of_number o point n is)
