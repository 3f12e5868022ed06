-- Why an entry is refused, and the faults that this makes.
use Rattle.std.specs.Prelude.{◌≡◌, ◌⊎◌, ℕ, Bool, List, [], ◌∷◌, Option, Some, None, slice_get, if◌then◌else◌}
use Rattle.special_sections.specs.declared.fault.Why.{Why}
use Rattle.special_sections.specs.declared.fault.SpecialFault.{SpecialFault}
use Rattle.special_sections.specs.declared.fault.SpecialFault.TheVariants.{At, NoMemory}

-- a condition under which an entry is refused, and what this is called
abbrev pub Reason : Type 0
Reason = Bool × Why

-- the first reason whose condition holds
abbrev pub first_reason : List Reason → Option Why
first_reason [] = None
first_reason (r ∷ rest) = if r.0 then Some r.1 else first_reason rest

-- the fault of an entry, where there is a reason
abbrev pub fault_at : ℕ → ℕ → Option Why → List SpecialFault
fault_at sec entry None = []
fault_at sec entry (Some why) = At sec entry why ∷ []

-- the first of some faults is told, unless memory ran out
abbrev pub TellsFirst : List SpecialFault → SpecialFault → Type 0
TellsFirst faults told = (told ≡ NoMemory) ⊎ (slice_get faults 0 ≡ Some told)
