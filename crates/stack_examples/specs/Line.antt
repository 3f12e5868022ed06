-- What a line of a table says of its instruction.
use Rattle.std.specs.Prelude.{ℕ, Bool, true, false, List, [], ◌∷◌, Option, Some, None}
use Rattle.ot_base.specs.declared.place.Place.{Place}
use Rattle.operation_defs.specs.declared.op.Op.{Op}
use Rattle.operation_defs.specs.declared.op.Op.TheVariants.{Hop, Jmp, JmpInd, Ret, RetImm, Iret, Switch, Ud2}
use Rattle.machine_defs.specs.declared.flow.EdgeKind.{EdgeKind}
use Rattle.machine_defs.specs.declared.flow.Role.{Role}
use Rattle.machine_defs.specs.declared.flow.Role.TheVariants as role
use Rattle.program_model.specs.declared.program.ModelSite.{ModelSite}
use Rattle.stack_examples.specs.declared.lines.Line.{Line}

-- whether control goes on behind an instruction: not behind a jump, a call within a function, a return, a context switch or ud2
abbrev pub goes_on : Op → Bool
goes_on Hop = false
goes_on (Jmp rel wide) = false
goes_on (JmpInd table) = false
goes_on Ret = false
goes_on RetImm = false
goes_on Iret = false
goes_on Switch = false
goes_on Ud2 = false
goes_on _ = true

-- returns and context switches have a role of their own
abbrev pub role_of : Op → Role
role_of Ret = role.Return
role_of RetImm = role.Return
role_of Iret = role.Switch
role_of Switch = role.Switch
role_of _ = role.Plain

-- one more of at most two branches; a third takes the second's place
abbrev pub next_branches : List (Option (ℕ × EdgeKind)) → ℕ → EdgeKind → List (Option (ℕ × EdgeKind))
next_branches ((Some first) ∷ rest) off kind = Some first ∷ Some (off, kind) ∷ []
next_branches _ off kind = Some (off, kind) ∷ None ∷ []

-- a line of a replacement stands in section 2, any other in section 1
abbrev pub place_by : Option (ℕ × ℕ) → ℕ → Place
place_by None off = record { sec = 1; off = off }
place_by (Some replaces) off = record { sec = 2; off = off }

abbrev pub line_place : Line → Place
line_place line = place_by line.replaces line.off

-- where it runs, in section 1
abbrev pub address_by : Option (ℕ × ℕ) → ℕ → ℕ
address_by None off = off
address_by (Some replaces) off = replaces.1

abbrev pub line_address : Line → ℕ
line_address line = address_by line.replaces line.off

-- a site of a table stands in section 1
abbrev pub site_of_pair : ℕ × ℕ → ModelSite
site_of_pair (off, len) = record { start = record { sec = 1; off = off }; len = len }
