-- A call that can't return, and what may come back.
use Rattle.std.specs.Prelude.{◌≡◌, not, true, false, [], ◌∷◌, ◌++◌, codes}
use Rattle.std.specs.FinSet as set
use Rattle.ot_base.specs.NameLists.{NameLists}
use Rattle.flow_defs.specs.Coded.{Coded}
use Rattle.machine_defs.specs.declared.flow.EdgeKind.TheVariants.{Next}
use Rattle.machine_defs.specs.declared.flow.Role.TheVariants.{CallIn, CallOut, Return}
use Rattle.machine_defs.specs.Program.{edge, no_marks}
use Rattle.flow_defs.specs.Program.{program_of}
use Rattle.flow_defs.specs.WorkedCalls.{before}
use Rattle.flow_defs.specs.WorkedObjects.{code_section, edges_of_points, function_symbol, marks_of_points, object, outside, reloc, returning_points, roles_of_points, zeros}

-- f calls panic right before g, which calls f and goes on to its return; h calls itself before its return
abbrev pub never_returning : Coded
never_returning = object
    (code_section (codes ".text") 17 (0xE8 ∷ zeros 4 ++ 0xE8 ∷ 0xF6 ∷ 0xFF ∷ 0xFF ∷ 0xFF ∷ 0xC3 ∷ 0xE8 ∷ 0xFB ∷ 0xFF ∷ 0xFF ∷ 0xFF ∷ 0xC3 ∷ []) ∷ [])
    (function_symbol (codes "f") 1 0 5 ∷ function_symbol (codes "g") 1 5 6 ∷ function_symbol (codes "h") 1 11 6 ∷ outside (codes "panic") ∷ [])
    ((reloc 1 4 4 0 ∷ []) ∷ [])

-- Points: 0 f's call; 1 g's call of f, 2 its return; 3 h's call of itself, 4 its return.
pub record HasNeverReturning (lists : NameLists) : Type 0 where
  pub roles : roles_of_points (program_of never_returning lists) ≡ (CallOut 4 ∷ CallIn 0 ∷ Return ∷ CallIn 3 ∷ Return ∷ [])
  pub returning : returning_points (program_of never_returning lists) ≡ (false ∷ false ∷ true ∷ false ∷ true ∷ [])
  pub edges : edges_of_points (program_of never_returning lists) ≡ ((edge 1 Next ∷ []) ∷ (edge 2 Next ∷ []) ∷ [] ∷ (edge 4 Next ∷ []) ∷ [] ∷ [])

-- f calls panic at the end of a section, and g is a no-op at the end of another
abbrev pub last_call : Coded
last_call = object
    (code_section (codes ".text") 5 (0xE8 ∷ zeros 4) ∷ code_section (codes ".init.text") 1 (0x90 ∷ []) ∷ [])
    (function_symbol (codes "f") 1 0 5 ∷ function_symbol (codes "g") 2 0 1 ∷ outside (codes "panic") ∷ [])
    ((reloc 1 4 3 0 ∷ []) ∷ [] ∷ [])

-- the call runs off its section exactly where panic isn't listed, the no-op always
pub record HasLastCall (lists : NameLists) : Type 0 where
  pub marks : marks_of_points (program_of last_call lists)
      ≡ (record no_marks { past_end = not (set.contains lists.never_returning (codes "panic")) } ∷ record no_marks { past_end = true } ∷ [])

-- f calls panic, a function of another section of the object, at the end of its own
abbrev pub listed_call : Coded
listed_call = object
    (code_section (codes ".text") 5 (0xE8 ∷ zeros 4) ∷ code_section (codes ".init.text") 1 (0xC3 ∷ []) ∷ [])
    (function_symbol (codes "f") 1 0 5 ∷ function_symbol (codes "panic") 2 0 1 ∷ [])
    ((before 1 2 ∷ []) ∷ [] ∷ [])

-- a return may come from panic itself, but the call runs off its section only where panic isn't listed
pub record HasListedCall (lists : NameLists) : Type 0 where
  pub roles : roles_of_points (program_of listed_call lists) ≡ (CallIn 1 ∷ Return ∷ [])
  pub returning : returning_points (program_of listed_call lists) ≡ (false ∷ true ∷ [])
  pub marks : marks_of_points (program_of listed_call lists)
      ≡ (record no_marks { past_end = not (set.contains lists.never_returning (codes "panic")) } ∷ no_marks ∷ [])
