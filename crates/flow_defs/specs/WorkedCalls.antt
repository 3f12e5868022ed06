-- Calls and jumps by relocations, and what a name that never returns does.
use Rattle.std.specs.Prelude.{◌≡◌, ℕ, negsuc, true, [], ◌∷◌, ◌++◌, codes}
use Rattle.ot_base.specs.NameLists.{NameLists}
use Rattle.elf_objects.specs.declared.symbol.Reloc.{Reloc}
use Rattle.flow_defs.specs.Coded.{Coded}
use Rattle.machine_defs.specs.declared.flow.EdgeKind.TheVariants.{Next, Sibling}
use Rattle.machine_defs.specs.declared.flow.Role.TheVariants.{Plain, CallEither, CallOut, CallAny, Return, JumpOut}
use Rattle.machine_defs.specs.Program.{edge, no_marks}
use Rattle.flow_defs.specs.Program.{program_of}
use Rattle.flow_defs.specs.WorkedObjects.{code_section, edges_of_points, function_symbol, marks_of_points, object, outside, roles_of_points, zeros}

-- the relocation PLT32 of a branch whose displacement begins at an offset: the place of a symbol itself
abbrev pub before : ℕ → ℕ → Reloc
before offset sym = record { offset = offset; kind = 4; sym = sym; addend = negsuc 3 }

-- f calls and jumps by relocations: at 0 a call of w, a WEAK function at 48, at 5 of the part f.cold at 49, at 10 of the
-- return thunk, at 15 of an indirect thunk, at 20 of g outside, at 25 a conditional jump to the return thunk, at 31 one to g,
-- at 37 a jump to w, at 42 a call of panic, and at 47 a return
abbrev pub by_relocation : Coded
by_relocation = object
    (code_section (codes ".text") 50
    (0xE8 ∷ zeros 4 ++ 0xE8 ∷ zeros 4 ++ 0xE8 ∷ zeros 4 ++ 0xE8 ∷ zeros 4 ++ 0xE8 ∷ zeros 4
    ++ 0x0F ∷ 0x84 ∷ zeros 4 ++ 0x0F ∷ 0x84 ∷ zeros 4 ++ 0xE9 ∷ zeros 4 ++ 0xE8 ∷ zeros 4 ++ 0xC3 ∷ 0xC3 ∷ 0xC3 ∷ [])
    ∷ [])
    (function_symbol (codes "f") 1 0 48
    ∷ record (function_symbol (codes "w") 1 48 1) { bind = 2 }
    ∷ function_symbol (codes "f.cold") 1 49 1
    ∷ outside (codes "__x86_return_thunk")
    ∷ outside (codes "__x86_indirect_thunk_rax")
    ∷ outside (codes "g")
    ∷ outside (codes "panic")
    ∷ [])
    ((before 1 2 ∷ before 6 3 ∷ before 11 4 ∷ before 16 5 ∷ before 21 6 ∷ before 27 4 ∷ before 33 6 ∷ before 38 2 ∷ before 43 7 ∷ []) ∷ [])

-- Points 0 to 8 are these, 9 the return of f, 10 w, 11 the part.
pub record HasCalls (lists : NameLists) : Type 0 where
  pub roles : roles_of_points (program_of by_relocation lists)
      ≡ (CallEither 10 2 ∷ Plain ∷ Plain ∷ CallAny ∷ CallOut 6 ∷ Return ∷ JumpOut 6 ∷ JumpOut 2 ∷ CallOut 7 ∷ Return ∷ Return ∷ Return ∷ [])
  pub edges : edges_of_points (program_of by_relocation lists)
      ≡ ((edge 1 Next ∷ []) ∷ (edge 2 Next ∷ []) ∷ (edge 3 Next ∷ []) ∷ (edge 4 Next ∷ []) ∷ (edge 5 Next ∷ []) ∷ (edge 6 Next ∷ []) ∷ (edge 7 Next ∷ [])
      ∷ (edge 10 Sibling ∷ []) ∷ (edge 9 Next ∷ []) ∷ [] ∷ [] ∷ [] ∷ [])
  pub marks : marks_of_points (program_of by_relocation lists)
      ≡ (no_marks ∷ record no_marks { into_function = true } ∷ record no_marks { bad = true } ∷ no_marks ∷ no_marks ∷ no_marks ∷ no_marks ∷ no_marks ∷ no_marks ∷ no_marks ∷ no_marks ∷ no_marks ∷ [])
  pub entries : (program_of by_relocation lists).entries ≡ 0 ∷ 10 ∷ []
