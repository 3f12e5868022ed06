-- A static branch into a cold part, an exception entry, and a jump table.
use Rattle.std.specs.Prelude.{◌≡◌, [], ◌∷◌, codes}
use Rattle.ot_base.specs.NameLists.{NameLists}
use Rattle.flow_defs.specs.Coded.{Coded}
use Rattle.machine_defs.specs.declared.flow.EdgeKind.TheVariants.{Next, Taken, Fixup, Table}
use Rattle.machine_defs.specs.declared.flow.Role.TheVariants.{Plain, Return, JumpAny}
use Rattle.machine_defs.specs.Program.{edge, no_marks}
use Rattle.flow_defs.specs.Program.{program_of}
use Rattle.flow_defs.specs.WorkedObjects.{code_section, data_section, edges_of_points, for_section, function_symbol, marks_of_points, object, pair_at, reloc, roles_of_points, zeros}

-- f is push, a no-op of 5 bytes, pop, ret; its cold part is a no-op and a jump back behind the static branch at the no-op
abbrev pub static_branch : Coded
static_branch = object
    (code_section (codes ".text") 8 (0x53 ∷ 0x0F ∷ 0x1F ∷ 0x44 ∷ 0 ∷ 0 ∷ 0x5B ∷ 0xC3 ∷ [])
    ∷ code_section (codes ".text.unlikely") 6 (0x90 ∷ 0xE9 ∷ zeros 4)
    ∷ data_section (codes "__jump_table") 16 (zeros 16)
    ∷ [])
    (for_section 1 ∷ for_section 2 ∷ function_symbol (codes "f") 1 0 8 ∷ function_symbol (codes "f.cold") 2 0 6 ∷ [])
    ([] ∷ (reloc 2 4 1 2 ∷ []) ∷ pair_at 0 1 1 2 0 ∷ [])

pub record HasStaticBranch (lists : NameLists) : Type 0 where
  pub edges : edges_of_points (program_of static_branch lists)
      ≡ ((edge 1 Next ∷ []) ∷ (edge 2 Next ∷ edge 4 Taken ∷ []) ∷ (edge 3 Next ∷ []) ∷ [] ∷ (edge 5 Next ∷ []) ∷ (edge 2 Taken ∷ []) ∷ [])
  pub roles : roles_of_points (program_of static_branch lists) ≡ (Plain ∷ Plain ∷ Plain ∷ Return ∷ Plain ∷ Plain ∷ [])
  pub marks : marks_of_points (program_of static_branch lists) ≡ (no_marks ∷ no_marks ∷ no_marks ∷ no_marks ∷ no_marks ∷ no_marks ∷ [])
  pub entries : (program_of static_branch lists).entries ≡ 0 ∷ []

-- f is push, a load that may fault, pop, ret; the fault goes on at the ret
abbrev pub exception_entry : Coded
exception_entry = object
    (code_section (codes ".text") 6 (0x53 ∷ 0x48 ∷ 0x8B ∷ 7 ∷ 0x5B ∷ 0xC3 ∷ []) ∷ data_section (codes "__ex_table") 12 (zeros 12) ∷ [])
    (for_section 1 ∷ function_symbol (codes "f") 1 0 6 ∷ [])
    ([] ∷ pair_at 0 1 1 1 5 ∷ [])

pub record HasExceptionEntry (lists : NameLists) : Type 0 where
  pub edges : edges_of_points (program_of exception_entry lists) ≡ ((edge 1 Next ∷ []) ∷ (edge 2 Next ∷ edge 3 Fixup ∷ []) ∷ (edge 3 Next ∷ []) ∷ [] ∷ [])
  pub marks : marks_of_points (program_of exception_entry lists) ≡ (no_marks ∷ no_marks ∷ no_marks ∷ no_marks ∷ [])

-- f jumps by a table of three returns; g's table would begin right behind, so the fourth address is none of f's
abbrev pub jump_table : Coded
jump_table = object
    (code_section (codes ".text") 18 (0xFF ∷ 0x24 ∷ 0xC5 ∷ 0 ∷ 0 ∷ 0 ∷ 0 ∷ 0xC3 ∷ 0xC3 ∷ 0xC3 ∷ 0xFF ∷ 0x24 ∷ 0xC5 ∷ 0 ∷ 0 ∷ 0 ∷ 0 ∷ 0xC3 ∷ [])
    ∷ data_section (codes ".rodata") 32 (zeros 32)
    ∷ [])
    (for_section 1 ∷ for_section 2 ∷ function_symbol (codes "f") 1 0 10 ∷ function_symbol (codes "g") 1 10 8 ∷ [])
    ((reloc 3 11 2 0 ∷ reloc 13 11 2 24 ∷ []) ∷ (reloc 0 1 1 7 ∷ reloc 8 1 1 8 ∷ reloc 16 1 1 9 ∷ reloc 24 1 1 9 ∷ []) ∷ [])

-- g's only address is one of f, so its jump goes anywhere
pub record HasJumpTable (lists : NameLists) : Type 0 where
  pub edges : edges_of_points (program_of jump_table lists) ≡ ((edge 1 Table ∷ edge 2 Table ∷ edge 3 Table ∷ []) ∷ [] ∷ [] ∷ [] ∷ [] ∷ [] ∷ [])
  pub roles : roles_of_points (program_of jump_table lists) ≡ (Plain ∷ Return ∷ Return ∷ Return ∷ JumpAny ∷ Return ∷ [])
  pub entries : (program_of jump_table lists).entries ≡ 0 ∷ 4 ∷ []
