-- Runs of no-ops in sites, and hints where sites start.
use Rattle.std.specs.Prelude.{◌≡◌, true, false, [], ◌∷◌, ◌++◌, Some, None, codes}
use Rattle.ot_base.specs.NameLists.{NameLists}
use Rattle.state_defs.specs.declared.state.HintState.TheVariants.{Save, Set}
use Rattle.state_defs.specs.declared.state.EndKind.TheVariants.{EndOfStack}
use Rattle.state_defs.specs.declared.state.State.TheVariants.{Ended}
use Rattle.state_defs.specs.State.{initial}
use Rattle.machine_defs.specs.declared.flow.EdgeKind.TheVariants.{Next, Taken}
use Rattle.machine_defs.specs.Program.{edge}
use Rattle.flow_defs.specs.Coded.{Coded}
use Rattle.flow_defs.specs.Program.{program_of}
use Rattle.flow_defs.specs.WorkedFields.{of_points}
use Rattle.flow_defs.specs.WorkedObjects.{code_section, data_section, edges_of_points, for_section, function_symbol, object, pair_at, reloc, zeros}

-- f is a no-op, two more that stand in a site, a conditional jump to the second of these at the end of the site, another no-op and
-- a return. The replacement is a no-op of 4 bytes.
abbrev pub no_ops : Coded
no_ops = object
    (code_section (codes ".text") 7 (0x90 ∷ 0x90 ∷ 0x90 ∷ 0x75 ∷ 0xFD ∷ 0x90 ∷ 0xC3 ∷ [])
    ∷ code_section (codes ".altinstr_replacement") 4 (0x0F ∷ 0x1F ∷ 0x40 ∷ 0 ∷ [])
    ∷ data_section (codes ".altinstructions") 14 (zeros 12 ++ 4 ∷ 4 ∷ [])
    ∷ [])
    (for_section 1 ∷ for_section 2 ∷ function_symbol (codes "f") 1 0 7 ∷ [])
    ([] ∷ [] ∷ pair_at 0 1 1 2 0 ∷ [])

-- Points 0 to 5 are the instructions of f, 7 is the replacement. Control goes from the first no-op of the site behind the second,
-- to which the jump goes; outside the site each no-op is one by itself.
pub record HasNoOps (lists : NameLists) : Type 0 where
  pub edges : edges_of_points (program_of no_ops lists)
      ≡ ((edge 1 Next ∷ edge 7 Next ∷ []) ∷ (edge 3 Next ∷ []) ∷ (edge 3 Next ∷ []) ∷ (edge 4 Next ∷ edge 2 Taken ∷ []) ∷ (edge 5 Next ∷ []) ∷ [] ∷ [] ∷ (edge 4 Next ∷ []) ∷ [])

-- f is three no-ops, each a site of its own, and a return. At the first stands a SAVE, at the others FUNC hints. The replacements are
-- a no-op, nothing but padding, and a no-op with an END_OF_STACK hint of its own.
abbrev pub hinted_sites : Coded
hinted_sites = object
    (code_section (codes ".text") 4 (0x90 ∷ 0x90 ∷ 0x90 ∷ 0xC3 ∷ [])
    ∷ code_section (codes ".altinstr_replacement") 2 (0x90 ∷ 0x90 ∷ [])
    ∷ data_section (codes ".altinstructions") 42 (zeros 12 ++ 1 ∷ 1 ∷ zeros 12 ++ 1 ∷ 0 ∷ zeros 12 ++ 1 ∷ 1 ∷ [])
    ∷ data_section (codes ".discard.unwind_hints") 48 (zeros 7 ++ 6 ∷ zeros 11 ++ 5 ∷ zeros 11 ++ 5 ∷ zeros 11 ++ 1 ∷ zeros 4)
    ∷ [])
    (for_section 1 ∷ for_section 2 ∷ function_symbol (codes "f") 1 0 4 ∷ [])
    ([] ∷ []
    ∷ (pair_at 0 1 0 2 0 ++ pair_at 14 1 1 2 1 ++ pair_at 28 1 2 2 1)
    ∷ (reloc 0 2 1 0 ∷ reloc 12 2 1 1 ∷ reloc 24 2 1 2 ∷ reloc 36 2 2 1 ∷ [])
    ∷ [])

-- Points 0 to 3 are the instructions of f, 4 and 6 the replacements' bytes as code of their own; 5, 7 and 8 are the replacements.
-- The padding, 7, has the hint of its site; the SAVE counts for no replacement, and 8 has a hint of its own.
pub record HasHintedSites (lists : NameLists) : Type 0 where
  pub hints : of_points (program_of hinted_sites lists) (program_of hinted_sites lists).hint
      ≡ Some Save ∷ Some (Set initial) ∷ Some (Set initial) ∷ None ∷ None ∷ None ∷ Some (Set (Ended EndOfStack)) ∷ Some (Set initial) ∷ Some (Set (Ended EndOfStack)) ∷ []
  pub own_hints : of_points (program_of hinted_sites lists) (program_of hinted_sites lists).own_hint
      ≡ true ∷ true ∷ true ∷ false ∷ false ∷ false ∷ true ∷ false ∷ true ∷ []
