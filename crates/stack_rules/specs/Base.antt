-- When the rows of two live states find the frame's top alike.
use Rattle.std.specs.Prelude.{◌≡◌, Option, ℤ}
use Rattle.state_defs.specs.declared.state.Depth.{Depth}
use Rattle.state_defs.specs.Row.{sp_reg_of, sp_offset_of}

-- they count it from the same register, and by the same number
abbrev pub HaveSameBase : Depth → Option ℤ → Depth → Option ℤ → Type 0
HaveSameBase depth fp other_depth other_fp =
    (sp_reg_of fp ≡ sp_reg_of other_fp) × (sp_offset_of depth fp ≡ sp_offset_of other_depth other_fp)
