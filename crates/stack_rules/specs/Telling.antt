-- Instructions that rule 14 tells where they aren't reached.
use Rattle.std.specs.Prelude.{◌≡◌, ℕ, false, None}
use Rattle.ot_base.specs.declared.options.Options.{Options}
use Rattle.machine_defs.specs.Program.{Program}
use Rattle.machine_defs.specs.Broken.{IsInPartOfHole, is_filler, is_hole}

-- the point is an instruction of a checked function, or of none where patching alone doesn't lead, and no padding; in no hole, nor in
-- a part to which one leads
pub record IsTelling (p : Program) (options : Options) (q : ℕ) : Type 0 where
  pub plain : p.variant q ≡ 0
  pub checked : p.unchecked q ≡ false
  pub reachable : p.owner q ≡ None → p.in_patches q ≡ false
  pub covered : is_hole p options q ≡ false
  pub apart : IsInPartOfHole p options q → ⊥
  pub telling : is_filler (p.insn q).op ≡ false
