-- How many entries the special sections of an object have.
use Rattle.std.specs.Prelude.{◌<◌, ◌^◌, length}
use Rattle.special_sections.specs.Special.{SpecialEntries}

-- the entries of each list have numbers of 32 bits
pub record AreFew (s : SpecialEntries) : Type 0 where
  pub branches : length s.branches < 2 ^ 32
  pub fixes : length s.fixes < 2 ^ 32
  pub hints : length s.hints < 2 ^ 32
  pub after_reachable : length s.after_reachable < 2 ^ 32
  pub after_unreachable : length s.after_unreachable < 2 ^ 32
  pub unchecked : length s.unchecked < 2 ^ 32
  pub safe_branches : length s.safe_branches < 2 ^ 32
  pub intra_calls : length s.intra_calls < 2 ^ 32
