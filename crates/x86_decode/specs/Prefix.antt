-- The legacy prefixes (SDM, volume 2, section 2.1.1).
use Rattle.std.specs.Prelude.{ℕ, Bool, ◌||◌, ◌==◌, List, [], ◌∷◌, Option}
use Rattle.std.specs.List.{list_any}
use Rattle.x86_map.specs.Row.{one_of}
use Rattle.x86_map.specs.declared.map.Map.{Map}
use Rattle.x86_map.specs.declared.vector.Vector.{Vector}
use Rattle.x86_map.specs.declared.prefixes.Prefixes.{Prefixes}

-- operand size, address size, segment overrides, LOCK, REPNE and REP
abbrev pub is_legacy : ℕ → Bool
is_legacy = one_of (0x66 ∷ 0x67 ∷ 0x2E ∷ 0x36 ∷ 0x3E ∷ 0x26 ∷ 0x64 ∷ 0x65 ∷ 0xF0 ∷ 0xF2 ∷ 0xF3 ∷ [])

abbrev pub has : ℕ → List ℕ → Bool
has prefix legacy = list_any (λ b. b == prefix) legacy

-- what this map asks of legacy prefixes, in whatever number and order, of a REX and of VEX or EVEX
abbrev pub prefixes_of : Map → List ℕ → Option ℕ → Option Vector → Prefixes
prefixes_of map legacy rex vector = record {
  map = map;
  has_66 = has 0x66 legacy;
  has_67 = has 0x67 legacy;
  has_f3 = has 0xF3 legacy;
  has_f2 = has 0xF2 legacy;
  has_f0 = has 0xF0 legacy;
  has_fs_gs = has 0x64 legacy || has 0x65 legacy;
  rex = rex;
  vector = vector;
}
