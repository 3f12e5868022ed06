-- The bodies of relocations, section by section.
use Rattle.std.specs.Prelude.{◌≡◌, ◌<◌, ℕ, List, [], get_or, length}
use Rattle.std.specs.List.{flat_map}
use Rattle.demo_objects.specs.declared.spec.RelSpec.{RelSpec}
use Rattle.demo_objects.specs.Made.{reloc_bytes, relocs_for}

-- for each number below count, the bytes of the relocations of the section with that number
pub record AreRelocBodies (relocs : List RelSpec) (count : ℕ) (bodies : List (List ℕ)) : Type 0 where
  pub size : length bodies ≡ count
  pub each : (k : ℕ) → k < count → get_or bodies k [] ≡ flat_map reloc_bytes (relocs_for relocs k)
