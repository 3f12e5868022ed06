-- What holds of every image.
use Rattle.std.specs.Prelude.{◌≡◌, ℕ, List}
use Rattle.orc_walk.specs.Memory.{byte_at}
use Rattle.orc_walk.specs.Statements.{Said}
use Rattle.orc_walk.specs.ImageFile.{StackImage, IsSaid, pieces_in}

-- at each address an image has the byte that one of its lines says, in whatever order they stand, and else
-- none
abbrev pub MemoryIsSaid : Type 0
MemoryIsSaid = (all : List Said) (image : StackImage) (address : ℕ) → IsSaid all image → byte_at image.memory address ≡ byte_at (pieces_in all) address
