-- The first frame section of an object, and that there is none.
use Rattle.std.proofs.Common.{◌≡◌, ℕ, ◌<◌, true, false, Some, None, length}
use Rattle.std.specs.Prelude.{All, bytes_eq, codes}
use Rattle.std.proofs.lemmas.Bool.{or_parts}
use Rattle.elf_objects.specs.Elf.{Elf, SectionEntry}
use Rattle.elf_objects.specs.Contents.{section_at}
use Rattle.orc_output.proofs.FirstNamed.{differs, each_other, first_named, none_named}
use Rattle.eh_frame.specs.FrameOutput.{IsOther, first_frame, is_frame_name}

pub first_is : (o : Elf) (i : ℕ) → i < length o.sections → is_frame_name (section_at o i).name ≡ true → ((k : ℕ) → k < i → is_frame_name (section_at o k).name ≡ false) → first_frame o ≡ Some i
unfolding first_frame
first_is o i inside here before = first_named is_frame_name o i inside here before

pub none_is : (o : Elf) → ((k : ℕ) → k < length o.sections → is_frame_name (section_at o k).name ≡ false) → first_frame o ≡ None
unfolding first_frame
none_is o none = none_named is_frame_name o none

is_other : (s : SectionEntry) → is_frame_name s.name ≡ false → IsOther s
is_other s other =
    let parts = or_parts (bytes_eq s.name (codes ".eh_frame")) _ other in
    record { frame = differs s.name (codes ".eh_frame") parts.0; rela = differs s.name (codes ".rela.eh_frame") parts.1 }

pub all_other : (o : Elf) → ((k : ℕ) → k < length o.sections → is_frame_name (section_at o k).name ≡ false) → All IsOther o.sections
all_other o none = each_other IsOther is_frame_name is_other o none
