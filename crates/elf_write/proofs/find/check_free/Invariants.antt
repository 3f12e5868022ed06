use Rattle.std.proofs.Common.{◌≡◌, ℕ, ◌<◌, None, slice_index}
use Rattle.elf_objects.specs.Contents.{section_symbol_of}
use Rattle.elf_write.proofs.find.check_free.Given as goal

abbrev pub invariant-loop-sec : goal.invariant-loop-sec
invariant-loop-sec l = (k : ℕ) → k < l.sec-index → section_symbol_of l.object (slice_index l.secs k) ≡ None
