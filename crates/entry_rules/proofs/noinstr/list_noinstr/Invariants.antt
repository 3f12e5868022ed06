use Rattle.std.proofs.Common.{◌≡◌, ◌<◌, ℕ, false, get_or, length}
use Rattle.elf_objects.specs.Contents.{section_at}
use Rattle.entry_rules.specs.ObjectFacts.{is_noinstr_section}
use Rattle.entry_rules.proofs.noinstr.list_noinstr.Given as goal

abbrev pub invariant-loop-sec : goal.invariant-loop-sec
invariant-loop-sec l = record {
  long : length l.flags.items ≡ l.sec;
  told : (k : ℕ) → k < l.sec → get_or l.flags.items k false ≡ is_noinstr_section (section_at l.object k);
}
