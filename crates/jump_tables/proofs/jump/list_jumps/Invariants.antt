use Rattle.std.proofs.Common.{◌≡◌, ℕ, ◌<◌, get_or, take}
use Rattle.x86_text.specs.Code.{code_of}
use Rattle.alternatives.specs.declared.texts.SectionText.{SectionText}
use Rattle.jump_tables.specs.Jumps.{jumps_in, IsAscending}
use Rattle.jump_tables.proofs.jump.list_jumps.Given as goal

abbrev pub invariant-loop-text : goal.invariant-loop-text
invariant-loop-text l = record {
  list : l.jumps.items ≡ jumps_in l.code.index.now.elf l.code.texts.now l.code.sites.now.entries (take l.text-index l.code.texts.now);
  ascending : (k : ℕ) (d : SectionText) → k < l.text-index → IsAscending (code_of (get_or l.code.texts.now k d).text);
}
