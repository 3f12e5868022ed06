use Rattle.std.proofs.Common.{Bool, ◌∙◌, refl, sym, subst}
use Rattle.std.proofs.lemmas.List.Elements.{All-set}
use Rattle.x86_text.specs.Known.{IsLongSpelling, IsSpelling}
use Rattle.x86_text.proofs.KnownLemmas.{known_now, long_known_now}
use Rattle.x86_text.proofs.known.Known.note.Goals as goal

pub returns-then-place-len : goal.returns-then-place-len
returns-then-place-len c = λ kinds known at stands. record {
  short = All-set (IsSpelling c.args.self.now.map kinds) c.args.self.now.spellings.items _ _
      (subst (λ (j : Bool). IsSpelling c.args.self.now.map kinds (record { front = c.in-Some-upper_of.front; number = c.args.number; len = c.args.insn.len; may_jump = j })) (sym c.may_use_table.ensures)
      (known_now c.args.self.now.map kinds c.args.bytes.now c.in-Some.first c.in-Some-upper_of.front c.args.insn.len c.in-Some.ensures c.in-Some-upper_of.ensures.1 c.in-Some-upper_of.ensures.2 c.args.insn c.args.number (sym c.is_told_alone.ensures ∙ c.if-not-is_told_alone.false) at refl stands))
      known.short;
  long = known.long;
}

pub returns-then-place-len-2 : goal.returns-then-place-len-2
returns-then-place-len-2 c = λ kinds known at stands. record {
  short = known.short;
  long = All-set (IsLongSpelling c.args.self.now.map kinds) c.args.self.now.long.items _ _
      (long_known_now c.args.self.now.map kinds c.args.bytes.now c.in-Some.first c.in-Some-last_eight.back c.args.insn.len c.in-Some-last_eight.ensures.0 c.in-Some-last_eight.ensures.1 c.in-Some.ensures c.in-Some-last_eight.ensures.2 c.args.insn c.args.number (sym c.is_told_alone.ensures ∙ c.if-not-is_told_alone.false) at refl stands)
      known.long;
}
