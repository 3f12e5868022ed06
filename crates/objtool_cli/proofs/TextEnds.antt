-- What follows from how `explain`, `--help` and `--version` end.
use Rattle.std.proofs.Common.{◌≡◌, ℕ, List, refl, subst, inl, inr}
use Rattle.std.specs.Prelude.{Ok, true, false}
use Rattle.command_base.specs.declared.status.Status.{Status}
use Rattle.command_base.specs.declared.status.Status.TheVariants.{Done}
use Rattle.command_base.specs.declared.status.Status.TheVariants as status
use Rattle.command_base.specs.declared.stop.CommandStop.TheVariants as stop
use Rattle.command_base.specs.Outside.{Outside, Output}
use Rattle.command_base.specs.Printing.{Concludes, Prints, silent, tells}
use Rattle.objtool_cli.specs.Command.{Ends, EndsAs}
use Rattle.cli_words.specs.Grammar.{Command, cfa, cfi, check, demo, dump, entry, explain, find, help, list, merge, show, sites, unwind, version}
use Rattle.command_base.proofs.PrintLemmas.{nothing_printed}
use Rattle.objtool_cli.specs.Words.{Meaning, is_told, told_text}
use Rattle.objtool_cli.proofs.SameCommand.{ends_as, not_both}

printed_nothing : (text : List ℕ) (out out' : Output) (x : Status) → Concludes stop.NoMemory out out' x → Prints Done text out out' x
printed_nothing text out out' x (tells some t) = absurd (some refl)
printed_nothing text out out' status.NoMemory (silent is same) = nothing_printed Done text out out' same

text_of : (c : Command) (before after : Outside) (out out' : Output) (x : Status) → EndsAs c before after out out' x → is_told c ≡ true → Prints Done (told_text c) out out' x
text_of help before after out out' x h told = h.1
text_of version before after out out' x h told = h.1
text_of (check i o os ns) before after out out' x h told = absurd (not_both false told refl)
text_of (dump file) before after out out' x h told = absurd (not_both false told refl)
text_of (unwind file image) before after out out' x h told = absurd (not_both false told refl)
text_of (sites i o op m ns) before after out out' x h told = absurd (not_both false told refl)
text_of (list file) before after out out' x h told = absurd (not_both false told refl)
text_of (entry input rules map names) before after out out' x h told = absurd (not_both false told refl)
text_of (cfi i o m ns) before after out out' x h told = absurd (not_both false told refl)
text_of (cfa file) before after out out' x h told = absurd (not_both false told refl)
text_of (merge layout output) before after out out' x h told = absurd (not_both false told refl)
text_of (find table address) before after out out' x h told = absurd (not_both false told refl)
text_of (show input function map names) before after out out' x h told = absurd (not_both false told refl)
text_of (explain topic) before after out out' x h told = h.1
text_of (demo n) before after out out' x h told = absurd (not_both false told refl)

-- words that ask for a text of the program end with it
pub text_shown : (meaning : Meaning) (before after : Outside) (out out' : Output) (x : Status) (c : Command) → Ends meaning before after out out' x → meaning ≡ Ok c → is_told c ≡ true → Prints Done (told_text c) out out' x
text_shown meaning before after out out' x c ends p told = elim (ends_as c meaning before after out out' x ends p) [
  | inl h ↦ text_of c before after out out' x h told
  | inr none ↦ printed_nothing (told_text c) out out' x none.1
]

-- what was printed is the same text
pub text_is : (one other : List ℕ) (out out' : Output) (x : Status) → one ≡ other → Prints Done one out out' x → Prints Done other out out' x
text_is one other out out' x same printed = subst (λ (text : List ℕ). Prints Done text out out' x) same printed
