-- Words mean one command, and end as it does, unless memory ran out while they were read.
use Rattle.std.proofs.Common.{◌≡◌, ℕ, List, sym, ap, ◌∙◌, subst, inl, inr}
use Rattle.std.specs.Prelude.{◌⊎◌, Option, Ok, Err, Bool, true, false}
use Rattle.command_base.specs.declared.status.Status.{Status}
use Rattle.command_base.specs.declared.status.Status.TheVariants.{Done}
use Rattle.command_base.specs.declared.stop.CommandStop.TheVariants as stop
use Rattle.command_base.specs.Outside.{Outside, Output}
use Rattle.command_base.specs.Printing.{Concludes}
use Rattle.objtool_cli.specs.Command.{Ends, EndsAs, ended, faulty, unfinished}
use Rattle.cli_words.specs.Grammar.{Command, check}
use Rattle.cli_words.specs.declared.fault.UsageKind.{UsageKind}
use Rattle.cli_words.specs.declared.options.CheckOptions.{CheckOptions}
use Rattle.objtool_cli.specs.Words.{Meaning}
use Rattle.objtool_cli.proofs.StatusLemmas.{unless_told}

pub same_command : (meaning : Meaning) (c d : Command) → meaning ≡ Ok c → meaning ≡ Ok d → c ≡ d
same_command meaning c d p q =
    let same : ◌≡◌ {A = Meaning} (Ok c) (Ok d) = sym p ∙ q in
    cc

pub no_fault_and_command : (meaning : Meaning) (word : ℕ) (kind : UsageKind) (c : Command) → meaning ≡ Err (word, kind) → meaning ≡ Ok c → ⊥
no_fault_and_command meaning word kind c p q =
    let same : ◌≡◌ {A = Meaning} (Err (word, kind)) (Ok c) = sym p ∙ q in
    cc

pub not_both : (b : Bool) → b ≡ true → b ≡ false → ⊥
not_both b p q = let same : true ≡ false = sym p ∙ q in cc

-- memory ran out while the words were read, and nothing else happened
abbrev pub RunsOut : Outside → Outside → Output → Output → Status → Type 0
RunsOut before after out out' x = (after ≡ before) × Concludes stop.NoMemory out out' x

pub ends_as : (c : Command) (meaning : Meaning) (before after : Outside) (out out' : Output) (x : Status) → Ends meaning before after out out' x → meaning ≡ Ok c → EndsAs c before after out out' x ⊎ RunsOut before after out out' x
ends_as c meaning before after out out' x (faulty word kind is same t) n = absurd (no_fault_and_command meaning word kind c is n)
ends_as c meaning before after out out' x (unfinished same t) n = inr (same, t)
ends_as c meaning before after out out' x (ended d is h) n = inl (subst (λ (e : Command). EndsAs e before after out out' x) (same_command meaning d c is n) h)

-- the same where it is done
pub done_as : (c : Command) (meaning : Meaning) (before after : Outside) (out out' : Output) (x : Status) → Ends meaning before after out out' x → x ≡ Done → meaning ≡ Ok c → EndsAs c before after out out' x
done_as c meaning before after out out' x ends e n = elim (ends_as c meaning before after out out' x ends n) [
  | inl h ↦ h
  | inr none ↦ absurd (unless_told _ out out' x none.1 e)
]

pub check_is : (i j o p : List ℕ) (options : CheckOptions) (names others : Option (List ℕ)) → i ≡ j → o ≡ p → names ≡ others → check i o options names ≡ check j p options others
check_is i j o p options names others a b c = cc

-- the end of one command is that of another that is the same
pub ends_of : (c d : Command) (before after : Outside) (out out' : Output) (x : Status) → c ≡ d → EndsAs c before after out out' x → Ends (Ok d) before after out out' x
ends_of c d before after out out' x same h = ended c (sym (ap Ok same)) h
