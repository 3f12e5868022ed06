-- What follows from how `demo` ends.
use Rattle.std.proofs.Common.{◌≡◌, ℕ, inl, inr}
use Rattle.std.specs.Prelude.{Ok}
use Rattle.command_base.specs.declared.status.Status.{Status}
use Rattle.command_base.specs.declared.stop.CommandStop.TheVariants as stop
use Rattle.command_base.specs.Outside.{Outside, Output}
use Rattle.objtool_cli.specs.Command.{Ends}
use Rattle.objtool_cli.specs.Summary.{SumsUp, demo_bytes, demo_title, stopped as sums_stopped}
use Rattle.cli_words.specs.Grammar.{demo}
use Rattle.objtool_cli.specs.Words.{Meaning}
use Rattle.objtool_cli.proofs.SameCommand.{ends_as}

-- words that ask for `demo` end as it does
pub demo_sums_up : (meaning : Meaning) (before after : Outside) (out out' : Output) (x : Status) (n : ℕ) → Ends meaning before after out out' x → meaning ≡ Ok (demo n) → SumsUp (demo_title n) (demo_bytes n) out out' x
demo_sums_up meaning before after out out' x n ends p = elim (ends_as (demo n) meaning before after out out' x ends p) [
  | inl h ↦ h.1
  | inr none ↦ sums_stopped stop.NoMemory tt none.1
]
