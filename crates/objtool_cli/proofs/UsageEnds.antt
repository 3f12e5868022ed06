-- What follows from how words at fault end.
use Rattle.std.proofs.Common.{◌≡◌, ℕ, List, refl, inl, inr}
use Rattle.std.specs.Prelude.{Err}
use Rattle.command_base.specs.declared.status.Status.{Status}
use Rattle.command_base.specs.declared.status.Status.TheVariants as status
use Rattle.command_base.specs.declared.stop.CommandStop.TheVariants as stop
use Rattle.command_base.specs.Outside.{Outside, Output}
use Rattle.command_base.specs.Printing.{Concludes, Prints, fails, fault_stays, runs_out, silent, tells, whole}
use Rattle.command_base.proofs.ConcludeLemmas.{concluded_no_memory}
use Rattle.objtool_cli.specs.Command.{Ends, IsFaulty, IsUsageAnswer, at_fault, ended, faulty, unfinished}
use Rattle.cli_words.specs.declared.fault.UsageKind.{UsageKind}
use Rattle.command_base.specs.declared.usage.Usage as declared
use Rattle.objtool_cli.specs.Words.{Meaning}
use Rattle.objtool_cli.proofs.SameCommand.{no_fault_and_command}

printed_usage : (text : List ℕ) (out out' : Output) (x : Status) → Prints status.Usage text out out' x → IsUsageAnswer x
printed_usage text out out' x (whole at all) = inl at
printed_usage text out out' status.FileFault (fault_stays prefix rose at) = let same : status.Usage ≡ status.FileFault = at in cc
printed_usage text out out' status.SinkFault (fails prefix rose other) = inr (inl refl)
printed_usage text out out' status.NoMemory (runs_out prefix) = inr (inr refl)

concluded_usage : (usage : declared.Usage) (out out' : Output) (x : Status) → Concludes (stop.Usage usage) out out' x → IsUsageAnswer x
concluded_usage usage out out' x (tells other t) = printed_usage _ out out' x t
concluded_usage usage out out' status.NoMemory (silent none same) = inr (inr refl)

memory_answered : (out out' : Output) (x : Status) → Concludes stop.NoMemory out out' x → IsUsageAnswer x
memory_answered out out' x t = inr (inr (concluded_no_memory out out' x t))

fault_answered : (meaning : Meaning) (word : ℕ) (kind : UsageKind) (before after : Outside) (out out' : Output) (x : Status) → meaning ≡ Err (word, kind) → Ends meaning before after out out' x → IsUsageAnswer x
fault_answered meaning word kind before after out out' x p (faulty at why is same t) = concluded_usage _ out out' x t
fault_answered meaning word kind before after out out' x p (unfinished same t) = memory_answered out out' x t
fault_answered meaning word kind before after out out' x p (ended command is h) = absurd (no_fault_and_command meaning word kind command p is)

pub usage_answered : (meaning : Meaning) (before after : Outside) (out out' : Output) (x : Status) → Ends meaning before after out out' x → IsFaulty meaning → IsUsageAnswer x
usage_answered meaning before after out out' x h (at_fault word kind p) = fault_answered meaning word kind before after out out' x p h
