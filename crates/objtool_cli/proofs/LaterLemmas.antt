-- What stands after a command, from what stands after it read its input: reading changes no content, and no count of
-- faults falls.
use Rattle.std.proofs.Common.{◌≡◌, ℕ, ◌≤◌, List, subst, arith}
use Rattle.std.specs.Prelude.{Option}
use Rattle.elf_objects.specs.declared.TheConstants.{MAX_FILE_BYTES}
use Rattle.ot_files.specs.Content.{Content}
use Rattle.command_base.specs.declared.stop.CommandStop.{CommandStop}
use Rattle.command_base.specs.Outside.{Outside, Output}
use Rattle.command_base.specs.declared.status.Status.{Status}
use Rattle.command_base.specs.declared.status.Status.TheVariants as status
use Rattle.cli_words.specs.declared.options.CheckOptions.{CheckOptions}
use Rattle.objtool_cli.specs.Command.{EndsCheck, IsDone, Stops, done, refused, stopped, unread, unwritten, warned, without_names}
use Rattle.command_base.specs.Names.{StopsAtNames}
use Rattle.command_base.proofs.Stops.{names_earlier, outside, read_earlier, write_earlier}

pub later_still : (a b c : ℕ) → a ≤ b → b ≤ c → a ≤ c
later_still a b c h k = omega arith

-- fewer faults at the beginning
done_earlier : (input output : List ℕ) (options : CheckOptions) (names : Option (List ℕ)) (content : Option Content) (before middle : ℕ) (after : Outside) → IsDone input output options names (outside content middle) after → IsDone input output options names (outside content before) after
done_earlier input output options names content before middle after d = record { table = d.table; accepted = d.accepted; written = d.written; unwinds = d.unwinds; keeps = d.keeps }

stops_earlier : (s : CommandStop) (input output : List ℕ) (options : CheckOptions) (names : Option (List ℕ)) (content : Option Content) (before middle : ℕ) (after : Outside) → before ≤ middle → Stops input output options names (outside content middle) after s → Stops input output options names (outside content before) after s
stops_earlier s input output options names content before middle after later (unread h kept) = unread (read_earlier MAX_FILE_BYTES s input content before middle after later h) kept
stops_earlier s input output options names content before middle after later (without_names read may h kept) = without_names read may (names_earlier s names content before middle after later h) kept
stops_earlier s input output options names content before middle after later (refused read lists is h kept) = refused read lists is h kept
stops_earlier s input output options names content before middle after later (unwritten table accepted h others) = unwritten table accepted (write_earlier s output content before middle after later h) others

ends_earlier : (input output : List ℕ) (options : CheckOptions) (names : Option (List ℕ)) (content : Option Content) (before middle : ℕ) (after : Outside) (out out' : Output) (x : Status) → before ≤ middle → EndsCheck input output options names (outside content middle) after out out' x → EndsCheck input output options names (outside content before) after out out' x
ends_earlier input output options names content before middle after out out' status.Done later (done d same) = done (done_earlier input output options names content before middle after d) same
ends_earlier input output options names content before middle after out out' x later (warned o warnings is kept t) = warned o warnings is kept t
ends_earlier input output options names content before middle after out out' x later (stopped s h t) = stopped s (stops_earlier s input output options names content before middle after later h) t

pub ends_later : (input output : List ℕ) (options : CheckOptions) (names : Option (List ℕ)) (content middle : Option Content) (before faults : ℕ) (after : Outside) (out out' : Output) (x : Status) → middle ≡ content → before ≤ faults → EndsCheck input output options names (outside middle faults) after out out' x → EndsCheck input output options names (outside content before) after out out' x
ends_later input output options names content middle before faults after out out' x same later h = ends_earlier input output options names content before faults after out out' x later (subst (λ (c : Option Content). EndsCheck input output options names (outside c faults) after out out' x) same h)

pub names_later : (s : CommandStop) (names : Option (List ℕ)) (content middle : Option Content) (before faults : ℕ) (after : Outside) → middle ≡ content → before ≤ faults → StopsAtNames names (outside middle faults) after s → StopsAtNames names (outside content before) after s
names_later s names content middle before faults after same later h = names_earlier s names content before faults after later (subst (λ (c : Option Content). StopsAtNames names (outside c faults) after s) same h)
