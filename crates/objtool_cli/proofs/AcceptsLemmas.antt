-- An input that is accepted is refused by no stop, and one whose program breaks a rule is neither refused nor done.
use Rattle.std.proofs.Common.{◌≡◌, ℕ, ◌<◌, ◌≤◌, List, refl, subst, arith, inl, inr}
use Rattle.std.specs.Prelude.{◌⊎◌, Some, Option, Ok}
use Rattle.elf_objects.specs.Elf.{Elf}
use Rattle.elf_objects.specs.Object.{IsObject}
use Rattle.elf_objects.specs.declared.TheConstants.{MAX_FILE_BYTES, MAX_SYMBOLS}
use Rattle.ot_files.specs.Content.{Content, reading}
use Rattle.command_base.specs.declared.status.Status.{Status}
use Rattle.command_base.specs.declared.status.Status.TheVariants as status
use Rattle.command_base.specs.declared.refusal.Refusal.{Refusal}
use Rattle.command_base.specs.declared.stop.CommandStop.{CommandStop}
use Rattle.command_base.specs.declared.stop.CommandStop.TheVariants as stop
use Rattle.command_base.specs.Outside.{Outside, Output}
use Rattle.command_base.specs.Printing.{Concludes, Prints, fails, fault_stays, runs_out, whole}
use Rattle.command_base.proofs.ConcludeLemmas.{concluded_no_memory}
use Rattle.objtool_cli.specs.Checked.{Accepts, BreaksRule, HasWarnings, IsRefusal, Refuses, crowded, uncheckable}
use Rattle.objtool_cli.specs.Command.{Ends, EndsCheck, Stops, done, refused, stopped, unread, unwritten, warned, without_names}
use Rattle.command_base.specs.Names.{HasNames}
use Rattle.cli_words.specs.Grammar.{check}
use Rattle.cli_words.specs.declared.options.CheckOptions.{CheckOptions}
use Rattle.ot_base.specs.declared.row.PlacedRow.{PlacedRow}
use Rattle.ot_base.specs.declared.warning.Warning.{Warning}
use Rattle.ot_base.specs.NameLists.{NameLists}
use Rattle.objtool_cli.specs.Words.{Meaning}
use Rattle.x86_decode.specs.Decoding.{OneOutcome}
use Rattle.flow_defs.specs.Coded.{coded_by}
use Rattle.flow_defs.specs.Program.{program_of}
use Rattle.object_check.specs.Allowances.{allowances_of}
use Rattle.object_check.specs.Outcome.{HasRows, IsUnbroken}
use Rattle.orc_output.specs.Tables.{symbols_needed}
use Rattle.command_base.proofs.DumpLaws.{one_object, unread_told}
use Rattle.objtool_cli.proofs.CheckableLemmas.{checkable_unrefused, one_rows, some_contained}
use Rattle.command_base.proofs.InputLemmas.{IsKnown, one_reading}
use Rattle.objtool_cli.proofs.SameCommand.{ends_as}
use Rattle.command_base.proofs.Stops.{names_told, write_told}

-- ---- what is known of the bytes

-- the bytes are refused in no way
abbrev pub IsUnrefused : List ℕ → NameLists → CheckOptions → Type 0
IsUnrefused bytes lists options = (told : Refusal) → Refuses bytes lists options told → ⊥

pub accepted_unrefused : OneOutcome → (bytes table : List ℕ) (lists : NameLists) (options : CheckOptions) → Accepts bytes lists options table → IsUnrefused bytes lists options
accepted_unrefused one bytes table lists options accepts told (uncheckable why) = checkable_unrefused one options.map bytes lists accepts.object told accepts.is accepts.checkable why
accepted_unrefused one bytes table lists options accepts told (crowded o others is checkable unbroken has many count) =
    let same = one_object bytes o accepts.object is accepts.is in
    let rows = one_rows (program_of (coded_by options.map accepts.object) lists) others accepts.rows (subst (λ (x : Elf). HasRows (program_of (coded_by options.map x) lists) others) same has) accepts.has_rows in
    let needed : MAX_SYMBOLS < symbols_needed accepts.object accepts.rows = subst (λ (rs : List PlacedRow). MAX_SYMBOLS < symbols_needed accepts.object rs) rows (subst (λ (x : Elf). MAX_SYMBOLS < symbols_needed x others) same many) in
    let few : symbols_needed accepts.object accepts.rows ≤ MAX_SYMBOLS = accepts.table_is.few in
    absurd (omega (arith, needed, few))

pub breaks_unbroken : (bytes : List ℕ) (lists : NameLists) (options : CheckOptions) (o : Elf) → BreaksRule bytes lists options → IsObject bytes o → IsUnbroken (program_of (coded_by options.map o) lists) (allowances_of (coded_by options.map o) lists options.rules) options.rules → ⊥
breaks_unbroken bytes lists options o breaks is unbroken =
    let same = one_object bytes o breaks.object is breaks.is in
    (subst (λ (x : Elf). IsUnbroken (program_of (coded_by options.map x) lists) (allowances_of (coded_by options.map x) lists options.rules) options.rules) same unbroken).clean breaks.place breaks.rule breaks.a breaks.b breaks.broken

pub broken_unrefused : OneOutcome → (bytes : List ℕ) (lists : NameLists) (options : CheckOptions) → BreaksRule bytes lists options → IsUnrefused bytes lists options
broken_unrefused one bytes lists options breaks told (uncheckable why) = checkable_unrefused one options.map bytes lists breaks.object told breaks.is breaks.checkable why
broken_unrefused one bytes lists options breaks told (crowded o others is checkable unbroken has many count) = breaks_unbroken bytes lists options o breaks is unbroken

-- where there are warnings a rule is broken
pub warns_breaks : (bytes : List ℕ) (lists : NameLists) (options : CheckOptions) (o : Elf) (warnings : List Warning) → HasWarnings bytes lists options o warnings → BreaksRule bytes lists options
warns_breaks bytes lists options o warnings warns =
    let first = some_contained warnings warns.are.some in
    record {
      object = o;
      is = warns.is;
      checkable = warns.checkable;
      place = first.0.place;
      rule = first.0.rule;
      a = first.0.a;
      b = first.0.b;
      broken = (warns.are.all first.0).0 first.1;
    }

-- what is accepted has no warnings
accepted_unwarned : (bytes table : List ℕ) (lists : NameLists) (options : CheckOptions) (o : Elf) (warnings : List Warning) → Accepts bytes lists options table → HasWarnings bytes lists options o warnings → ⊥
accepted_unwarned bytes table lists options o warnings accepts warns = breaks_unbroken bytes lists options accepts.object (warns_breaks bytes lists options o warnings warns) accepts.is accepts.unbroken

-- ---- what stops it

-- a file's fault, or want of memory
abbrev Faults : Status → Type 0
Faults x = (x ≡ status.FileFault) ⊎ (x ≡ status.NoMemory)

-- bytes that are refused in no way are stopped by want of memory alone
pub refused_memory : (s : CommandStop) (read : List ℕ) (lists : NameLists) (options : CheckOptions) → IsUnrefused read lists options → IsRefusal read lists options s → s ≡ stop.NoMemory
refused_memory (stop.Refused told) read lists options never h = absurd (never told h)
refused_memory (stop.Usage usage) read lists options never h = absurd h
refused_memory (stop.PartMissing part file) read lists options never h = absurd h
refused_memory (stop.PartTooLong part file limit) read lists options never h = absurd h
refused_memory (stop.PartRefused part refusal) read lists options never h = absurd h
refused_memory (stop.Missing told) read lists options never h = absurd h
refused_memory (stop.TooLong told limit) read lists options never h = absurd h
refused_memory (stop.FileFault told) read lists options never h = absurd h
refused_memory stop.NoMemory read lists options never h = refl

-- where the bytes are refused in no way, only faults and want of memory stop the command
stop_faults : (s : CommandStop) (input output : List ℕ) (options : CheckOptions) (names : Option (List ℕ)) (read : List ℕ) (lists : NameLists) (before after : Outside) (out out' : Output) (x : Status) → IsKnown before input names read lists → IsUnrefused read lists options → Stops input output options names before after s → Concludes s out out' x → Faults x
stop_faults s input output options names read lists before after out out' x known never (unread h kept) t = unread_told MAX_FILE_BYTES s input read known.held before after out out' x known.told known.is h t
stop_faults s input output options names read lists before after out out' x known never (without_names other may h kept) t = names_told s names lists known.held before after out out' x known.told known.named h t
stop_faults s input output options names read lists before after out out' x known never (refused other others is h kept) t =
    let none = refused_memory s read lists options never (one_reading (λ b l. IsRefusal b l options s) before input names read other lists others known is h) in
    inr (concluded_no_memory out out' x (subst (λ (u : CommandStop). Concludes u out out' x) none t))
stop_faults s input output options names read lists before after out out' x known never (unwritten table accepted h others) t = write_told s output before after out out' x h t

-- ---- how `check` ends

-- words that ask for `check` end as it does, or for want of memory
pub ends_as_check : (meaning : Meaning) (input output : List ℕ) (options : CheckOptions) (names : Option (List ℕ)) (before after : Outside) (out out' : Output) (x : Status) → meaning ≡ Ok (check input output options names) → Ends meaning before after out out' x → EndsCheck input output options names before after out out' x ⊎ (x ≡ status.NoMemory)
ends_as_check meaning input output options names before after out out' x n ends = elim (ends_as (check input output options names) meaning before after out out' x ends n) [
  | inl h ↦ inl h
  | inr none ↦ inr (concluded_no_memory out out' x none.1)
]

-- ---- what is accepted

abbrev Left : Status → Type 0
Left x = (x ≡ status.Done) ⊎ Faults x

left_by_check : OneOutcome → (input output : List ℕ) (options : CheckOptions) (names : Option (List ℕ)) (read table : List ℕ) (lists : NameLists) (before after : Outside) (out out' : Output) (x : Status) → IsKnown before input names read lists → Accepts read lists options table → EndsCheck input output options names before after out out' x → Left x
left_by_check one input output options names read table lists before after out out' status.Done known accepts (done d same) = inl refl
left_by_check one input output options names read table lists before after out out' x known accepts (warned o warnings is kept t) =
    absurd (accepted_unwarned read table lists options o warnings accepts (one_reading (λ b l. HasWarnings b l options o warnings) before input names read is.read lists is.lists known is.is_read is.warns))
left_by_check one input output options names read table lists before after out out' x known accepts (stopped s h t) =
    inr (stop_faults s input output options names read lists before after out out' x known (accepted_unrefused one read table lists options accepts) h t)

pub left : OneOutcome → (meaning : Meaning) (input output : List ℕ) (options : CheckOptions) (names : Option (List ℕ)) (read table : List ℕ) (lists : NameLists) (held : Content) (before after : Outside) (out out' : Output) (x : Status) → meaning ≡ Ok (check input output options names) → before.content ≡ Some held → reading held input MAX_FILE_BYTES ≡ Ok read → HasNames (Some held) names lists → Accepts read lists options table → Ends meaning before after out out' x → Left x
left one meaning input output options names read table lists held before after out out' x n told is named accepts ends = elim (ends_as_check meaning input output options names before after out out' x n ends) [
  | inl h ↦ left_by_check one input output options names read table lists before after out out' x (record { held = held; told = told; is = is; named = named }) accepts h
  | inr none ↦ inr (inr none)
]

-- ---- what breaks a rule

abbrev Warned : Status → Type 0
Warned x = (x ≡ status.Warnings) ⊎ ((x ≡ status.FileFault) ⊎ ((x ≡ status.SinkFault) ⊎ (x ≡ status.NoMemory)))

faults_warned : (x : Status) → Faults x → Warned x
faults_warned x (inl e) = inr (inl e)
faults_warned x (inr e) = inr (inr (inr e))

text_warned : (text : List ℕ) (out out' : Output) (x : Status) → Prints status.Warnings text out out' x → Warned x
text_warned text out out' x (whole at all) = inl at
text_warned text out out' status.FileFault (fault_stays prefix rose at) = inr (inl refl)
text_warned text out out' status.SinkFault (fails prefix rose other) = inr (inr (inl refl))
text_warned text out out' status.NoMemory (runs_out prefix) = inr (inr (inr refl))

warned_by_check : OneOutcome → (input output : List ℕ) (options : CheckOptions) (names : Option (List ℕ)) (read : List ℕ) (lists : NameLists) (before after : Outside) (out out' : Output) (x : Status) → IsKnown before input names read lists → BreaksRule read lists options → EndsCheck input output options names before after out out' x → Warned x
warned_by_check one input output options names read lists before after out out' status.Done known breaks (done d same) =
    let accepts : Accepts read lists options d.table = one_reading (λ b l. Accepts b l options d.table) before input names read d.accepted.read lists d.accepted.lists known d.accepted.is_read d.accepted.accepts in
    absurd (breaks_unbroken read lists options accepts.object breaks accepts.is accepts.unbroken)
warned_by_check one input output options names read lists before after out out' x known breaks (warned o warnings is kept t) = text_warned _ out out' x t
warned_by_check one input output options names read lists before after out out' x known breaks (stopped s h t) =
    faults_warned x (stop_faults s input output options names read lists before after out out' x known (broken_unrefused one read lists options breaks) h t)

pub all_warned : OneOutcome → (meaning : Meaning) (input output : List ℕ) (options : CheckOptions) (names : Option (List ℕ)) (read : List ℕ) (lists : NameLists) (held : Content) (before after : Outside) (out out' : Output) (x : Status) → meaning ≡ Ok (check input output options names) → before.content ≡ Some held → reading held input MAX_FILE_BYTES ≡ Ok read → HasNames (Some held) names lists → BreaksRule read lists options → Ends meaning before after out out' x → Warned x
all_warned one meaning input output options names read lists held before after out out' x n told is named breaks ends = elim (ends_as_check meaning input output options names before after out out' x n ends) [
  | inl h ↦ warned_by_check one input output options names read lists before after out out' x (record { held = held; told = told; is = is; named = named }) breaks h
  | inr none ↦ inr (inr (inr none))
]
