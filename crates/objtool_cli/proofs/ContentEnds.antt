-- What a command leaves of the files.
use Rattle.std.proofs.Common.{◌≡◌, ℕ, List, refl, ap, inl, inr}
use Rattle.std.specs.Prelude.{◌≢◌, ◌⊎◌, Option, Ok}
use Rattle.command_base.specs.declared.status.Status.{Status}
use Rattle.command_base.specs.declared.status.Status.TheVariants.{Done, FileFault, NoMemory}
use Rattle.command_base.specs.declared.stop.CommandStop.{CommandStop}
use Rattle.command_base.specs.Outside.{Outside, Output}
use Rattle.command_base.specs.Printing.{Concludes}
use Rattle.command_base.proofs.Content.{written_others}
use Rattle.command_base.proofs.Stops.{neither, write_told}
use Rattle.objtool_cli.specs.Command.{ChangesOut, Ends, EndsAs, EndsCheck, MayChange, Stops, done, ended, faulty, refused, stopped, unfinished, unread, unwritten, warned, without_names}
use Rattle.cli_words.specs.Grammar.{Command, cfa, cfi, check, demo, dump, entry, explain, find, help, list, merge, show, sites, unwind, version}
use Rattle.code_commands.specs.SitesWords.{list_options}
use Rattle.code_commands.proofs.SitesLaws.{sites_changes, sites_unchanged}
use Rattle.objtool_cli.proofs.CfiLaws.{cfi_changes, cfi_unchanged}
use Rattle.command_base.proofs.MergeLaws.{merge_changes, merge_unchanged}
use Rattle.cli_words.specs.declared.options.CheckOptions.{CheckOptions}
use Rattle.objtool_cli.specs.Words.{Meaning}

stop_keeps : (s : CommandStop) (input output : List ℕ) (options : CheckOptions) (names : Option (List ℕ)) (before after : Outside) (out out' : Output) (x : Status) → Stops input output options names before after s → Concludes s out out' x → x ≢ FileFault → x ≢ NoMemory → after.content ≡ before.content
stop_keeps s input output options names before after out out' x (unread h kept) t f m = kept
stop_keeps s input output options names before after out out' x (without_names read may h kept) t f m = kept
stop_keeps s input output options names before after out out' x (refused read lists is_read h kept) t f m = kept
stop_keeps s input output options names before after out out' x (unwritten table accepted h others) t f m = absurd (neither x (write_told s output before after out out' x h t) f m)

check_keeps : (input output : List ℕ) (options : CheckOptions) (names : Option (List ℕ)) (before after : Outside) (out out' : Output) (x : Status) → EndsCheck input output options names before after out out' x → x ≢ Done → x ≢ FileFault → x ≢ NoMemory → after.content ≡ before.content
check_keeps input output options names before after out out' Done (done is same) d f m = absurd (d refl)
check_keeps input output options names before after out out' x (warned o warnings is kept t) d f m = kept
check_keeps input output options names before after out out' x (stopped s h t) d f m = stop_keeps s input output options names before after out out' x h t f m

kept_as : (c : Command) (before after : Outside) (out out' : Output) (x : Status) → EndsAs c before after out out' x → x ≢ Done → x ≢ FileFault → x ≢ NoMemory → after.content ≡ before.content
kept_as (check input output options names) before after out out' x h d f m = check_keeps input output options names before after out out' x h d f m
kept_as (dump file) before after out out' x h d f m = h.1
kept_as (unwind file image) before after out out' x h d f m = h.1
kept_as (sites input output options map names) before after out out' x h d f m = sites_unchanged (list_options options) map input output names before after out out' x h d f m
kept_as (list file) before after out out' x h d f m = h.1
kept_as (entry input rules map names) before after out out' x h d f m = h.1
kept_as (cfi input output map names) before after out out' x h d f m = cfi_unchanged map input output names before after out out' x h d f m
kept_as (cfa file) before after out out' x h d f m = h.1
kept_as (merge layout output) before after out out' x h d f m = merge_unchanged layout output before after out out' x h d f m
kept_as (find table address) before after out out' x h d f m = h.1
kept_as (show input function map names) before after out out' x h d f m = h.1
kept_as (explain topic) before after out out' x h d f m = ap (λ (o : Outside). o.content) h.0
kept_as (demo n) before after out out' x h d f m = ap (λ (o : Outside). o.content) h.0
kept_as help before after out out' x h d f m = ap (λ (o : Outside). o.content) h.0
kept_as version before after out out' x h d f m = ap (λ (o : Outside). o.content) h.0

pub unchanged : (meaning : Meaning) (before after : Outside) (out out' : Output) (x : Status) → Ends meaning before after out out' x → x ≢ Done → x ≢ FileFault → x ≢ NoMemory → after.content ≡ before.content
unchanged meaning before after out out' x (faulty word kind is same t) d f m = ap (λ (o : Outside). o.content) same
unchanged meaning before after out out' x (unfinished same t) d f m = ap (λ (o : Outside). o.content) same
unchanged meaning before after out out' x (ended command is h) d f m = kept_as command before after out out' x h d f m

abbrev Left : Meaning → Outside → Outside → Type 0
Left meaning before after = (after.content ≡ before.content) ⊎ MayChange meaning before.content after.content

-- the same of `check`
abbrev LeftByCheck : List ℕ → List ℕ → CheckOptions → Option (List ℕ) → Outside → Outside → Type 0
LeftByCheck input output options names before after = (after.content ≡ before.content) ⊎ ChangesOut (check input output options names) before.content after.content

stop_changes : (s : CommandStop) (input output : List ℕ) (options : CheckOptions) (names : Option (List ℕ)) (before after : Outside) → Stops input output options names before after s → LeftByCheck input output options names before after
stop_changes s input output options names before after (unread h kept) = inl kept
stop_changes s input output options names before after (without_names read may h kept) = inl kept
stop_changes s input output options names before after (refused read lists is_read h kept) = inl kept
stop_changes s input output options names before after (unwritten table accepted h others) = inr (table, (accepted, others))

check_changes : (input output : List ℕ) (options : CheckOptions) (names : Option (List ℕ)) (before after : Outside) (out out' : Output) (x : Status) → EndsCheck input output options names before after out out' x → LeftByCheck input output options names before after
check_changes input output options names before after out out' Done (done d same) = inr (d.table, (d.accepted, written_others output d.table before.content after.content d.written))
check_changes input output options names before after out out' x (warned o warnings found kept t) = inl kept
check_changes input output options names before after out out' x (stopped s h t) = stop_changes s input output options names before after h

by : (meaning : Meaning) (c : Command) (before after : Outside) → meaning ≡ Ok c → (after.content ≡ before.content) ⊎ ChangesOut c before.content after.content → Left meaning before after
by meaning c before after is (inl kept) = inl kept
by meaning c before after is (inr changed) = inr (record { command = c; is = is; changes = changed })

changes_as : (c : Command) (before after : Outside) (out out' : Output) (x : Status) → EndsAs c before after out out' x → (after.content ≡ before.content) ⊎ ChangesOut c before.content after.content
changes_as (check input output options names) before after out out' x h = check_changes input output options names before after out out' x h
changes_as (dump file) before after out out' x h = inl h.1
changes_as (unwind file image) before after out out' x h = inl h.1
changes_as (sites input output options map names) before after out out' x h = sites_changes (list_options options) map input output names before after out out' x h
changes_as (list file) before after out out' x h = inl h.1
changes_as (entry input rules map names) before after out out' x h = inl h.1
changes_as (cfi input output map names) before after out out' x h = cfi_changes map input output names before after out out' x h
changes_as (cfa file) before after out out' x h = inl h.1
changes_as (merge layout output) before after out out' x h = merge_changes layout output before after out out' x h
changes_as (find table address) before after out out' x h = inl h.1
changes_as (show input function map names) before after out out' x h = inl h.1
changes_as (explain topic) before after out out' x h = inl (ap (λ (o : Outside). o.content) h.0)
changes_as (demo n) before after out out' x h = inl (ap (λ (o : Outside). o.content) h.0)
changes_as help before after out out' x h = inl (ap (λ (o : Outside). o.content) h.0)
changes_as version before after out out' x h = inl (ap (λ (o : Outside). o.content) h.0)

pub changes : (meaning : Meaning) (before after : Outside) (out out' : Output) (x : Status) → Ends meaning before after out out' x → Left meaning before after
changes meaning before after out out' x (faulty word kind is same t) = inl (ap (λ (o : Outside). o.content) same)
changes meaning before after out out' x (unfinished same t) = inl (ap (λ (o : Outside). o.content) same)
changes meaning before after out out' x (ended command is h) = by meaning command before after is (changes_as command before after out out' x h)
