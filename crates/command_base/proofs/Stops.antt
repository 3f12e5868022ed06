-- What stops say: which statuses they come with, and what they say of what the files hold.
use Rattle.std.proofs.Common.{◌≡◌, ℕ, ◌<◌, ◌≤◌, ◌-◌, List, [], length, refl, sym, ap, ◌∙◌, subst, inl, inr, arith}
use Rattle.std.specs.Prelude.{◌≢◌, ◌⊎◌, Option, Some, None, Result, Ok, Err}
use Rattle.ot_base.specs.NameLists.{NameLists}
use Rattle.ot_base.specs.NamesFile.{IsFirstFault, IsNamesFile, lines}
use Rattle.ot_base.specs.declared.lists.ListsFault.TheVariants as lists_fault
use Rattle.ot_base.specs.declared.lists.ListsWhy.{ListsWhy}
use Rattle.ot_files.specs.Causes.{Rose}
use Rattle.ot_files.specs.Content.{Content, reading}
use Rattle.ot_files.specs.Output.{appending}
use Rattle.ot_files.specs.declared.access.FileError.{FileError}
use Rattle.ot_files.specs.declared.access.FileError.TheVariants as file_error
use Rattle.elf_objects.specs.declared.TheConstants.{MAX_FILE_BYTES}
use Rattle.command_base.specs.Dump.{IsAnswered}
use Rattle.command_base.specs.Names.{HasNames, HoldsNames, IsListsStop, StopsAtNames, names_unread, no_lists, no_names}
use Rattle.command_base.specs.Outside.{Outside, Output}
use Rattle.command_base.specs.Printing.{Concludes, Prints, fails, fault_stays, runs_out, silent, tells, whole}
use Rattle.command_base.specs.Reading.{IsUnreadable, MayRead, StopsAtRead}
use Rattle.command_base.specs.Stop.{line_of, status_of}
use Rattle.command_base.specs.Writing.{StopsAtWrite}
use Rattle.command_base.specs.declared.refusal.Refusal.TheVariants as refusal
use Rattle.command_base.specs.declared.status.Status.{Status}
use Rattle.command_base.specs.declared.status.Status.TheVariants.{Done, Warnings, Refused, Usage, FileFault, SinkFault, NoMemory}
use Rattle.command_base.specs.declared.stop.CommandStop.{CommandStop}
use Rattle.command_base.specs.declared.stop.CommandStop.TheVariants as stop
use Rattle.command_base.proofs.ConcludeLemmas.{concluded_after_fault, concluded_no_memory, printed_done}
use Rattle.command_base.proofs.PrintLemmas.{rose_before}
use Rattle.command_base.proofs.DumpLaws.{fault_left, read_fault, same_read, told_read, unread_told}
use Rattle.command_base.specs.Refusing.{IsRefusedOrFails, IsWarnedOrFails, Tells}

-- ---- statuses

pub file_fault_not_refused : FileFault ≢ Refused
file_fault_not_refused e = cc

pub sink_fault_not_refused : SinkFault ≢ Refused
sink_fault_not_refused e = cc

pub memory_not_refused : NoMemory ≢ Refused
memory_not_refused e = cc

pub done_not_refused : Done ≢ Refused
done_not_refused e = cc

pub not_memory : (s : CommandStop) → status_of s ≡ Refused → s ≢ stop.NoMemory
not_memory s e is = memory_not_refused (sym (ap status_of is) ∙ e)

-- what is left of a command that neither was done nor warned, and whose words were right
pub left : (x : Status) → x ≢ Done → x ≢ Warnings → x ≢ Usage → IsRefusedOrFails x
left Done d w u = absurd (d refl)
left Warnings d w u = absurd (w refl)
left Refused d w u = inl refl
left Usage d w u = absurd (u refl)
left FileFault d w u = inr (inl refl)
left SinkFault d w u = inr (inr (inl refl))
left NoMemory d w u = inr (inr (inr refl))

-- ---- what is printed

pub whole_text : (end : Status) (text : List ℕ) (out out' : Output) (x : Status) → Prints end text out out' x → x ≡ Refused → (end ≡ Refused) × (out'.written ≡ appending out.written text)
whole_text end text out out' x (whole at all) e = (sym at ∙ e, all)
whole_text end text out out' FileFault (fault_stays prefix rose at) e = absurd (file_fault_not_refused e)
whole_text end text out out' SinkFault (fails prefix rose other) e = absurd (sink_fault_not_refused e)
whole_text end text out out' NoMemory (runs_out prefix) e = absurd (memory_not_refused e)

pub whole_line : (s : CommandStop) (out out' : Output) (x : Status) → Concludes s out out' x → x ≡ Refused → (status_of s ≡ Refused) × (out'.written ≡ appending out.written (line_of s))
whole_line s out out' x (tells other t) e = whole_text _ _ out out' x t e
whole_line s out out' NoMemory (silent none same) e = absurd (memory_not_refused e)

pub of_stop : (R : CommandStop → Type 0) (s : CommandStop) (out out' : Output) (x : Status) → Concludes s out out' x → x ≡ Refused → (status_of s ≡ Refused → R s) → Tells R out.written out'.written
of_stop R s out out' x t e is =
    let told = whole_line s out out' x t e in
    record { stop = s; is = is told.0; printed = told.1 }

printed_usage : (end : Status) (text : List ℕ) (out out' : Output) (x : Status) → Prints end text out out' x → x ≡ Usage → end ≡ Usage
printed_usage end text out out' x (whole at all) e = sym at ∙ e
printed_usage end text out out' FileFault (fault_stays prefix rose at) e = cc
printed_usage end text out out' SinkFault (fails prefix rose other) e = cc
printed_usage end text out out' NoMemory (runs_out prefix) e = cc

pub done_no_usage : (text : List ℕ) (out out' : Output) (x : Status) → Prints Done text out out' x → x ≢ Usage
done_no_usage text out out' x t e = let same : Done ≡ Usage = printed_usage Done text out out' x t e in cc

pub concluded_usage : (s : CommandStop) (out out' : Output) (x : Status) → Concludes s out out' x → x ≡ Usage → status_of s ≡ Usage
concluded_usage s out out' x (tells other t) e = printed_usage _ _ out out' x t e
concluded_usage s out out' NoMemory (silent none same) e = cc

-- ---- what was read

-- what was read of a name is what it holds
pub is_read : (limit : ℕ) (name bytes : List ℕ) (held : Content) (content : Option Content) → content ≡ Some held → MayRead limit content name (Ok bytes) → reading held name limit ≡ Ok bytes
is_read limit name bytes held content c may = sym (told_read limit content held name _ c may)

pub one_text : (limit : ℕ) (held : Content) (name a b : List ℕ) → reading held name limit ≡ Ok a → reading held name limit ≡ Ok b → a ≡ b
one_text limit held name a b h k = same_read a b (sym h ∙ k)

pub unreadable : (limit : ℕ) (s : CommandStop) (name : List ℕ) (held : Content) (before after : Outside) → before.content ≡ Some held → StopsAtRead limit name before after s → status_of s ≡ Refused → IsUnreadable limit held name s
unreadable limit (stop.Usage usage) name held before after c h e = absurd h
unreadable limit (stop.Missing told) name held before after c h e = (h.0, sym (told_read limit before.content held name _ c h.1))
unreadable limit (stop.TooLong told at) name held before after c h e = (h.0, (h.1.0, sym (told_read limit before.content held name _ c h.1.1)))
unreadable limit (stop.Refused why) name held before after c h e = absurd h
unreadable limit (stop.PartMissing part told) name held before after c h e = absurd h
unreadable limit (stop.PartTooLong part told at) name held before after c h e = absurd h
unreadable limit (stop.PartRefused part why) name held before after c h e = absurd h
unreadable limit (stop.FileFault told) name held before after c h e = absurd (file_fault_not_refused e)
unreadable limit stop.NoMemory name held before after c h e = absurd (memory_not_refused e)

pub readable : (limit : ℕ) (s : CommandStop) (held : Content) (name bytes : List ℕ) → IsUnreadable limit held name s → reading held name limit ≡ Ok bytes → ⊥
readable limit (stop.Usage usage) held name bytes h is = h
readable limit (stop.Missing told) held name bytes h is = let u : ◌≡◌ {A = Result (List ℕ) FileError} (Err file_error.Missing) (Ok bytes) = sym h.1 ∙ is in cc
readable limit (stop.TooLong told at) held name bytes h is = let u : ◌≡◌ {A = Result (List ℕ) FileError} (Err (file_error.TooLong limit)) (Ok bytes) = sym h.1.1 ∙ is in cc
readable limit (stop.Refused why) held name bytes h is = h
readable limit (stop.PartMissing part told) held name bytes h is = h
readable limit (stop.PartTooLong part told at) held name bytes h is = h
readable limit (stop.PartRefused part why) held name bytes h is = h
readable limit (stop.FileFault told) held name bytes h is = h
readable limit stop.NoMemory held name bytes h is = h

pub read_no_usage : (limit : ℕ) (s : CommandStop) (name : List ℕ) (before after : Outside) → StopsAtRead limit name before after s → status_of s ≢ Usage
read_no_usage limit (stop.Usage usage) name before after h e = absurd h
read_no_usage limit (stop.Missing told) name before after h e = cc
read_no_usage limit (stop.TooLong told at) name before after h e = cc
read_no_usage limit (stop.Refused why) name before after h e = absurd h
read_no_usage limit (stop.PartMissing part told) name before after h e = absurd h
read_no_usage limit (stop.PartTooLong part told at) name before after h e = absurd h
read_no_usage limit (stop.PartRefused part why) name before after h e = absurd h
read_no_usage limit (stop.FileFault told) name before after h e = cc
read_no_usage limit stop.NoMemory name before after h e = cc

abbrev pub outside : Option Content → ℕ → Outside
outside content faults = record { content = content; faults = faults }

pub read_earlier : (limit : ℕ) (s : CommandStop) (name : List ℕ) (content : Option Content) (before middle : ℕ) (after : Outside) → before ≤ middle → StopsAtRead limit name (outside content middle) after s → StopsAtRead limit name (outside content before) after s
read_earlier limit (stop.Usage usage) name content before middle after later h = h
read_earlier limit (stop.Missing told) name content before middle after later h = h
read_earlier limit (stop.TooLong told at) name content before middle after later h = h
read_earlier limit (stop.Refused why) name content before middle after later h = h
read_earlier limit (stop.PartMissing part told) name content before middle after later h = h
read_earlier limit (stop.PartTooLong part told at) name content before middle after later h = h
read_earlier limit (stop.PartRefused part why) name content before middle after later h = h
read_earlier limit (stop.FileFault told) name content before middle after later h = (h.0, rose_before before middle after.faults later h.1)
read_earlier limit stop.NoMemory name content before middle after later h = h

-- ---- OUT

pub write_earlier : (s : CommandStop) (name : List ℕ) (content : Option Content) (before middle : ℕ) (after : Outside) → before ≤ middle → StopsAtWrite name (outside content middle) after s → StopsAtWrite name (outside content before) after s
write_earlier (stop.Usage usage) name content before middle after later h = h
write_earlier (stop.Missing told) name content before middle after later h = h
write_earlier (stop.TooLong told at) name content before middle after later h = h
write_earlier (stop.Refused why) name content before middle after later h = h
write_earlier (stop.PartMissing part told) name content before middle after later h = h
write_earlier (stop.PartTooLong part told at) name content before middle after later h = h
write_earlier (stop.PartRefused part why) name content before middle after later h = h
write_earlier (stop.FileFault told) name content before middle after later h = (h.0, rose_before before middle after.faults later h.1)
write_earlier stop.NoMemory name content before middle after later h = h

pub write_not_refused : (s : CommandStop) (name : List ℕ) (before after : Outside) → StopsAtWrite name before after s → status_of s ≢ Refused
write_not_refused (stop.Usage usage) name before after h e = h
write_not_refused (stop.Missing told) name before after h e = h
write_not_refused (stop.TooLong told at) name before after h e = h
write_not_refused (stop.Refused why) name before after h e = h
write_not_refused (stop.PartMissing part told) name before after h e = h
write_not_refused (stop.PartTooLong part told at) name before after h e = h
write_not_refused (stop.PartRefused part why) name before after h e = h
write_not_refused (stop.FileFault told) name before after h e = file_fault_not_refused e
write_not_refused stop.NoMemory name before after h e = memory_not_refused e

pub write_no_usage : (s : CommandStop) (name : List ℕ) (before after : Outside) → StopsAtWrite name before after s → status_of s ≢ Usage
write_no_usage (stop.Usage usage) name before after h e = absurd h
write_no_usage (stop.Missing told) name before after h e = absurd h
write_no_usage (stop.TooLong told at) name before after h e = absurd h
write_no_usage (stop.Refused why) name before after h e = absurd h
write_no_usage (stop.PartMissing part told) name before after h e = absurd h
write_no_usage (stop.PartTooLong part told at) name before after h e = absurd h
write_no_usage (stop.PartRefused part why) name before after h e = absurd h
write_no_usage (stop.FileFault told) name before after h e = cc
write_no_usage stop.NoMemory name before after h e = cc

pub write_fault : (s : CommandStop) (name : List ℕ) (before after : Outside) → StopsAtWrite name before after s → status_of s ≡ FileFault → Rose before.faults after.faults
write_fault (stop.Usage usage) name before after h e = absurd h
write_fault (stop.Missing told) name before after h e = absurd h
write_fault (stop.TooLong told at) name before after h e = absurd h
write_fault (stop.Refused why) name before after h e = absurd h
write_fault (stop.PartMissing part told) name before after h e = absurd h
write_fault (stop.PartTooLong part told at) name before after h e = absurd h
write_fault (stop.PartRefused part why) name before after h e = absurd h
write_fault (stop.FileFault told) name before after h e = h.1
write_fault stop.NoMemory name before after h e = cc

-- where OUT may have changed, a fault of it or want of memory is told
pub write_told : (s : CommandStop) (name : List ℕ) (before after : Outside) (out out' : Output) (x : Status) → StopsAtWrite name before after s → Concludes s out out' x → (x ≡ FileFault) ⊎ (x ≡ NoMemory)
write_told (stop.Usage usage) name before after out out' x h t = absurd h
write_told (stop.Missing told) name before after out out' x h t = absurd h
write_told (stop.TooLong told at) name before after out out' x h t = absurd h
write_told (stop.Refused why) name before after out out' x h t = absurd h
write_told (stop.PartMissing part told) name before after out out' x h t = absurd h
write_told (stop.PartTooLong part told at) name before after out out' x h t = absurd h
write_told (stop.PartRefused part why) name before after out out' x h t = absurd h
write_told (stop.FileFault told) name before after out out' x h t = concluded_after_fault (stop.FileFault told) out out' x refl t
write_told stop.NoMemory name before after out out' x h t = inr (concluded_no_memory out out' x t)

pub neither : (x : Status) → (x ≡ FileFault) ⊎ (x ≡ NoMemory) → x ≢ FileFault → x ≢ NoMemory → ⊥
neither x (inl e) f m = f e
neither x (inr e) f m = m e

-- ---- the names file

pub given_names : (held : Content) (names : Option (List ℕ)) (file : List ℕ) (lists : NameLists) → names ≡ Some file → HasNames (Some held) names lists → HoldsNames (Some held) file lists
given_names held names file lists is h = subst (λ (given : Option (List ℕ)). HasNames (Some held) given lists) is h

-- a names file that is in order has no faulty line
pub no_faulty_line : (text : List ℕ) (line : ℕ) (why : ListsWhy) → IsNamesFile text → IsFirstFault text line why → ⊥
no_faulty_line text line why right h =
    let inside : line - 1 < length (lines text) = omega (arith, h.counted, h.there) in
    let same : ◌≡◌ {A = Option ListsWhy} None (Some why) = sym (right (line - 1) [] inside) ∙ h.fault in
    cc

-- what holds of a stop that tells the first faulty line, and of want of memory, holds of a stop of the names file
of_lists : (P : CommandStop → Type 0) (text : List ℕ) (s : CommandStop) → ((line : ℕ) (why : ListsWhy) → IsFirstFault text line why → P (stop.Refused (refusal.Lists (lists_fault.Line line why)))) → P stop.NoMemory → IsListsStop text s → P s
of_lists P text (stop.Usage usage) on_line on_memory h = absurd h
of_lists P text (stop.Missing told) on_line on_memory h = absurd h
of_lists P text (stop.TooLong told at) on_line on_memory h = absurd h
of_lists P text (stop.Refused (refusal.Malformed fault)) on_line on_memory h = absurd h
of_lists P text (stop.Refused (refusal.Orc fault)) on_line on_memory h = absurd h
of_lists P text (stop.Refused (refusal.Lists (lists_fault.Line line why))) on_line on_memory h = on_line line why h
of_lists P text (stop.Refused (refusal.Lists lists_fault.NoMemory)) on_line on_memory h = absurd h
of_lists P text (stop.Refused (refusal.Image fault)) on_line on_memory h = absurd h
of_lists P text (stop.Refused (refusal.NoText sec)) on_line on_memory h = absurd h
of_lists P text (stop.Refused (refusal.Unplaced fault)) on_line on_memory h = absurd h
of_lists P text (stop.Refused (refusal.Unlinked told)) on_line on_memory h = absurd h
of_lists P text (stop.Refused (refusal.Unflowed told)) on_line on_memory h = absurd h
of_lists P text (stop.Refused (refusal.HasOrc sec)) on_line on_memory h = absurd h
of_lists P text (stop.Refused (refusal.HasSites sec)) on_line on_memory h = absurd h
of_lists P text (stop.Refused (refusal.Sites fault)) on_line on_memory h = absurd h
of_lists P text (stop.Refused (refusal.HasFrames sec)) on_line on_memory h = absurd h
of_lists P text (stop.Refused (refusal.Frames fault)) on_line on_memory h = absurd h
of_lists P text (stop.Refused (refusal.TooMany what count)) on_line on_memory h = absurd h
of_lists P text (stop.Refused (refusal.Layout fault)) on_line on_memory h = absurd h
of_lists P text (stop.Refused (refusal.TooManyFiles count)) on_line on_memory h = absurd h
of_lists P text (stop.Refused (refusal.Merge fault)) on_line on_memory h = absurd h
of_lists P text (stop.Refused (refusal.Table fault)) on_line on_memory h = absurd h
of_lists P text (stop.Refused (refusal.NoFunction function)) on_line on_memory h = absurd h
of_lists P text (stop.PartMissing part told) on_line on_memory h = absurd h
of_lists P text (stop.PartTooLong part told at) on_line on_memory h = absurd h
of_lists P text (stop.PartRefused part why) on_line on_memory h = absurd h
of_lists P text (stop.FileFault told) on_line on_memory h = absurd h
of_lists P text stop.NoMemory on_line on_memory h = on_memory

-- so want of memory alone keeps it from being read
lists_memory : (s : CommandStop) (text : List ℕ) → IsNamesFile text → IsListsStop text s → s ≡ stop.NoMemory
lists_memory s text right h = of_lists (λ (t : CommandStop). t ≡ stop.NoMemory) text s (λ line why fault. absurd (no_faulty_line text line why right fault)) refl h

lists_no_fault : (s : CommandStop) (text : List ℕ) → IsListsStop text s → status_of s ≢ FileFault
lists_no_fault s text h = of_lists (λ (t : CommandStop). status_of t ≢ FileFault) text s (λ line why fault e. cc) (λ e. cc) h

lists_no_usage : (s : CommandStop) (text : List ℕ) → IsListsStop text s → status_of s ≢ Usage
lists_no_usage s text h = of_lists (λ (t : CommandStop). status_of t ≢ Usage) text s (λ line why fault e. cc) (λ e. cc) h

-- a refusal at the names file tells that the file isn't read, or its first faulty line
pub of_names : (R : CommandStop → Type 0) (s : CommandStop) (names : Option (List ℕ)) (held : Content) (before after : Outside) → before.content ≡ Some held → ((file : List ℕ) → names ≡ Some file → IsUnreadable MAX_FILE_BYTES held file s → R s) → ((file text : List ℕ) (line : ℕ) (why : ListsWhy) → names ≡ Some file → reading held file MAX_FILE_BYTES ≡ Ok text → IsFirstFault text line why → R (stop.Refused (refusal.Lists (lists_fault.Line line why)))) → StopsAtNames names before after s → status_of s ≡ Refused → R s
of_names R s names held before after c unread faulty (names_unread file given h) e = unread file given (unreadable MAX_FILE_BYTES s file held before after c h e)
of_names R s names held before after c unread faulty (no_names file text given may h) e =
    of_lists (λ (t : CommandStop). status_of t ≡ Refused → R t) text s (λ line why fault same. faulty file text line why given (is_read MAX_FILE_BYTES file text held before.content c may) fault) (λ same. absurd (memory_not_refused same)) h e
of_names R stop.NoMemory names held before after c unread faulty no_lists e = absurd (memory_not_refused e)

pub names_fault : (s : CommandStop) (names : Option (List ℕ)) (before after : Outside) → StopsAtNames names before after s → status_of s ≡ FileFault → Rose before.faults after.faults
names_fault s names before after (names_unread file is h) e = read_fault MAX_FILE_BYTES s file before after h e
names_fault s names before after (no_names file text is may h) e = absurd (lists_no_fault s text h e)
names_fault stop.NoMemory names before after no_lists e = cc

pub names_no_usage : (s : CommandStop) (names : Option (List ℕ)) (before after : Outside) → StopsAtNames names before after s → status_of s ≢ Usage
names_no_usage s names before after (names_unread file is h) e = read_no_usage MAX_FILE_BYTES s file before after h e
names_no_usage s names before after (no_names file text is may h) e = lists_no_usage s text h e
names_no_usage stop.NoMemory names before after no_lists e = cc

pub names_earlier : (s : CommandStop) (names : Option (List ℕ)) (content : Option Content) (before middle : ℕ) (after : Outside) → before ≤ middle → StopsAtNames names (outside content middle) after s → StopsAtNames names (outside content before) after s
names_earlier s names content before middle after later (names_unread file is h) = names_unread file is (read_earlier MAX_FILE_BYTES s file content before middle after later h)
names_earlier s names content before middle after later (no_names file text is may h) = no_names file text is may h
names_earlier stop.NoMemory names content before middle after later no_lists = no_lists

-- where the names file is in order, only faults and want of memory stop there
pub names_told : (s : CommandStop) (names : Option (List ℕ)) (lists : NameLists) (held : Content) (before after : Outside) (out out' : Output) (x : Status) → before.content ≡ Some held → HasNames (Some held) names lists → StopsAtNames names before after s → Concludes s out out' x → (x ≡ FileFault) ⊎ (x ≡ NoMemory)
names_told s names lists held before after out out' x c has (names_unread file is h) t =
    let given = given_names held names file lists is has in
    unread_told MAX_FILE_BYTES s file given.text held before after out out' x c (sym given.may) h t
names_told s names lists held before after out out' x c has (no_names file text is may h) t =
    let given = given_names held names file lists is has in
    let same = one_text MAX_FILE_BYTES held file given.text text (sym given.may) (is_read MAX_FILE_BYTES file text held before.content c may) in
    inr (concluded_no_memory out out' x (subst (λ (y : CommandStop). Concludes y out out' x) (lists_memory s text (subst IsNamesFile same given.right) h) t))
names_told stop.NoMemory names lists held before after out out' x c has no_lists t = inr (concluded_no_memory out out' x t)

pub names_left : (s : CommandStop) (names : Option (List ℕ)) (lists : NameLists) (held : Content) (before after : Outside) (out out' : Output) (x : Status) → before.content ≡ Some held → HasNames (Some held) names lists → StopsAtNames names before after s → Concludes s out out' x → IsAnswered x
names_left s names lists held before after out out' x c has h t = fault_left x (names_told s names lists held before after out out' x c has h t)

-- ---- warnings

pub done_not_warned : Done ≢ Warnings
done_not_warned e = cc

-- what is left of a command that neither was done nor refused, and whose words were right
pub left_warned : (x : Status) → x ≢ Done → x ≢ Refused → x ≢ Usage → IsWarnedOrFails x
left_warned Done d r u = absurd (d refl)
left_warned Warnings d r u = inl refl
left_warned Refused d r u = absurd (r refl)
left_warned Usage d r u = absurd (u refl)
left_warned FileFault d r u = inr (inl refl)
left_warned SinkFault d r u = inr (inr (inl refl))
left_warned NoMemory d r u = inr (inr (inr refl))

pub warned_text : (text : List ℕ) (out out' : Output) (x : Status) → Prints Warnings text out out' x → x ≡ Warnings → out'.written ≡ appending out.written text
warned_text text out out' x (whole at all) e = all
warned_text text out out' FileFault (fault_stays prefix rose at) e = cc
warned_text text out out' SinkFault (fails prefix rose other) e = cc
warned_text text out out' NoMemory (runs_out prefix) e = cc

pub warned_not_refused : (text : List ℕ) (out out' : Output) (x : Status) → Prints Warnings text out out' x → x ≢ Refused
warned_not_refused text out out' x t e = let same : Warnings ≡ Refused = (whole_text Warnings text out out' x t e).0 in cc

pub warned_not_done : (text : List ℕ) (out out' : Output) (x : Status) → Prints Warnings text out out' x → x ≢ Done
warned_not_done text out out' x t e = let same : Warnings ≡ Done = printed_done Warnings text out out' x t e in cc

pub warned_no_usage : (text : List ℕ) (out out' : Output) (x : Status) → Prints Warnings text out out' x → x ≢ Usage
warned_no_usage text out out' x t e = let same : Warnings ≡ Usage = printed_usage Warnings text out out' x t e in cc
