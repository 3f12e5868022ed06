-- What follows from how `merge` ends.
use Rattle.std.proofs.Common.{◌≡◌, ℕ, ◌≤◌, List, [], ◌∷◌, ◌++◌, length, refl, sym, ap, ◌∙◌, subst, inl, inr, arith}
use Rattle.std.specs.Prelude.{◌≢◌, ◌⊎◌, Option, Some, None, Result, Ok, Err, IfErr, OnErr}
use Rattle.std.specs.FinMap.{get, insert}
use Rattle.ot_files.specs.Causes.{Rose}
use Rattle.ot_files.specs.Content.{Content, ChangesAtMost, writing}
use Rattle.elf_objects.specs.declared.TheConstants.{MAX_FILE_BYTES}
use Rattle.elf_objects.specs.Elf.{Elf}
use Rattle.orc_merge.specs.LayoutFile.{FileSaid}
use Rattle.orc_merge.specs.MergeFaults.{merge_fault}
use Rattle.orc_merge.specs.declared.faults.MergeFault.{MergeFault}
use Rattle.orc_merge.specs.declared.part.Part.{Part}
use Rattle.command_base.specs.Dump.{HoldsNoRows, malformed, no_memory as rows_no_memory, no_rows as no_rows_held}
use Rattle.command_base.specs.Outside.{Outside, Output}
use Rattle.command_base.specs.Printing.{Concludes}
use Rattle.command_base.specs.Stop.{of_part, status_of}
use Rattle.command_base.specs.Unwind.{first_foreign}
use Rattle.command_base.specs.Writing.{StopsAtWrite}
use Rattle.command_base.specs.declared.status.Status.{Status}
use Rattle.command_base.specs.declared.status.Status.TheVariants.{Done, Warnings, Refused, Usage, FileFault, SinkFault, NoMemory}
use Rattle.command_base.specs.declared.stop.CommandStop.{CommandStop}
use Rattle.command_base.specs.declared.stop.CommandStop.TheVariants as stop
use Rattle.command_base.proofs.ConcludeLemmas.{concluded_after_fault, concluded_fault, concluded_no_memory, concluded_no_warnings, concluded_not_done, concluded_sink_fault}
use Rattle.command_base.proofs.DumpLaws.{no_rows_excluded, no_rows_fault, one_object, read_fault}
use Rattle.command_base.specs.Alike.{FindAlike, WalkAlike}
use Rattle.command_base.specs.Layouts.{IsLayoutOf, NamesFiles, NamesNoFiles, StopsAtLayout, faulty, no_files, no_memory as names_no_memory, too_many, unread as layout_is_unread}
use Rattle.command_base.specs.Merge.{EndsMerge, HasNoTable, IsMerged, IsTableOf, MayBeMerged, StopsBehindLayout, StopsMerge, WritesMerged, at_layout, behind_layout, done, no_memory as table_no_memory, stopped, unmerged as table_unmerged, unwritten, without_part, without_table}
use Rattle.command_base.specs.MergedObjects.{ArePartsOf, HasNoPart, IsNoPart, IsPart, IsPartOf, StopsAtParts, at_file, foreign, no_memory as parts_no_memory, no_part, no_rows, unread}
use Rattle.command_base.specs.Refusing.{IsRefusedOrFails, Tells}
use Rattle.command_base.specs.MergeRefused.{RefusesFile, RefusesMerge, file_refused, layout_unread, object_unread, unmerged, without_files, without_part as file_without_part}
use Rattle.command_base.specs.declared.layouts.TheConstants.{MAX_LAYOUT_BYTES}
use Rattle.command_base.proofs.Content.{get-insert_same, written_others}
use Rattle.command_base.proofs.LayoutLemmas.{no_faulty_line}
use Rattle.command_base.proofs.ObjectLemmas.{parts_earlier}
use Rattle.command_base.proofs.SameParts.{fault_same, files_same, parts_same, table_same}
use Rattle.command_base.proofs.Stops.{concluded_usage, done_not_refused, is_read, left, neither, not_memory, of_stop, one_text, outside, read_no_usage, readable, unreadable, write_earlier, write_fault, write_no_usage, write_not_refused, write_told}
use Rattle.command_base.proofs.TableLemmas.{find_alike, walk_alike}

-- ---- what was met behind LAYOUT, in the whole time before

pub behind_earlier : (said : List FileSaid) (output : List ℕ) (content middle : Option Content) (before faults : ℕ) (after : Outside) (s : CommandStop) → middle ≡ content → before ≤ faults → StopsBehindLayout said output (outside middle faults) after s → StopsBehindLayout said output (outside content before) after s
behind_earlier said output content middle before faults after s same later (without_part h kept) = without_part (parts_earlier said content middle before faults after s same later h) (kept ∙ same)
behind_earlier said output content middle before faults after s same later (without_table parts are h kept) = without_table parts (subst (λ (c : Option Content). ArePartsOf c said parts) same are) h (kept ∙ same)
behind_earlier said output content middle before faults after s same later (unwritten parts table are is h others) =
    unwritten parts table (subst (λ (c : Option Content). ArePartsOf c said parts) same are) is
    (write_earlier s output content before faults after later (subst (λ (c : Option Content). StopsAtWrite output (outside c faults) after s) same h))
    (subst (λ (c : Option Content). ChangesAtMost output c after.content) same others)

-- what writing OUT stops by
pub write_stops : {T : Type 0} (r : Result T CommandStop) (P Q : CommandStop → Type 0) (X : Type 0) → ((s : CommandStop) → P s → X → Q s) → IfErr r P → OnErr r X → IfErr r Q
write_stops (Ok x) P Q X each h k = tt
write_stops (Err s) P Q X each h k = each s h k

-- ---- where it is done

pub is_merged : (layout output : List ℕ) (before after : Option Content) (said : List FileSaid) → IsLayoutOf before layout said → WritesMerged said output before after → IsMerged layout output before after
is_merged layout output before after said is writes = record {
  said = said;
  is_layout = is;
  writes = writes;
  found = find_alike writes.parts writes.table writes.is;
  walked = walk_alike writes.parts writes.table writes.is;
}

pub merged : (layout output : List ℕ) (before after : Outside) (out out' : Output) (x : Status) → EndsMerge layout output before after out out' x → x ≡ Done → IsMerged layout output before.content after.content
merged layout output before after out out' Done (done is same) e = is
merged layout output before after out out' x (stopped s h t) e = absurd (concluded_not_done s out out' x t e)

pub merged_silently : (layout output : List ℕ) (before after : Outside) (out out' : Output) (x : Status) → EndsMerge layout output before after out out' x → x ≡ Done → out'.written ≡ out.written
merged_silently layout output before after out out' Done (done is same) e = ap (λ (o : Output). o.written) same
merged_silently layout output before after out out' x (stopped s h t) e = absurd (concluded_not_done s out out' x t e)

-- what OUT holds is the table of the objects that the files before it hold
table_left : (layout output table held : List ℕ) (before after : Option Content) (one other : Content) → before ≡ Some one → after ≡ Some other → after ≡ writing before output table → get other output ≡ Some held → held ≡ table
table_left layout output table held before after one other was now written holds =
    let e : ◌≡◌ {A = Option Content} (Some other) (Some (insert one output table)) = sym now ∙ written ∙ ap (λ (c : Option Content). writing c output table) was in
    let same : other ≡ insert one output table = cc in
    let f : ◌≡◌ {A = Option (List ℕ)} (Some held) (Some table) = sym holds ∙ ap (λ (c : Content). get c output) same ∙ get-insert_same one output table in
    cc

is_table : (layout output held : List ℕ) (before after : Option Content) (one other : Content) (said : List FileSaid) (parts : List Part) → IsMerged layout output before after → before ≡ Some one → after ≡ Some other → IsLayoutOf (Some one) layout said → ArePartsOf (Some one) said parts → get other output ≡ Some held → IsTableOf parts held
is_table layout output held before after one other said parts is was now names are holds =
    let names_are : IsLayoutOf (Some one) layout is.said = subst (λ (c : Option Content). IsLayoutOf c layout is.said) was is.is_layout in
    let parts_are : ArePartsOf (Some one) is.said is.writes.parts = subst (λ (c : Option Content). ArePartsOf c is.said is.writes.parts) was is.writes.are in
    let same = files_same one layout is.said said names_are names in
    let all = parts_same one said is.writes.parts parts (subst (λ (files : List FileSaid). ArePartsOf (Some one) files is.writes.parts) same parts_are) are in
    subst (IsTableOf parts) (sym (table_left layout output is.writes.table held before after one other was now is.writes.written holds)) (table_same is.writes.parts parts is.writes.table all is.writes.is)

pub finds_alike : (layout output held : List ℕ) (before after : Option Content) (one other : Content) (said : List FileSaid) (parts : List Part) → IsMerged layout output before after → before ≡ Some one → after ≡ Some other → IsLayoutOf (Some one) layout said → ArePartsOf (Some one) said parts → get other output ≡ Some held → FindAlike held parts
finds_alike layout output held before after one other said parts is was now names are holds = find_alike parts held (is_table layout output held before after one other said parts is was now names are holds)

pub walks_alike : (layout output held : List ℕ) (before after : Option Content) (one other : Content) (said : List FileSaid) (parts : List Part) → IsMerged layout output before after → before ≡ Some one → after ≡ Some other → IsLayoutOf (Some one) layout said → ArePartsOf (Some one) said parts → get other output ≡ Some held → WalkAlike held parts
walks_alike layout output held before after one other said parts is was now names are holds = walk_alike parts held (is_table layout output held before after one other said parts is was now names are holds)

-- ---- a stop that is told of a file is of the same kind

part_refused : (k : ℕ) (s : CommandStop) → status_of (of_part k s) ≡ status_of s
part_refused k (stop.Usage usage) = refl
part_refused k (stop.Missing told) = refl
part_refused k (stop.TooLong told at) = refl
part_refused k (stop.Refused why) = refl
part_refused k (stop.PartMissing part told) = refl
part_refused k (stop.PartTooLong part told at) = refl
part_refused k (stop.PartRefused part why) = refl
part_refused k (stop.FileFault told) = refl
part_refused k stop.NoMemory = refl

kind_of_part : (k : ℕ) (s told : CommandStop) (x : Status) → told ≡ of_part k s → status_of told ≡ x → status_of s ≡ x
kind_of_part k s told x is e = sym (part_refused k s) ∙ ap status_of (sym is) ∙ e

-- ---- where a step refuses

layout_refuses : (s : CommandStop) (layout : List ℕ) (held : Content) (before after : Outside) → before.content ≡ Some held → StopsAtLayout layout before after s → status_of s ≡ Refused → RefusesMerge layout held s
layout_refuses s layout held before after c (layout_is_unread h) e = layout_unread (unreadable MAX_LAYOUT_BYTES s layout held before after c h e)
layout_refuses s layout held before after c (no_files text may h) e = without_files text (is_read MAX_LAYOUT_BYTES layout text held before.content c may) h (not_memory s e)

file_refuses : (s : CommandStop) (file : FileSaid) (held : Content) (before after : Outside) → before.content ≡ Some held → HasNoPart file before after s → status_of s ≡ Refused → RefusesFile file held s
file_refuses s file held before after c (unread h) e = object_unread (unreadable MAX_FILE_BYTES s file.name held before after c h e)
file_refuses s file held before after c (no_part bytes may h) e = file_without_part bytes (is_read MAX_FILE_BYTES file.name bytes held before.content c may) h (not_memory s e)

parts_refuse : (s : CommandStop) (layout : List ℕ) (said : List FileSaid) (held : Content) (before after : Outside) → before.content ≡ Some held → IsLayoutOf (Some held) layout said → StopsAtParts said before after s → status_of s ≡ Refused → RefusesMerge layout held s
parts_refuse s layout said held before after c is (at_file ahead behind file parts told split are none at) e =
    file_refused said ahead behind file parts told is split (subst (λ (content : Option Content). ArePartsOf content ahead parts) c are)
    (file_refuses told file held before after c none (kind_of_part (length ahead) told s Refused at e)) at
parts_refuse stop.NoMemory layout said held before after c is parts_no_memory e = absurd (not_memory stop.NoMemory e refl)

table_refuses : (s : CommandStop) (layout : List ℕ) (said : List FileSaid) (parts : List Part) (held : Content) → IsLayoutOf (Some held) layout said → ArePartsOf (Some held) said parts → HasNoTable parts s → status_of s ≡ Refused → RefusesMerge layout held s
table_refuses s layout said parts held is are (table_unmerged fault) e = unmerged said parts is are fault
table_refuses stop.NoMemory layout said parts held is are table_no_memory e = absurd (not_memory stop.NoMemory e refl)

behind_refuses : (s : CommandStop) (layout output : List ℕ) (said : List FileSaid) (held : Content) (before after : Outside) → before.content ≡ Some held → IsLayoutOf (Some held) layout said → StopsBehindLayout said output before after s → status_of s ≡ Refused → RefusesMerge layout held s
behind_refuses s layout output said held before after c is (without_part h kept) e = parts_refuse s layout said held before after c is h e
behind_refuses s layout output said held before after c is (without_table parts are h kept) e = table_refuses s layout said parts held is (subst (λ (content : Option Content). ArePartsOf content said parts) c are) h e
behind_refuses s layout output said held before after c is (unwritten parts table are table_is h others) e = absurd (write_not_refused s output before after h e)

merge_refuses : (s : CommandStop) (layout output : List ℕ) (held : Content) (before after : Outside) → before.content ≡ Some held → StopsMerge layout output before after s → status_of s ≡ Refused → RefusesMerge layout held s
merge_refuses s layout output held before after c (at_layout h kept) e = layout_refuses s layout held before after c h e
merge_refuses s layout output held before after c (behind_layout said is h) e = behind_refuses s layout output said held before after c (subst (λ (content : Option Content). IsLayoutOf content layout said) c is) h e

pub merge_told : (layout output : List ℕ) (held : Content) (before after : Outside) (out out' : Output) (x : Status) → before.content ≡ Some held → EndsMerge layout output before after out out' x → x ≡ Refused → Tells (RefusesMerge layout held) out.written out'.written
merge_told layout output held before after out out' Done c (done is same) e = absurd (done_not_refused e)
merge_told layout output held before after out out' x c (stopped s h t) e = of_stop (RefusesMerge layout held) s out out' x t e (λ at. merge_refuses s layout output held before after c h at)

-- ---- files that are merged are refused by no step

no_files_excluded : (s : CommandStop) (text : List ℕ) (said : List FileSaid) → NamesFiles text said → NamesNoFiles text s → s ≡ stop.NoMemory
no_files_excluded s text said is (faulty fault) = absurd (no_faulty_line text _ _ is.is fault)
no_files_excluded s text said is (too_many layout count many) = absurd (omega (arith, ap length is.files, is.few, many))
no_files_excluded stop.NoMemory text said is names_no_memory = refl

no_part_excluded : (s : CommandStop) (bytes : List ℕ) (places : List (ℕ × ℕ)) (part : Part) → IsPart bytes places part → IsNoPart bytes places s → s ≡ stop.NoMemory
no_part_excluded s bytes places part is (no_rows h) = no_rows_excluded bytes is.object part.rows.items s is.held h
no_part_excluded s bytes places part is (foreign o rows held at) =
    let same = one_object bytes is.object o is.held.object held.object in
    let e : ◌≡◌ {A = Option ℕ} None (Some _) = sym (ap (λ (x : Elf). first_foreign x places) (sym same) ∙ is.texts) ∙ at in
    absurd (let never : ⊥ = cc in never)

file_unrefused : (s : CommandStop) (file : FileSaid) (part : Part) (held : Content) → IsPartOf (Some held) file part → RefusesFile file held s → ⊥
file_unrefused s file part held is (object_unread h) = readable MAX_FILE_BYTES s held file.name is.bytes h (is_read MAX_FILE_BYTES file.name is.bytes held (Some held) refl is.may)
file_unrefused s file part held is (file_without_part bytes was h some) =
    let same = one_text MAX_FILE_BYTES held file.name bytes is.bytes was (is_read MAX_FILE_BYTES file.name is.bytes held (Some held) refl is.may) in
    some (no_part_excluded s is.bytes file.places part is.is (subst (λ (b : List ℕ). IsNoPart b file.places s) same h))

-- each file that is among those that are parts is one
part_behind : (content : Option Content) (ahead : List FileSaid) (file : FileSaid) (behind : List FileSaid) (parts : List Part) → ArePartsOf content (ahead ++ file ∷ behind) parts → (part : Part) × IsPartOf content file part
part_behind content [] file behind [] are = absurd are
part_behind content [] file behind (part ∷ parts) are = (part, are.0)
part_behind content (other ∷ ahead) file behind [] are = absurd are
part_behind content (other ∷ ahead) file behind (part ∷ parts) are = part_behind content ahead file behind parts are.1

unrefused : (s : CommandStop) (layout : List ℕ) (said : List FileSaid) (parts : List Part) (held : Content) → IsLayoutOf (Some held) layout said → ArePartsOf (Some held) said parts → merge_fault parts ≡ None → RefusesMerge layout held s → ⊥
unrefused s layout said parts held is are fits (layout_unread h) = readable MAX_LAYOUT_BYTES s held layout is.text h (is_read MAX_LAYOUT_BYTES layout is.text held (Some held) refl is.may)
unrefused s layout said parts held is are fits (without_files text was h some) =
    let same = one_text MAX_LAYOUT_BYTES held layout text is.text was (is_read MAX_LAYOUT_BYTES layout is.text held (Some held) refl is.may) in
    some (no_files_excluded s is.text said is.names (subst (λ (t : List ℕ). NamesNoFiles t s) same h))
unrefused s layout said parts held is are fits (file_refused others ahead behind file before told names split were h at) =
    let same = files_same held layout said others is names ∙ split in
    let one = part_behind (Some held) ahead file behind parts (subst (λ (files : List FileSaid). ArePartsOf (Some held) files parts) same are) in
    file_unrefused told file one.0 held one.1 h
unrefused s layout said parts held is are fits (unmerged {fault = fault} others them names were at) =
    let same = files_same held layout said others is names in
    let all = parts_same held others parts them (subst (λ (files : List FileSaid). ArePartsOf (Some held) files parts) same are) were in
    let e : ◌≡◌ {A = Option MergeFault} None (Some fault) = sym fits ∙ fault_same parts them all ∙ at in
    let never : ⊥ = cc in never

refused_not_done : (s : CommandStop) (layout output : List ℕ) (held : Content) (before after : Option Content) → before ≡ Some held → RefusesMerge layout held s → IsMerged layout output before after → ⊥
refused_not_done s layout output held before after c why is =
    unrefused s layout is.said is.writes.parts held (subst (λ (content : Option Content). IsLayoutOf content layout is.said) c is.is_layout) (subst (λ (content : Option Content). ArePartsOf content is.said is.writes.parts) c is.writes.are) is.writes.is.fits why

-- ---- the other statuses

layout_no_usage : (s : CommandStop) (layout : List ℕ) (before after : Outside) → StopsAtLayout layout before after s → status_of s ≢ Usage
layout_no_usage s layout before after (layout_is_unread h) e = read_no_usage MAX_LAYOUT_BYTES s layout before after h e
layout_no_usage s layout before after (no_files text may h) e = names_no_usage s text h e
  where
    names_no_usage : (s : CommandStop) (text : List ℕ) → NamesNoFiles text s → status_of s ≢ Usage
    names_no_usage s text (faulty fault) e = cc
    names_no_usage s text (too_many layout count many) e = cc
    names_no_usage stop.NoMemory text names_no_memory e = cc

rows_no_usage : (s : CommandStop) (bytes : List ℕ) → HoldsNoRows bytes s → status_of s ≢ Usage
rows_no_usage s bytes (malformed fault) e = cc
rows_no_usage s bytes (no_rows_held o is fault) e = cc
rows_no_usage stop.NoMemory bytes rows_no_memory e = cc

file_no_usage : (s : CommandStop) (file : FileSaid) (before after : Outside) → HasNoPart file before after s → status_of s ≢ Usage
file_no_usage s file before after (unread h) e = read_no_usage MAX_FILE_BYTES s file.name before after h e
file_no_usage s file before after (no_part bytes may (no_rows h)) e = rows_no_usage s bytes h e
file_no_usage s file before after (no_part bytes may (foreign o rows held at)) e = cc

parts_no_usage : (s : CommandStop) (said : List FileSaid) (before after : Outside) → StopsAtParts said before after s → status_of s ≢ Usage
parts_no_usage s said before after (at_file ahead behind file parts told split are none at) e = file_no_usage told file before after none (kind_of_part (length ahead) told s Usage at e)
parts_no_usage stop.NoMemory said before after parts_no_memory e = cc

behind_no_usage : (s : CommandStop) (said : List FileSaid) (output : List ℕ) (before after : Outside) → StopsBehindLayout said output before after s → status_of s ≢ Usage
behind_no_usage s said output before after (without_part h kept) e = parts_no_usage s said before after h e
behind_no_usage s said output before after (without_table parts are (table_unmerged fault) kept) e = cc
behind_no_usage stop.NoMemory said output before after (without_table parts are table_no_memory kept) e = cc
behind_no_usage s said output before after (unwritten parts table are is h others) e = write_no_usage s output before after h e

stop_no_usage : (s : CommandStop) (layout output : List ℕ) (before after : Outside) → StopsMerge layout output before after s → status_of s ≢ Usage
stop_no_usage s layout output before after (at_layout h kept) e = layout_no_usage s layout before after h e
stop_no_usage s layout output before after (behind_layout said is h) e = behind_no_usage s said output before after h e

not_usage : Done ≢ Usage
not_usage e = cc

not_warnings : Done ≢ Warnings
not_warnings e = cc

pub merge_no_usage : (layout output : List ℕ) (before after : Outside) (out out' : Output) (x : Status) → EndsMerge layout output before after out out' x → x ≢ Usage
merge_no_usage layout output before after out out' Done (done is same) e = not_usage e
merge_no_usage layout output before after out out' x (stopped s h t) e = stop_no_usage s layout output before after h (concluded_usage s out out' x t e)

pub merge_no_warnings : (layout output : List ℕ) (before after : Outside) (out out' : Output) (x : Status) → EndsMerge layout output before after out out' x → x ≢ Warnings
merge_no_warnings layout output before after out out' Done (done is same) e = not_warnings e
merge_no_warnings layout output before after out out' x (stopped s h t) e = concluded_no_warnings s out out' x t e

pub merge_refused : (layout output : List ℕ) (held : Content) (before after : Outside) (out out' : Output) (x : Status) (s : CommandStop) → EndsMerge layout output before after out out' x → before.content ≡ Some held → RefusesMerge layout held s → IsRefusedOrFails x
merge_refused layout output held before after out out' x s ends c why =
    left x (λ e. refused_not_done s layout output held before.content after.content c why (merged layout output before after out out' x ends e)) (merge_no_warnings layout output before after out out' x ends) (merge_no_usage layout output before after out out' x ends)

-- ---- where nothing is refused

-- a stop refuses, or tells a file's fault or want of memory
stop_kinds : (s : CommandStop) → status_of s ≢ Usage → (status_of s ≡ Refused) ⊎ ((status_of s ≡ FileFault) ⊎ (s ≡ stop.NoMemory))
stop_kinds (stop.Usage usage) other = absurd (other refl)
stop_kinds (stop.Missing told) other = inl refl
stop_kinds (stop.TooLong told at) other = inl refl
stop_kinds (stop.Refused why) other = inl refl
stop_kinds (stop.PartMissing part told) other = inl refl
stop_kinds (stop.PartTooLong part told at) other = inl refl
stop_kinds (stop.PartRefused part why) other = inl refl
stop_kinds (stop.FileFault told) other = inr (inl refl)
stop_kinds stop.NoMemory other = inr (inr refl)

stop_left : (s : CommandStop) (out out' : Output) (x : Status) → (status_of s ≡ Refused) ⊎ ((status_of s ≡ FileFault) ⊎ (s ≡ stop.NoMemory)) → status_of s ≢ Refused → Concludes s out out' x → (x ≡ FileFault) ⊎ (x ≡ NoMemory)
stop_left s out out' x (inl refuses) never t = absurd (never refuses)
stop_left s out out' x (inr (inl fault)) never t = concluded_after_fault s out out' x fault t
stop_left s out out' x (inr (inr none)) never t = inr (concluded_no_memory out out' x (subst (λ (y : CommandStop). Concludes y out out' x) none t))

pub merge_left : (layout output : List ℕ) (said : List FileSaid) (parts : List Part) (held : Content) (before after : Outside) (out out' : Output) (x : Status) → before.content ≡ Some held → IsLayoutOf (Some held) layout said → ArePartsOf (Some held) said parts → merge_fault parts ≡ None → EndsMerge layout output before after out out' x → (x ≡ Done) ⊎ ((x ≡ FileFault) ⊎ (x ≡ NoMemory))
merge_left layout output said parts held before after out out' Done c is are fits (done merges same) = inl refl
merge_left layout output said parts held before after out out' x c is are fits (stopped s h t) =
    inr (stop_left s out out' x (stop_kinds s (stop_no_usage s layout output before after h)) (λ refuses. unrefused s layout said parts held is are fits (merge_refuses s layout output held before after c h refuses)) t)

-- ---- what changes

-- Either no file has changed; or every step before OUT passed, and at most OUT has.
abbrev pub Left : List ℕ → List ℕ → Option Content → Option Content → Type 0
Left layout output before after = (after ≡ before) ⊎ (MayBeMerged layout before × ChangesAtMost output before after)

behind_changes : (s : CommandStop) (layout output : List ℕ) (said : List FileSaid) (before after : Outside) → IsLayoutOf before.content layout said → StopsBehindLayout said output before after s → Left layout output before.content after.content
behind_changes s layout output said before after is (without_part h kept) = inl kept
behind_changes s layout output said before after is (without_table parts are h kept) = inl kept
behind_changes s layout output said before after is (unwritten parts table are table_is h others) = inr (record { said = said; is_layout = is; parts = parts; are = are; fits = table_is.fits }, others)

pub merge_changes : (layout output : List ℕ) (before after : Outside) (out out' : Output) (x : Status) → EndsMerge layout output before after out out' x → Left layout output before.content after.content
merge_changes layout output before after out out' Done (done is same) =
    inr (record { said = is.said; is_layout = is.is_layout; parts = is.writes.parts; are = is.writes.are; fits = is.writes.is.fits }, written_others output is.writes.table before.content after.content is.writes.written)
merge_changes layout output before after out out' x (stopped s (at_layout h kept) t) = inl kept
merge_changes layout output before after out out' x (stopped s (behind_layout said is h) t) = behind_changes s layout output said before after is h

pub merge_unchanged : (layout output : List ℕ) (before after : Outside) (out out' : Output) (x : Status) → EndsMerge layout output before after out out' x → x ≢ Done → x ≢ FileFault → x ≢ NoMemory → after.content ≡ before.content
merge_unchanged layout output before after out out' Done (done is same) d f m = absurd (d refl)
merge_unchanged layout output before after out out' x (stopped s (at_layout h kept) t) d f m = kept
merge_unchanged layout output before after out out' x (stopped s (behind_layout said is (without_part h kept)) t) d f m = kept
merge_unchanged layout output before after out out' x (stopped s (behind_layout said is (without_table parts are h kept)) t) d f m = kept
merge_unchanged layout output before after out out' x (stopped s (behind_layout said is (unwritten parts table are table_is h others)) t) d f m = absurd (neither x (write_told s output before after out out' x h t) f m)

-- ---- faults

layout_fault : (s : CommandStop) (layout : List ℕ) (before after : Outside) → StopsAtLayout layout before after s → status_of s ≡ FileFault → Rose before.faults after.faults
layout_fault s layout before after (layout_is_unread h) e = read_fault MAX_LAYOUT_BYTES s layout before after h e
layout_fault s layout before after (no_files text may (faulty fault)) e = cc
layout_fault s layout before after (no_files text may (too_many is count many)) e = cc
layout_fault stop.NoMemory layout before after (no_files text may names_no_memory) e = cc

file_fault : (s : CommandStop) (file : FileSaid) (before after : Outside) → HasNoPart file before after s → status_of s ≡ FileFault → Rose before.faults after.faults
file_fault s file before after (unread h) e = read_fault MAX_FILE_BYTES s file.name before after h e
file_fault s file before after (no_part bytes may (no_rows h)) e = absurd (no_rows_fault s bytes h e)
file_fault s file before after (no_part bytes may (foreign o rows held at)) e = cc

behind_fault : (s : CommandStop) (said : List FileSaid) (output : List ℕ) (before after : Outside) → StopsBehindLayout said output before after s → status_of s ≡ FileFault → Rose before.faults after.faults
behind_fault s said output before after (without_part (at_file ahead behind file parts told split are none at) kept) e = file_fault told file before after none (kind_of_part (length ahead) told s FileFault at e)
behind_fault stop.NoMemory said output before after (without_part parts_no_memory kept) e = cc
behind_fault s said output before after (without_table parts are (table_unmerged fault) kept) e = cc
behind_fault stop.NoMemory said output before after (without_table parts are table_no_memory kept) e = cc
behind_fault s said output before after (unwritten parts table are is h others) e = write_fault s output before after h e

stop_fault : (s : CommandStop) (layout output : List ℕ) (before after : Outside) → StopsMerge layout output before after s → status_of s ≡ FileFault → Rose before.faults after.faults
stop_fault s layout output before after (at_layout h kept) e = layout_fault s layout before after h e
stop_fault s layout output before after (behind_layout said is h) e = behind_fault s said output before after h e

-- a fault of a file is answered only where its count rose
pub merge_file_fault : (layout output : List ℕ) (before after : Outside) (out out' : Output) (x : Status) → EndsMerge layout output before after out out' x → x ≡ FileFault → Rose before.faults after.faults
merge_file_fault layout output before after out out' Done (done is same) e = cc
merge_file_fault layout output before after out out' x (stopped s h t) e = stop_fault s layout output before after h (concluded_fault s out out' x t e)

-- and a fault of the output
pub merge_sink_fault : (layout output : List ℕ) (before after : Outside) (out out' : Output) (x : Status) → EndsMerge layout output before after out out' x → x ≡ SinkFault → Rose out.faults out'.faults
merge_sink_fault layout output before after out out' Done (done is same) e = cc
merge_sink_fault layout output before after out out' x (stopped s h t) e = concluded_sink_fault s out out' x t e
