-- How `sites` ends, from what its parts ensure.
use Rattle.std.proofs.Common.{◌≡◌, ℕ, ◌≤◌, List, sym, ◌∙◌, subst}
use Rattle.std.specs.Prelude.{Option, Ok}
use Rattle.ot_base.specs.NameLists.{NameLists}
use Rattle.ot_files.specs.Content.{Content, writing}
use Rattle.elf_objects.specs.declared.TheConstants.{MAX_FILE_BYTES}
use Rattle.elf_objects.specs.Elf.{Elf}
use Rattle.elf_objects.specs.Object.{IsObject}
use Rattle.x86_map.specs.declared.map.Map.{Map}
use Rattle.site_lists.specs.declared.options.ListOptions.{ListOptions}
use Rattle.flow_defs.specs.Coded.{Coded, coded_by}
use Rattle.site_lists.specs.Laws.{OneChoiceFits}
use Rattle.site_lists.specs.Listed.{Listed}
use Rattle.site_lists.specs.Sites.{sites_of}
use Rattle.site_lists.specs.Tables.{HasSites, with_sites_object}
use Rattle.command_base.specs.Names.{HasNames, StopsAtNames}
use Rattle.command_base.specs.Outside.{Outside, Output}
use Rattle.command_base.specs.Reading.{MayRead}
use Rattle.command_base.specs.declared.status.Status.{Status}
use Rattle.command_base.specs.declared.status.Status.TheVariants as status
use Rattle.command_base.specs.declared.stop.CommandStop.{CommandStop}
use Rattle.code_commands.specs.SitesOrder.{GetsSites}
use Rattle.command_base.specs.Inputs.{IsRead}
use Rattle.code_commands.specs.Sites.{EndsSites, ListsSites, MayGetSites, StopsSites, done, refused, stopped, unread, unwritten, without_names}
use Rattle.command_base.proofs.Stops.{names_earlier, outside, read_earlier, write_earlier}

-- the bytes with the lists that were made list the sites
pub lists_sites : OneChoiceFits → (options : ListOptions) (o : Coded) (lists : Listed) (file : List ℕ) → lists ≡ sites_of options o → HasSites o.elf lists file → ListsSites options o file
lists_sites one options o lists file is has =
    let sites : Listed = sites_of options o in
    let h : HasSites o.elf sites file = subst (λ (l : Listed). HasSites o.elf l file) is has in
    record {
      added = h.added;
      reads_back = h.added.object;
      holds = h.holds;
      only = λ others held. one (with_sites_object o.elf sites) others sites held h.holds;
    }

pub may_get : (options : ListOptions) (map : Map) (content : Option Content) (input : List ℕ) (names : Option (List ℕ)) (read : List ℕ) (lists : NameLists) (o : Elf) (file : List ℕ) → IsRead content input names read lists → IsObject read o → GetsSites options (coded_by map o) lists → ListsSites options (coded_by map o) file → MayGetSites options map content input names o file
may_get options map content input names read lists o file was is gets told = record { read = read; under = lists; is_read = was; is = is; gets = gets; lists = told }

-- fewer faults at the beginning
stops_earlier : (s : CommandStop) (options : ListOptions) (map : Map) (input output : List ℕ) (names : Option (List ℕ)) (content : Option Content) (before middle : ℕ) (after : Outside) → before ≤ middle → StopsSites options map input output names (outside content middle) after s → StopsSites options map input output names (outside content before) after s
stops_earlier s options map input output names content before middle after later (unread h kept) = unread (read_earlier _ s input content before middle after later h) kept
stops_earlier s options map input output names content before middle after later (without_names read may h kept) = without_names read may (names_earlier s names content before middle after later h) kept
stops_earlier s options map input output names content before middle after later (refused read lists is h kept) = refused read lists is h kept
stops_earlier s options map input output names content before middle after later (unwritten o file may h others) = unwritten o file may (write_earlier s output content before middle after later h) others

ends_earlier : (options : ListOptions) (map : Map) (input output : List ℕ) (names : Option (List ℕ)) (content : Option Content) (before middle : ℕ) (after : Outside) (out out' : Output) (x : Status) → before ≤ middle → EndsSites options map input output names (outside content middle) after out out' x → EndsSites options map input output names (outside content before) after out out' x
ends_earlier options map input output names content before middle after out out' status.Done later (done o file may e same) = done o file may e same
ends_earlier options map input output names content before middle after out out' x later (stopped s h t) = stopped s (stops_earlier s options map input output names content before middle after later h) t

pub ends_later : (options : ListOptions) (map : Map) (input output : List ℕ) (names : Option (List ℕ)) (content middle : Option Content) (before faults : ℕ) (after : Outside) (out out' : Output) (x : Status) → middle ≡ content → before ≤ faults → EndsSites options map input output names (outside middle faults) after out out' x → EndsSites options map input output names (outside content before) after out out' x
ends_later options map input output names content middle before faults after out out' x same later h = ends_earlier options map input output names content before faults after out out' x later (subst (λ (c : Option Content). EndsSites options map input output names (outside c faults) after out out' x) same h)

pub names_later : (s : CommandStop) (names : Option (List ℕ)) (content middle : Option Content) (before faults : ℕ) (after : Outside) → middle ≡ content → before ≤ faults → StopsAtNames names (outside middle faults) after s → StopsAtNames names (outside content before) after s
names_later s names content middle before faults after same later h = names_earlier s names content before faults after later (subst (λ (c : Option Content). StopsAtNames names (outside c faults) after s) same h)

-- what was written is the file that was made
pub written_as : (before after : Option Content) (output file shown : List ℕ) → shown ≡ file → after ≡ writing before output shown → after ≡ writing before output file
written_as before after output file shown same h = subst (λ (bytes : List ℕ). after ≡ writing before output bytes) same h

-- what is known when IN and the names file have been read
pub was_read : (before middle after : Option Content) (input : List ℕ) (names : Option (List ℕ)) (bytes shown : List ℕ) (lists : NameLists) → middle ≡ before → after ≡ middle → shown ≡ bytes → MayRead MAX_FILE_BYTES before input (Ok bytes) → HasNames middle names lists → IsRead after input names shown lists
was_read before middle after input names bytes shown lists kept still same may named = record {
  may = subst (λ (content : Option Content). MayRead MAX_FILE_BYTES content input (Ok shown)) (sym (still ∙ kept)) (subst (λ (b : List ℕ). MayRead MAX_FILE_BYTES before input (Ok b)) (sym same) may);
  named = subst (λ (content : Option Content). HasNames content names lists) (sym still) named;
}
