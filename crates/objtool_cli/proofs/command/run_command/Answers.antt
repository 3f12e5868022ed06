use Rattle.std.proofs.Common.{◌≡◌, ℕ, List, Option, refl, sym, ap, ◌∙◌, subst}
use Rattle.x86_map.specs.declared.map.Map.{Map}
use Rattle.cli_words.specs.Grammar.{cfa, cfi, command_in, dump, entry, explain, find, help, list, merge, show, sites, unwind, version}
use Rattle.cli_words.specs.declared.options.EntryRules.{EntryRules}
use Rattle.cli_words.specs.declared.options.SiteOptions.{SiteOptions}
use Rattle.code_commands.specs.EntryWords.{EntryOptions}
use Rattle.code_commands.specs.Sites.{EndsSites}
use Rattle.code_commands.specs.SitesWords.{ListOptions}
use Rattle.code_commands.specs.Entry.{EndsEntry}
use Rattle.command_base.specs.declared.status.Status.{Status}
use Rattle.command_base.specs.Outside.{Outside, Output}
use Rattle.objtool_cli.proofs.SameCommand.{check_is, ends_of}
use Rattle.objtool_cli.proofs.TextEnds.{text_is}
use Rattle.objtool_cli.proofs.command.run_command.Goals as goal

pub returns-in-Check-clause-ends : goal.returns-in-Check-clause-ends
returns-in-Check-clause-ends g c = ends_of _ _ _ _ _ _ _ (check_is _ _ _ _ _ _ _ c.as_str.ensures.value c.as_str-in-Check.ensures.value c.text_of.ensures ∙ ap command_in (sym c.in-Check.is)) c.read_and_check.ensures.ends

pub returns-in-Dump-clause-ends : goal.returns-in-Dump-clause-ends
returns-in-Dump-clause-ends g c = ends_of _ _ _ _ _ _ _ (ap dump c.as_str-in-Dump.ensures.value ∙ ap command_in (sym c.in-Dump.is)) (c.dump.ensures.ends, c.dump.ensures.unchanged)

unwind_is : (file other image others : List ℕ) → file ≡ other → image ≡ others → unwind file image ≡ unwind other others
unwind_is file other image others a b = cc

merge_is : (layout other output others : List ℕ) → layout ≡ other → output ≡ others → merge layout output ≡ merge other others
merge_is layout other output others a b = cc

sites_is : (i j o p : List ℕ) (options : SiteOptions) (map : Map) (names others : Option (List ℕ)) → i ≡ j → o ≡ p → names ≡ others → sites i o options map names ≡ sites j p options map others
sites_is i j o p options map names others a b c = cc

cfi_is : (i j o p : List ℕ) (map : Map) (names others : Option (List ℕ)) → i ≡ j → o ≡ p → names ≡ others → cfi i o map names ≡ cfi j p map others
cfi_is i j o p map names others a b c = cc

pub returns-in-Unwind-clause-ends : goal.returns-in-Unwind-clause-ends
returns-in-Unwind-clause-ends g c = ends_of _ _ _ _ _ _ _ (unwind_is _ _ _ _ c.as_str-in-Unwind.ensures.value c.as_str-in-Unwind-2.ensures.value ∙ ap command_in (sym c.in-Unwind.is)) (c.unwind.ensures.ends, c.unwind.ensures.unchanged)

sites_by : (one other : ListOptions) (map : Map) (input output : List ℕ) (names : Option (List ℕ)) (before after : Outside) (out out' : Output) (x : Status) → one ≡ other → EndsSites one map input output names before after out out' x → EndsSites other map input output names before after out out' x
sites_by one other map input output names before after out out' x same h = subst (λ (options : ListOptions). EndsSites options map input output names before after out out' x) same h

pub returns-in-Sites-clause-ends : goal.returns-in-Sites-clause-ends
returns-in-Sites-clause-ends g c = ends_of _ _ _ _ _ _ _ (sites_is _ _ _ _ _ _ _ _ c.as_str-in-Sites.ensures.value c.as_str-in-Sites-2.ensures.value c.text_of-in-Sites.ensures ∙ ap command_in (sym c.in-Sites.is)) (sites_by _ _ _ _ _ _ _ _ _ _ _ c.list_options.ensures c.sites.ensures.ends)

pub returns-in-List-clause-ends : goal.returns-in-List-clause-ends
returns-in-List-clause-ends g c = ends_of _ _ _ _ _ _ _ (ap list c.as_str-in-List.ensures.value ∙ ap command_in (sym c.in-List.is)) (c.list.ensures.ends, c.list.ensures.unchanged)

entry_is : (i j : List ℕ) (rules : EntryRules) (map : Map) (names others : Option (List ℕ)) → i ≡ j → names ≡ others → entry i rules map names ≡ entry j rules map others
entry_is i j rules map names others a b = cc

entry_by : (one other : EntryOptions) (map : Map) (input : List ℕ) (names : Option (List ℕ)) (before after : Outside) (out out' : Output) (x : Status) → one ≡ other → EndsEntry map one input names before after out out' x → EndsEntry map other input names before after out out' x
entry_by one other map input names before after out out' x same h = subst (λ (options : EntryOptions). EndsEntry map options input names before after out out' x) same h

pub returns-in-Entry-clause-ends : goal.returns-in-Entry-clause-ends
returns-in-Entry-clause-ends g c = ends_of _ _ _ _ _ _ _ (entry_is _ _ _ _ _ _ c.as_str-in-Entry.ensures.value c.text_of-in-Entry.ensures ∙ ap command_in (sym c.in-Entry.is)) (entry_by _ _ _ _ _ _ _ _ _ _ c.entry_options.ensures c.entry.ensures.ends, c.entry.ensures.unchanged)

pub returns-in-Cfi-clause-ends : goal.returns-in-Cfi-clause-ends
returns-in-Cfi-clause-ends g c = ends_of _ _ _ _ _ _ _ (cfi_is _ _ _ _ _ _ _ c.as_str-in-Cfi.ensures.value c.as_str-in-Cfi-2.ensures.value c.text_of-in-Cfi.ensures ∙ ap command_in (sym c.in-Cfi.is)) c.cfi.ensures.ends

pub returns-in-Cfa-clause-ends : goal.returns-in-Cfa-clause-ends
returns-in-Cfa-clause-ends g c = ends_of _ _ _ _ _ _ _ (ap cfa c.as_str-in-Cfa.ensures.value ∙ ap command_in (sym c.in-Cfa.is)) (c.cfa.ensures.ends, c.cfa.ensures.unchanged)

pub returns-in-Merge-clause-ends : goal.returns-in-Merge-clause-ends
returns-in-Merge-clause-ends g c = ends_of _ _ _ _ _ _ _ (merge_is _ _ _ _ c.as_str-in-Merge.ensures.value c.as_str-in-Merge-2.ensures.value ∙ ap command_in (sym c.in-Merge.is)) c.merge.ensures.ends

show_is : (i j : List ℕ) (map : Map) (function some names others : Option (List ℕ)) → i ≡ j → function ≡ some → names ≡ others → show i function map names ≡ show j some map others
show_is i j map function some names others a b c = cc

pub returns-in-Show-clause-ends : goal.returns-in-Show-clause-ends
returns-in-Show-clause-ends g c = ends_of _ _ _ _ _ _ _ (show_is _ _ _ _ _ _ _ c.as_str-in-Show.ensures.value c.text_of-in-Show.ensures c.text_of-in-Show-2.ensures ∙ ap command_in (sym c.in-Show.is)) (c.show.ensures.ends, c.show.ensures.unchanged)

pub returns-in-Explain-clause-ends : goal.returns-in-Explain-clause-ends
returns-in-Explain-clause-ends g c = ends_of _ _ _ _ _ _ _ (ap explain c.text_of-in-Explain.ensures ∙ ap command_in (sym c.in-Explain.is)) (refl, text_is _ _ _ _ _ c.explained.ensures c.print_text.ensures.printed)

find_is : (table other : List ℕ) (address : ℕ) → table ≡ other → find table address ≡ find other address
find_is table other address same = cc

pub returns-in-Find-clause-ends : goal.returns-in-Find-clause-ends
returns-in-Find-clause-ends g c = ends_of _ _ _ _ _ _ _ (find_is _ _ _ c.as_str-in-Find.ensures.value ∙ ap command_in (sym c.in-Find.is)) (c.find.ensures.ends, c.find.ensures.unchanged)

pub returns-in-Demo-clause-ends : goal.returns-in-Demo-clause-ends
returns-in-Demo-clause-ends g c = ends_of _ _ _ _ _ _ _ (ap command_in (sym c.in-Demo.is)) (refl, c.demo.ensures.ends)

pub demo-requires : goal.demo-requires
demo-requires g c = c.requires _ (ap command_in c.in-Demo.is)

pub returns-in-Help-clause-ends : goal.returns-in-Help-clause-ends
returns-in-Help-clause-ends g c = ends_of help _ _ _ _ _ _ (ap command_in (sym c.in-Help.is)) (refl, text_is _ _ _ _ _ c.help_text.ensures c.print_text-in-Help.ensures.printed)

pub returns-in-Version-clause-ends : goal.returns-in-Version-clause-ends
returns-in-Version-clause-ends g c = ends_of version _ _ _ _ _ _ (ap command_in (sym c.in-Version.is)) (refl, text_is _ _ _ _ _ c.version_text.ensures c.print_text-in-Version.ensures.printed)
