-- How `list`, `cfa` and `find` end over files that tell what they hold, where nothing fails.
use Rattle.std.proofs.Common.{◌≡◌, ℕ, List, ◌++◌, refl, ap, ◌∙◌, subst}
use Rattle.std.specs.Prelude.{Ok}
use Rattle.ot_files.specs.Output.{appending}
use Rattle.elf_objects.specs.declared.TheConstants.{MAX_FILE_BYTES}
use Rattle.elf_objects.specs.Elf.{Elf}
use Rattle.orc_walk.specs.Rows.{row_at}
use Rattle.objtool_cli.specs.ListedSites.{Listed}
use Rattle.objtool_cli.specs.SiteSections.{HoldsSites}
use Rattle.objtool_cli.specs.CodeSites.{sites_of}
use Rattle.eh_frame.specs.Records.{HoldsRules, terminator}
use Rattle.eh_frame.specs.Laws.{rules_of_rows}
use Rattle.eh_frame.specs.declared.rule.PlacedRule.{PlacedRule}
use Rattle.eh_frame.proofs.Excluded.{rules_same}
use Rattle.cli_words.specs.Grammar.{cfa, find, list}
use Rattle.command_base.specs.List.{HoldsLists, IsListed, lists_text}
use Rattle.command_base.proofs.ListLaws.{listed_file}
use Rattle.command_base.specs.Cfa.{IsTold, SaysRules, rules_text}
use Rattle.command_base.proofs.CfaLaws.{file_told}
use Rattle.command_base.specs.Alike.{FindsRow}
use Rattle.command_base.specs.Find.{IsFound, found_line}
use Rattle.command_base.proofs.FindLaws.{found_row}
use Rattle.command_base.proofs.TableLemmas.{one_table}
use Rattle.objtool_cli.proofs.ReadBackEnds.{cfa_answered, find_answered, list_answered}
use Rattle.objtool_cli.proofs.SameCommand.{done_as}
use Rattle.composition_law.specs.Laws.{CfaIsDone, FindIsDone, ListIsDone}
use Rattle.composition_law.proofs.DoneLaw.{no_fault, read_as, was_read}
use Rattle.composition_law.proofs.DumpLaw.{one_object}

-- ---- site lists

lists_alike : (o p : Elf) (lists others : Listed) → o ≡ p → lists ≡ others → lists_text o lists ≡ lists_text p others
lists_alike o p lists others e f = ap (λ (x : Elf). lists_text x lists) e ∙ ap (lists_text p) f

pub list_law : ListIsDone
list_law options o written lists object is content file holds before after out out' answer told ends nothing =
    let held : HoldsSites object (sites_of options o) = subst (λ (x : Elf). HoldsSites x (sites_of options o)) (one_object written _ object lists.reads_back is) lists.holds in
    no_fault _ (Ok (list file)) before after out out' answer ends nothing
    (list_answered (Ok (list file)) before after out out' answer file written object (sites_of options o) content ends refl told (read_as content MAX_FILE_BYTES file written holds) (record { object = is; held = held }))
    (λ done. (done, printed (listed_file file before after out out' answer (done_as (list file) (Ok (list file)) before after out out' answer ends done refl).0 done)))
  where
    printed : IsListed file before.content out.written out'.written → out'.written ≡ appending out.written (lists_text object (sites_of options o))
    printed d =
        let same = was_read content MAX_FILE_BYTES file written d.bytes before.content told holds d.may in
        let read : HoldsLists written d.object d.lists = subst (λ (b : List ℕ). HoldsLists b d.object d.lists) same d.held in
        let all : d.lists ≡ sites_of options o = lists.only d.lists (subst (λ (x : Elf). HoldsSites x d.lists) (one_object written d.object _ read.object lists.reads_back) read.held) in
        d.printed ∙ ap (λ (text : List ℕ). appending out.written text) (lists_alike d.object object d.lists (sites_of options o) (one_object written d.object object read.object is) all)

-- ---- call frame information

-- an object says one list of rules
one_rules : (o : Elf) (rules others : List PlacedRule) → HoldsRules o rules → HoldsRules o others → rules ≡ others
one_rules o rules others h k =
    let held = h.holds in
    rules_same o held.relocs (held.bytes ++ terminator) others rules (record { bytes = held.body; told = held.told })
    (record { entries = h.entries; own = held.bytes; whole = refl; each = held.each; last = held.last; told = h.told }) k

rules_alike : (o p : Elf) (rules others : List PlacedRule) → o ≡ p → rules ≡ others → rules_text o rules ≡ rules_text p others
rules_alike o p rules others e f = ap (λ (x : Elf). rules_text x rules) e ∙ ap (rules_text p) f

pub cfa_law : CfaIsDone
cfa_law o rows written tells object is content file holds before after out out' answer told ends nothing =
    let said : HoldsRules object (rules_of_rows object rows) = subst (λ (x : Elf). HoldsRules x (rules_of_rows x rows)) (one_object written _ object tells.follows.read is) tells.rules in
    no_fault _ (Ok (cfa file)) before after out out' answer ends nothing
    (cfa_answered (Ok (cfa file)) before after out out' answer file written object (rules_of_rows object rows) content ends refl told (read_as content MAX_FILE_BYTES file written holds) (record { object = is; held = said }))
    (λ done. (done, printed said (file_told file before after out out' answer (done_as (cfa file) (Ok (cfa file)) before after out out' answer ends done refl).0 done)))
  where
    printed : HoldsRules object (rules_of_rows object rows) → IsTold file before.content out.written out'.written → out'.written ≡ appending out.written (rules_text object (rules_of_rows object rows))
    printed said d =
        let same = was_read content MAX_FILE_BYTES file written d.bytes before.content told holds d.may in
        let says : SaysRules written d.object d.rules = subst (λ (b : List ℕ). SaysRules b d.object d.rules) same d.says in
        let alike : d.object ≡ object = one_object written d.object object says.object is in
        let all : d.rules ≡ rules_of_rows object rows = one_rules object d.rules (rules_of_rows object rows) (subst (λ (x : Elf). HoldsRules x d.rules) alike says.held) said in
        d.printed ∙ ap (λ (text : List ℕ). appending out.written text) (rules_alike d.object object d.rules (rules_of_rows object rows) alike all)

-- ---- merged tables

pub find_law : FindIsDone
find_law parts table is content file address holds before after out out' answer told ends nothing =
    no_fault _ (Ok (find file address)) before after out out' answer ends nothing
    (find_answered (Ok (find file address)) before after out out' answer file address table is.rows content ends refl told (read_as content MAX_FILE_BYTES file table holds) is.holds.table is.holds.written)
    (λ done. (done, printed (found_row file address before after out out' answer (done_as (find file address) (Ok (find file address)) before after out out' answer ends done refl).0 done)))
  where
    printed : IsFound file address before.content out.written out'.written → out'.written ≡ appending out.written (found_line address (row_at address is.rows))
    printed d =
        let same = was_read content MAX_FILE_BYTES file table d.bytes before.content told holds d.may in
        let finds : FindsRow table address d.found = subst (λ (b : List ℕ). FindsRow b address d.found) same d.finds in
        let rows : finds.rows ≡ is.rows = one_table table finds.rows is.rows finds.holds is.holds in
        d.printed ∙ ap (λ row. appending out.written (found_line address row)) (finds.row ∙ ap (row_at address) rows)
