-- A section that holds entries has no fault, and holds no other entries.
use Rattle.std.proofs.Common.{◌≡◌, ◌≢◌, ℕ, zero, suc, ◌+◌, ◌<◌, ◌≤◌, List, [], ◌∷◌, ◌++◌, length, Option, Some, None, refl, sym, ◌∙◌, ap, subst, arith, append_assoc, append-nil, length-append}
use Rattle.std.specs.Prelude.{codes, slice_get, flat_map, option_and_then, option_map}
use Rattle.std.proofs.lemmas.Option.{none-some}
use Rattle.std.proofs.lemmas.List.{append_cancel_left}
use Rattle.elf_objects.specs.declared.symbol.Reloc.{Reloc}
use Rattle.elf_objects.specs.Elf.{Elf, SectionEntry}
use Rattle.orc_bytes.specs.Sections.{body_named, relocs_named, section_named}
use Rattle.eh_frame.specs.declared.instruction.Instruction.{Instruction}
use Rattle.eh_frame.specs.declared.fault.EhFault.{EhFault}
use Rattle.eh_frame.specs.declared.rule.PlacedRule.{PlacedRule}
use Rattle.eh_frame.specs.Spelling.{Spells, SpellsAll}
use Rattle.eh_frame.specs.Spelling as spelling
use Rattle.eh_frame.specs.Rules.{moves, moves_all}
use Rattle.eh_frame.specs.Records.{cie, terminator, Entry, EntryAt, IsEntry, Entries, NamesSection, HoldsEntries, HoldsRules, relocs_in, relocs_from, rules_of_entry}
use Rattle.eh_frame.specs.Records as records
use Rattle.eh_frame.specs.Faults.{StopsAt, IsInOrder, RecordFault, FirstFault, HasFrames, least_behind}
use Rattle.eh_frame.specs.Faults as faults
use Rattle.eh_frame.specs.Found.{ReadsRecords}
use Rattle.eh_frame.proofs.EntryLemmas.{EntriesGoOn, entries_follow, entry_before, front_nil, no_entries, no_terminator, one_entry, one_section, spells_follow}

some_alike : {A : Type 0} {x y : A} → Some x ≡ Some y → x ≡ y
some_alike h = cc

moves_append : (is js : List Instruction) → moves_all (is ++ js) ≡ moves_all is + moves_all js
moves_append [] js = omega arith
moves_append (i ∷ is) js = let e = moves_append is js in omega arith

-- instructions that are all within a section don't stop
goes_on : (size : ℕ) (spelled : List ℕ) (stop : ℕ) (is : List Instruction) → SpellsAll is spelled → moves_all is ≤ size → StopsAt size spelled stop → ⊥
goes_on size spelled stop is all inside s =
    let on = spells_follow s.left s.read all s.whole in
    go on.further on.spelled on.whole refl
  where
    go : {left : List ℕ} (further : List Instruction) → SpellsAll further left → is ≡ s.before ++ further → s.left ≡ left → ⊥
    go further spelling.none whole same = s.more same
    go further (spelling.next k ks own bytes t rest) whole same =
        let all : moves_all is ≡ moves_all s.before + (moves k + moves_all ks) = ap moves_all whole ∙ moves_append s.before (k ∷ ks) in
        s.none k own bytes t same (omega arith)

-- entries and the terminator have no fault where they begin
record_excludes : {object : Elf} {relocs : List Reloc} {at least : ℕ} {es : List Entry} {bytes : List ℕ} (rest : List ℕ) (fault : EhFault) → Entries object relocs at least es bytes → relocs_from relocs (at + length bytes) ≡ [] → rest ≡ bytes ++ terminator → RecordFault object relocs at least rest fault → ⊥
record_excludes rest fault (records.none a l) last e (faults.record_bytes further isnt) = further e
record_excludes {relocs = relocs} {at = at} rest fault (records.none a l) last e (faults.last_reloc is some) = let here : at + 0 ≡ at = omega arith in some (subst (λ (n : ℕ). relocs_from relocs n ≡ []) here last)
record_excludes {at = at} rest fault (records.none a l) last e (faults.entry_reloc size spelled behind is isnt) = no_terminator at size spelled behind (subst (λ (bs : List ℕ). IsEntry at bs size spelled behind) e is)
record_excludes {at = at} rest fault (records.none a l) last e (faults.entry_section size spelled behind sec section is names isnt) = no_terminator at size spelled behind (subst (λ (bs : List ℕ). IsEntry at bs size spelled behind) e is)
record_excludes {at = at} rest fault (records.none a l) last e (faults.instruction size spelled behind sec section stop is names order s) = no_terminator at size spelled behind (subst (λ (bs : List ℕ). IsEntry at bs size spelled behind) e is)
record_excludes {object} {relocs} {at} {least} {es} {bytes} rest fault (records.next a l entry entries spelled bs behind own said further) last e fault_is =
    go fault fault_is
  where
    here : IsEntry at rest entry.size spelled (behind ++ terminator)
    here = subst (λ (bs : List ℕ). IsEntry at bs entry.size spelled (behind ++ terminator)) (sym e) (entry_before at bytes entry.size spelled behind terminator own)

    names_at : (spelled' : List ℕ) → spelled ≡ spelled' → NamesSection object relocs at (at + 17 + length spelled') entry.sec said.section
    names_at spelled' f = subst (λ (bs : List ℕ). NamesSection object relocs at (at + 17 + length bs) entry.sec said.section) f said.names

    go : (fault : EhFault) → RecordFault object relocs at least rest fault → ⊥
    go fault (faults.record_bytes other isnt) = isnt entry.size spelled (behind ++ terminator) here
    go fault (faults.last_reloc is some) = no_terminator at entry.size spelled (behind ++ terminator) (subst (λ (bs : List ℕ). IsEntry at bs entry.size spelled (behind ++ terminator)) is here)
    go fault (faults.entry_reloc size spelled' behind' is isnt) =
        let same = one_entry at rest entry.size size spelled spelled' (behind ++ terminator) behind' here is in
        isnt entry.sec said.section (names_at spelled' same.spelled)
    go fault (faults.entry_section size spelled' behind' sec section is names isnt) =
        let same = one_entry at rest entry.size size spelled spelled' (behind ++ terminator) behind' here is in
        let sections = one_section object relocs at (at + 17 + length spelled') entry.sec sec said.section section (names_at spelled' same.spelled) names in
        isnt (record {
          whole = sym same.size ∙ said.size ∙ ap (λ (s : SectionEntry). s.size) sections.1;
          later = subst (λ (n : ℕ). least ≤ n) sections.0 said.later;
        })
    go fault (faults.instruction size spelled' behind' sec section stop is names order s) =
        let same = one_entry at rest entry.size size spelled spelled' (behind ++ terminator) behind' here is in
        goes_on size spelled' stop entry.instructions (subst (λ (bs : List ℕ). SpellsAll entry.instructions bs) same.spelled said.instructions) (subst (λ (n : ℕ). moves_all entry.instructions ≤ n) same.size said.inside) s

no_body : (object : Elf) (name body : List ℕ) → section_named object name ≡ None → body_named object name ≡ Some body → ⊥
no_body object name body h e = go (section_named object name) h e
  where
    go : (o : Option ℕ) → o ≡ None → option_and_then (λ i. option_map (λ (section : SectionEntry). section.body) (slice_get object.sections i)) o ≡ Some body → ⊥
    go None h e = none-some _ e
    go (Some i) h e = none-some _ (sym h)

pub fault_excludes : (object : Elf) (entries : List Entry) (fault : EhFault) → FirstFault object fault → HoldsEntries object entries → ⊥
fault_excludes object entries fault (faults.no_section none) holds = no_body object (codes ".eh_frame") _ none holds.body
fault_excludes object entries fault (faults.cie_bytes body relocs has isnt) holds = isnt (holds.bytes ++ terminator) (some_alike (sym has.bytes ∙ holds.body))
fault_excludes object entries fault (faults.cie_reloc relocs behind has some) holds =
    let same : relocs ≡ holds.relocs = some_alike (sym has.told ∙ holds.told) in
    some (subst (λ (rs : List Reloc). relocs_in rs 0 24 ≡ []) (sym same) holds.first)
fault_excludes object entries fault (faults.later relocs es bytes behind f has first each wrong) holds =
    let same : relocs ≡ holds.relocs = some_alike (sym has.told ∙ holds.told) in
    let body : cie ++ (bytes ++ behind) ≡ cie ++ (holds.bytes ++ terminator) = some_alike (sym has.bytes ∙ holds.body) in
    let rest : bytes ++ behind ≡ holds.bytes ++ terminator = append_cancel_left cie _ _ body in
    let all : Entries object relocs 24 0 entries holds.bytes = subst (λ (rs : List Reloc). Entries object rs 24 0 entries holds.bytes) (sym same) holds.each in
    let on = entries_follow behind each all rest in
    let last : relocs_from relocs (24 + length holds.bytes) ≡ [] = subst (λ (rs : List Reloc). relocs_from rs (24 + length holds.bytes) ≡ []) (sym same) holds.last in
    let long : length bytes + length behind ≡ length holds.bytes + 4 = sym (length-append bytes behind) ∙ ap length rest ∙ length-append holds.bytes terminator in
    let long' : length behind ≡ length on.bytes + 4 = ap length on.left ∙ length-append on.bytes terminator in
    let end : 24 + length holds.bytes ≡ 24 + length bytes + length on.bytes = omega arith in
    record_excludes behind f on.each (subst (λ (n : ℕ). relocs_from relocs n ≡ []) end last) on.left wrong

-- what was read is all that the section holds
pub rules_same : (object : Elf) (relocs : List Reloc) (behind : List ℕ) (rules told : List PlacedRule) → HasFrames object (cie ++ behind) relocs → ReadsRecords object relocs behind told → HoldsRules object rules → told ≡ rules
rules_same object relocs behind rules told has read holds =
    let held = holds.holds in
    let same : relocs ≡ held.relocs = some_alike (sym has.told ∙ held.told) in
    let body : cie ++ behind ≡ cie ++ (held.bytes ++ terminator) = some_alike (sym has.bytes ∙ held.body) in
    let rest : read.own ++ terminator ≡ held.bytes ++ terminator = sym read.whole ∙ append_cancel_left cie _ _ body in
    let all : Entries object relocs 24 0 holds.entries held.bytes = subst (λ (rs : List Reloc). Entries object rs 24 0 holds.entries held.bytes) (sym same) held.each in
    let on = entries_follow terminator read.each all rest in
    let none : on.further ≡ [] = no_entries on.each (front_nil on.bytes terminator (sym on.left)) in
    let alike : holds.entries ≡ read.entries = on.whole ∙ ap (λ (xs : List Entry). read.entries ++ xs) none ∙ append-nil read.entries in
    read.told ∙ ap (flat_map rules_of_entry) (sym alike) ∙ sym holds.told
