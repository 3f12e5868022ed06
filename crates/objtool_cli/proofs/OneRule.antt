-- What is read of an object's call frame information is determined: a place has one rule.
use Rattle.std.proofs.Common.{◌≡◌, List, [], ◌++◌, Some, sym, ap, ◌∙◌, subst, append-nil}
use Rattle.std.proofs.lemmas.List.{append_cancel_left}
use Rattle.ot_base.specs.declared.place.Place.{Place}
use Rattle.elf_objects.specs.Elf.{Elf}
use Rattle.elf_objects.specs.declared.symbol.Reloc.{Reloc}
use Rattle.eh_frame.specs.Records.{Entries, Entry, HoldsEntries, cie, terminator}
use Rattle.eh_frame.specs.RuleAt.{HasRule, rule_in}
use Rattle.eh_frame.specs.declared.rule.CfaRule.{CfaRule}
use Rattle.eh_frame.proofs.EntryLemmas.{entries_follow, front_nil, no_entries}

some_alike : {A : Type 0} {x y : A} → Some x ≡ Some y → x ≡ y
some_alike h = cc

one_entries : (o : Elf) (entries others : List Entry) → HoldsEntries o entries → HoldsEntries o others → entries ≡ others
one_entries o entries others one other =
    let same : other.relocs ≡ one.relocs = some_alike (sym other.told ∙ one.told) in
    let body : cie ++ (other.bytes ++ terminator) ≡ cie ++ (one.bytes ++ terminator) = some_alike (sym other.body ∙ one.body) in
    let rest : other.bytes ++ terminator ≡ one.bytes ++ terminator = append_cancel_left cie _ _ body in
    let each : Entries o one.relocs 24 0 others other.bytes = subst (λ (rs : List Reloc). Entries o rs 24 0 others other.bytes) same other.each in
    let on = entries_follow terminator each one.each rest in
    let none : on.further ≡ [] = no_entries on.each (front_nil on.bytes terminator (sym on.left)) in
    on.whole ∙ ap (λ (xs : List Entry). others ++ xs) none ∙ append-nil others

pub one_rule : (o : Elf) (place : Place) (rule other : CfaRule) → HasRule o place rule → HasRule o place other → rule ≡ other
one_rule o place rule other h k = h.is ∙ ap (λ (entries : List Entry). rule_in entries place) (one_entries o h.entries k.entries h.holds k.holds) ∙ sym k.is
