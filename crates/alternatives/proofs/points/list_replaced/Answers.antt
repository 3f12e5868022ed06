use Rattle.std.proofs.Common.{◌≡◌, rules, List, All, Some, map, sym, subst}
use Rattle.std.specs.List.Sorted.{IsPermutation}
use Rattle.std.proofs.lemmas.List.Elements.{All-from_recursion}
use Rattle.std.proofs.lemmas.List.Sorted.{answers_always, All-permutation}
use Rattle.operation_defs.specs.declared.insn.Insn.{Insn}
use Rattle.special_sections.specs.declared.entries.AltEntry.{AltEntry}
use Rattle.alternatives.specs.declared.texts.SectionText.{SectionText}
use Rattle.alternatives.specs.declared.point.Point.{Point}
use Rattle.alternatives.specs.Gathered.{replacement_points}
use Rattle.alternatives.specs.Points.{insn_of_point, IsPoint}
use Rattle.alternatives.proofs.Gathering.{replaced_sound}
use Rattle.alternatives.proofs.points.list_replaced.Goals as goal

pub insns_of-requires-clause-each : goal.insns_of-requires-clause-each
insns_of-requires-clause-each c =
    let texts : List SectionText = c.args.texts.now in
    let entries : List AltEntry = c.args.entries.now in
    let ps : List Point = c.sort_by_key.new.self.items in
    let all : All (IsPoint texts entries) (replacement_points texts entries) = All-from_recursion (IsPoint texts entries) (replacement_points texts entries) (replaced_sound texts entries) in
    let moved : IsPermutation (replacement_points texts entries) ps = subst (λ (gs : List Point). IsPermutation gs ps) c.in_ok-points.ensures.all c.in_ok-sort_by_key.ensures.permutation in
    subst (All (IsPoint texts entries)) (sym c.as_slice.ensures.value) (All-permutation (IsPoint texts entries) (replacement_points texts entries) ps moved all)

pub returns-clause-all : goal.returns-clause-all
returns-clause-all c =
    let ps : List Point = c.sort_by_key.new.self.items in
    subst (λ (gs : List Point). IsPermutation gs ps) c.in_ok-points.ensures.all c.in_ok-sort_by_key.ensures.permutation

pub returns-clause-sorted : goal.returns-clause-sorted
returns-clause-sorted c = c.in_ok-sort_by_key.ensures.sorted (λ (p : Point). (p.place, p.variant)) (answers_always _ _ _ (λ f a r g h. search rules))

pub returns-clause-insns : goal.returns-clause-insns
returns-clause-insns c =
    subst (λ (ps : List Point). map (λ (insn : Insn). Some insn) c.in_ok-insns.insns ≡ map (insn_of_point c.args.texts.now c.args.entries.now) ps) c.as_slice.ensures.value c.in_ok-insns.ensures
