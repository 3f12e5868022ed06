use Rattle.std.proofs.Common.{◌≡◌, List, Option, length, sym, ap, ◌∙◌, arith, subst}
use Rattle.std.specs.Prelude.{filter}
use Rattle.operation_defs.specs.declared.insn.Insn.{Insn}
use Rattle.special_sections.specs.declared.entries.AltEntry.{AltEntry}
use Rattle.alternatives.specs.declared.texts.SectionText.{SectionText}
use Rattle.alternatives.specs.declared.point.Point.{Point}
use Rattle.alternatives.specs.Gathered.{is_plain, is_replaced, plain_insns, plain_points, woven, AreTold}
use Rattle.alternatives.specs.Points.{insn_of_point}
use Rattle.alternatives.specs.Texts.{AscendBySection}
use Rattle.alternatives.proofs.Gathering.{few_plain, plain_ones, replaced_ones, woven_points}
use Rattle.alternatives.proofs.ListedInsns.{plain_told}
use Rattle.alternatives.proofs.Merging.{tells_texts}
use Rattle.alternatives.proofs.Weaving.{length-woven, same_count}
use Rattle.alternatives.proofs.points.list_points.Goals as goal

-- the instructions of texts are those of the plain points
told_plain : (texts : List SectionText) (entries : List AltEntry) → AscendBySection texts → AreTold (insn_of_point texts entries) (plain_points texts) (plain_insns texts)
told_plain texts entries ascend = tells_texts (insn_of_point texts entries) texts (λ k t inside is. plain_told texts entries k t ascend inside is)

pub weave_insns-requires-clause-plain : goal.weave_insns-requires-clause-plain
weave_insns-requires-clause-plain c =
    let texts : List SectionText = c.args.texts.now in
    let entries : List AltEntry = c.args.entries.now in
    let are : c.deref-2.result.now ≡ woven (plain_points texts) c.in_ok-replaced.replaced.points.items = c.deref-2.ensures.value ∙ c.in_ok-points.ensures ∙ ap (woven (plain_points texts)) c.deref.ensures.value in
    ap (λ (ps : List Point). length (filter is_plain ps)) are
    ∙ ap (λ (ps : List Point). length ps) (plain_ones texts entries c.in_ok-replaced.replaced.points.items c.requires.ascending c.in_ok-replaced.ensures.all c.in_ok-replaced.ensures.sorted)
    ∙ sym (same_count (insn_of_point texts entries) (plain_points texts) (plain_insns texts) (told_plain texts entries c.requires.ascending))
    ∙ ap (λ (is : List Insn). length is) (sym c.requires.plain)

pub weave_insns-requires-clause-all : goal.weave_insns-requires-clause-all
weave_insns-requires-clause-all c =
    let texts : List SectionText = c.args.texts.now in
    let entries : List AltEntry = c.args.entries.now in
    let others : List Point = c.in_ok-replaced.replaced.points.items in
    let are : c.deref-2.result.now ≡ woven (plain_points texts) others = c.deref-2.ensures.value ∙ c.in_ok-points.ensures ∙ ap (woven (plain_points texts)) c.deref.ensures.value in
    let plain = same_count (insn_of_point texts entries) (plain_points texts) (plain_insns texts) (told_plain texts entries c.requires.ascending) in
    let given : length c.args.plain ≡ length (plain_insns texts) = ap (λ (is : List Insn). length is) c.requires.plain in
    let replaced = same_count (insn_of_point texts entries) others c.in_ok-replaced.replaced.insns c.in_ok-replaced.ensures.insns in
    omega (arith, ap (λ (ps : List Point). length ps) are, length-woven (plain_points texts) others, plain, given, replaced)

pub returns-clause-all : goal.returns-clause-all
returns-clause-all c =
    c.in_ok-points.ensures
    ∙ ap (woven (plain_points c.args.texts.now)) c.deref.ensures.value
    ∙ woven_points c.args.texts.now c.args.entries.now c.in_ok-replaced.replaced.points.items c.requires.ascending c.in_ok-replaced.ensures.all c.in_ok-replaced.ensures.sorted

pub returns-clause-insns : goal.returns-clause-insns
returns-clause-insns c =
    let texts : List SectionText = c.args.texts.now in
    let entries : List AltEntry = c.args.entries.now in
    let others : List Point = c.in_ok-replaced.replaced.points.items in
    let told : Point → Option Insn = insn_of_point texts entries in
    let are : c.deref-2.result.now ≡ woven (plain_points texts) others = c.deref-2.ensures.value ∙ c.in_ok-points.ensures ∙ ap (woven (plain_points texts)) c.deref.ensures.value in
    let plain : filter is_plain c.deref-2.result.now ≡ plain_points texts = ap (filter is_plain) are ∙ plain_ones texts entries others c.requires.ascending c.in_ok-replaced.ensures.all c.in_ok-replaced.ensures.sorted in
    let replaced : filter is_replaced c.deref-2.result.now ≡ others = ap (filter is_replaced) are ∙ replaced_ones texts entries others c.requires.ascending c.in_ok-replaced.ensures.all c.in_ok-replaced.ensures.sorted in
    let plain_insns_are : AreTold told (filter is_plain c.deref-2.result.now) c.args.plain = subst (λ (ps : List Point). AreTold told ps c.args.plain) (sym plain) (subst (AreTold told (plain_points texts)) (sym c.requires.plain) (told_plain texts entries c.requires.ascending)) in
    let replaced_insns_are : AreTold told (filter is_replaced c.deref-2.result.now) c.in_ok-replaced.replaced.insns = subst (λ (ps : List Point). AreTold told ps c.in_ok-replaced.replaced.insns) (sym replaced) c.in_ok-replaced.ensures.insns in
    subst (λ (ps : List Point). AreTold told ps c.weave_insns.new.insns) c.deref-2.ensures.value (c.in_ok-weave_insns.ensures told plain_insns_are replaced_insns_are)

pub returns-clause-few : goal.returns-clause-few
returns-clause-few c =
    let others : List Point = c.in_ok-replaced.replaced.points.items in
    let plain : List Point = plain_points c.args.texts.now in
    let listed : length c.in_ok-points.points.items ≡ length (woven plain others) = ap (λ (ps : List Point). length ps) (c.in_ok-points.ensures ∙ ap (woven plain) c.deref.ensures.value) in
    omega (arith, listed, length-woven plain others, few_plain c.args.texts.now, c.in_ok-replaced.ensures.few)
