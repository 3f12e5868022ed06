use Rattle.std.proofs.Common.{◌≡◌, ◌≤◌, List, length, map, sym, ap, ◌∙◌, subst, Some}
use Rattle.std.proofs.lemmas.Result.{err_from_is_err_and}
use Rattle.elf_objects.specs.Elf.{Elf}
use Rattle.ot_base.specs.NameLists.{NameLists}
use Rattle.flow_defs.specs.Coded.{Coded, coded_by}
use Rattle.elf_objects.specs.Object.{IsObject}
use Rattle.special_sections.specs.declared.entries.AltEntry.{AltEntry}
use Rattle.special_sections.specs.Special.{special_of, SpecialEntries}
use Rattle.alternatives.specs.declared.texts.SectionText.{SectionText}
use Rattle.alternatives.specs.Faults.{AreRight, IsFirstAt, IsFirstFault}
use Rattle.alternatives.specs.declared.fault.SiteFault.{SiteFault}
use Rattle.alternatives.specs.declared.fault.SiteFault.TheVariants.{At, NoMemory}
use Rattle.alternatives.specs.Points.{insn_of_point, points_of}
use Rattle.alternatives.specs.Sites.{AreSitesOf, SiteList}
use Rattle.alternatives.specs.Texts.{AscendBySection, text_bytes}
use Rattle.flow_defs.specs.Code.{alternatives_of, points_of_object, texts_of}
use Rattle.object_points.specs.KeptCode.{IsKept}
use Rattle.object_points.proofs.TextsLemmas.{few_alternatives, little_text, texts_ascend}
use Rattle.symbols_relocs.specs.declared.fault.IndexFault.{IndexFault}
use Rattle.symbols_relocs.specs.declared.fault.IndexFault.TheVariants as indices
use Rattle.symbols_relocs.specs.Faults.{Tells}
use Rattle.object_points.specs.Linked.{index_fault, site_fault, HasSoundFunctions, HasSpecial, IsLinked, IsLinkFault, IsTextsFault}
use Rattle.object_points.specs.declared.fault.LinkFault.{LinkFault}
use Rattle.object_points.specs.declared.fault.LinkFault.TheVariants as faults
use Rattle.object_points.proofs.linked.Linked.link.Goals as goal

-- what is built of an object that is linked is kept
kept : (o : Coded) (texts lent : List SectionText) (special : SpecialEntries) (sites : SiteList) → texts ≡ texts_of o → lent ≡ texts_of o → special ≡ special_of o.elf → (lists : NameLists) → IsLinked o lists → IsObject o.elf.bytes o.elf
    → AreSitesOf special.alternatives sites.sites sites.entry_numbers
    → sites.points ≡ points_of lent special.alternatives
    → map (λ insn. Some insn) sites.insns ≡ map (insn_of_point lent special.alternatives) sites.points
    → sites.entries ≡ special.alternatives
    → IsKept o texts special sites
unfolding points_of_object
kept o texts lent special sites are lent_are says lists linked object all points insns entries =
    let ascend : AscendBySection texts = subst AscendBySection (sym are) (texts_ascend o) in
    let little : text_bytes texts ≤ 16777216 = subst (λ (ts : List SectionText). text_bytes ts ≤ 16777216) (sym are) (little_text o object) in
    let alternatives : special.alternatives ≡ alternatives_of o = ap (λ s. s.alternatives) says in
    record {
      linked = (lists, linked);
      all_texts = are;
      ascending = ascend;
      little_text = little;
      all_special = says;
      all_sites = subst (λ (list : List AltEntry). AreSitesOf list sites.sites sites.entry_numbers) alternatives all;
      all_points = points ∙ ap (λ ts. points_of ts special.alternatives) lent_are ∙ ap (points_of (texts_of o)) alternatives;
      all_insns = insns ∙ ap (λ (ts : List SectionText). map (insn_of_point ts special.alternatives) sites.points) lent_are ∙ ap (λ (list : List AltEntry). map (insn_of_point (texts_of o) list) sites.points) alternatives;
      all_entries = entries ∙ alternatives;
    }

pub build-requires-2-clause-ascending : goal.build-requires-2-clause-ascending
build-requires-2-clause-ascending c = subst AscendBySection (sym (c.deref.ensures.value ∙ c.in_ok-texts.ensures.read)) (texts_ascend (coded_by c.args.map c.args.object.now))

pub build-requires-2-clause-bytes : goal.build-requires-2-clause-bytes
build-requires-2-clause-bytes c = subst (λ (ts : List SectionText). text_bytes ts ≤ 16777216) (sym (c.deref.ensures.value ∙ c.in_ok-texts.ensures.read)) (little_text (coded_by c.args.map c.args.object.now) c.in_ok-texts.ensures.object)

pub build-requires-2-clause-few : goal.build-requires-2-clause-few
build-requires-2-clause-few c =
    let o : Coded = coded_by c.args.map c.args.object.now in
    subst (λ (n : List AltEntry). length n ≤ 8388608) (ap (λ s. s.alternatives) (sym c.in_ok-special.ensures.ok))
    (few_alternatives o c.args.lists.now c.alternatives_are_few.ensures c.in_ok-texts.ensures.object c.in_ok-special.ensures.right c.requires)

pub invariant_of-result : goal.invariant_of-result
invariant_of-result c =
    let o : Coded = coded_by c.args.map c.args.object.now in
    let texts : c.in_ok-texts.field-0.texts.items ≡ texts_of o = c.in_ok-texts.ensures.read in
    let lent : c.deref.result.now ≡ texts_of o = c.deref.ensures.value ∙ texts in
    let special : c.in_ok-special.special ≡ special_of o.elf = c.in_ok-special.ensures.ok in
    let alternatives : c.in_ok-special.special.alternatives ≡ alternatives_of o = ap (λ s. s.alternatives) special in
    subst (λ (e : Elf). IsKept (coded_by c.args.map e) c.in_ok-texts.field-0.texts.items c.in_ok-special.special c.in_ok-sites.sites) (sym c.in_ok-index.ensures.ok)
    (kept o c.in_ok-texts.field-0.texts.items c.deref.result.now c.in_ok-special.special c.in_ok-sites.sites texts lent special c.args.lists.now
    (record { before = record { before = record { code = c.in_ok-texts.ensures.code; special = c.in_ok-special.ensures.right }; functions = c.in_ok-index.ensures.right }; sites = subst (λ (ts : List SectionText). AreRight ts (alternatives_of o) (length (alternatives_of o))) lent (subst (λ (list : List AltEntry). AreRight c.deref.result.now list (length list)) alternatives c.in_ok-sites.ensures.right) })
    c.in_ok-texts.ensures.object
    c.in_ok-sites.ensures.sites c.in_ok-sites.ensures.points c.in_ok-sites.ensures.insns c.in_ok-sites.ensures.entries)

-- what is told of the sites is told of the object
site_told : (o : Coded) (lists : NameLists) (lent : List SectionText) (entries : List AltEntry) (fault : SiteFault) → lent ≡ texts_of o → entries ≡ alternatives_of o → HasSoundFunctions o lists → IsFirstFault lent entries fault → IsLinkFault o lists (site_fault fault)
site_told o lists lent entries (At entry why) texts all has first =
    (has, subst (λ (ts : List SectionText). IsFirstAt ts (alternatives_of o) entry why) texts (subst (λ (es : List AltEntry). IsFirstAt lent es entry why) all first))
site_told o lists lent entries NoMemory texts all has first = tt

pub returns-in_err-sites-clause-err : goal.returns-in_err-sites-clause-err
returns-in_err-sites-clause-err c =
    let o : Coded = coded_by c.args.map c.args.object.now in
    let has : HasSoundFunctions o c.args.lists.now = record { before = record { code = c.in_ok-texts.ensures.code; special = c.in_ok-special.ensures.right }; functions = c.in_ok-index.ensures.right } in
    let told : IsLinkFault o c.args.lists.now (site_fault c.in_err-sites.field-0.0) =
    site_told o c.args.lists.now c.deref.result.now c.in_ok-special.special.alternatives c.in_err-sites.field-0.0 (c.deref.ensures.value ∙ c.in_ok-texts.ensures.read) (ap (λ s. s.alternatives) c.in_ok-special.ensures.ok) has c.in_err-sites.ensures.err in
    let p = err_from_is_err_and c.from_residual-in_err-sites.result c.from_residual-in_err-sites.ensures.1 in
    rw (p.1, p.2) told

-- what is told of the functions is told of the object
index_told : (o : Coded) (lists : NameLists) (fault : IndexFault) → HasSpecial o lists → Tells o.elf fault → IsLinkFault o lists (index_fault fault)
index_told o lists (indices.Func sym) has first = (has, first)
index_told o lists indices.NoMemory has first = tt

pub returns-in_err-index-clause-err : goal.returns-in_err-index-clause-err
returns-in_err-index-clause-err c =
    let o : Coded = coded_by c.args.map c.args.object.now in
    let has : HasSpecial o c.args.lists.now = record { code = c.in_ok-texts.ensures.code; special = c.in_ok-special.ensures.right } in
    let told : IsLinkFault o c.args.lists.now (index_fault c.in_err-index.field-0.0) = index_told o c.args.lists.now c.in_err-index.field-0.0 has c.in_err-index.ensures.err in
    let p = err_from_is_err_and c.from_residual-in_err-index.result c.from_residual-in_err-index.ensures.1 in
    rw (p.1, p.2) told

-- what is told of the texts is told of the object
text_told : (o : Coded) (lists : NameLists) (fault : LinkFault) → IsTextsFault o fault → IsLinkFault o lists fault
text_told o lists (faults.Text sec fault) first = first
text_told o lists (faults.Special fault) first = absurd first
text_told o lists (faults.Index fault) first = absurd first
text_told o lists (faults.Site fault) first = absurd first
text_told o lists faults.NoMemory first = tt

pub returns-in_err-texts-clause-err : goal.returns-in_err-texts-clause-err
returns-in_err-texts-clause-err c =
    let o : Coded = coded_by c.args.map c.args.object.now in
    let told : IsLinkFault o c.args.lists.now c.in_err-texts.field-0.0 = text_told o c.args.lists.now c.in_err-texts.field-0.0 c.in_err-texts.ensures.fault in
    let p = err_from_is_err_and c.from_residual.result c.from_residual.ensures.1 in
    rw (p.1, p.2) told
