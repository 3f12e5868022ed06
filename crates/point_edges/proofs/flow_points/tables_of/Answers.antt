use Rattle.std.proofs.Common.{◌≡◌, List, ap, ◌∙◌}
use Rattle.std.specs.Prelude.{Result, Ok, Err, IfOk}
use Rattle.elf_objects.specs.Elf.{Elf}
use Rattle.special_sections.specs.declared.entries.AltEntry.{AltEntry}
use Rattle.alternatives.specs.declared.texts.SectionText.{SectionText}
use Rattle.flow_defs.specs.Tables.{jump_table, table_of}
use Rattle.flow_defs.specs.Coded.{Coded}
use Rattle.flow_defs.specs.Code.{alternatives_of, texts_of}
use Rattle.point_edges.proofs.flow_points.tables_of.Goals as goal

if_ok_both : {T E : Type 0} (r : Result T E) (P Q R : T → Type 0) → ((x : T) → P x → Q x → R x) → IfOk r P → IfOk r Q → IfOk r R
if_ok_both (Ok x) P Q R f h k = f x h k
if_ok_both (Err e) P Q R f h k = tt

pub returns : goal.returns
returns c =
    let o : Coded = c.args.linked.now in
    let elf : c.index.result.now.elf ≡ o.elf = c.index.ensures in
    let texts : c.texts.result.now ≡ texts_of o = c.texts.ensures.value in
    let entries : c.sites.result.now.entries ≡ alternatives_of o = c.sites.ensures.entries in
    if_ok_both c.build.result _ _ _ (λ tables told began. record {
      entries = λ point owner.
          told point owner
          ∙ ap (λ (e : Elf). table_of e c.texts.result.now c.sites.result.now.entries point owner) elf
          ∙ ap (λ (ts : List SectionText). table_of o.elf ts c.sites.result.now.entries point owner) texts
          ∙ ap (λ (es : List AltEntry). table_of o.elf (texts_of o) es point owner) entries;
      starts = λ point.
          began point
          ∙ ap (λ (e : Elf). jump_table e c.texts.result.now c.sites.result.now.entries point) elf
          ∙ ap (λ (ts : List SectionText). jump_table o.elf ts c.sites.result.now.entries point) texts
          ∙ ap (λ (es : List AltEntry). jump_table o.elf (texts_of o) es point) entries;
    }) c.build.ensures.tables c.build.ensures.starts
