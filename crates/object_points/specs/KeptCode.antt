-- What is kept of the code of an object, which is in order under some lists of names.
use Rattle.std.specs.Prelude.{◌≡◌, ◌≤◌, List, Some, map}
use Rattle.ot_base.specs.NameLists.{NameLists}
use Rattle.flow_defs.specs.Coded.{Coded}
use Rattle.special_sections.specs.Special.{SpecialEntries, special_of}
use Rattle.alternatives.specs.declared.texts.SectionText.{SectionText}
use Rattle.alternatives.specs.Points.{insn_of_point}
use Rattle.alternatives.specs.Sites.{AreSitesOf, SiteList}
use Rattle.alternatives.specs.Texts.{AscendBySection, text_bytes}
use Rattle.flow_defs.specs.Code.{alternatives_of, points_of_object, texts_of}
use Rattle.object_points.specs.Linked.{IsLinked}

pub record IsKept (o : Coded) (texts : List SectionText) (special : SpecialEntries) (sites : SiteList) : Type 0 where
  pub linked : (lists : NameLists) × IsLinked o lists
  pub all_texts : texts ≡ texts_of o
  pub ascending : AscendBySection texts
  pub little_text : text_bytes texts ≤ 16777216
  pub all_special : special ≡ special_of o.elf
  pub all_sites : AreSitesOf (alternatives_of o) sites.sites sites.entry_numbers
  pub all_points : sites.points ≡ points_of_object o
  pub all_insns : map (λ insn. Some insn) sites.insns ≡ map (insn_of_point (texts_of o) (alternatives_of o)) sites.points
  pub all_entries : sites.entries ≡ alternatives_of o
