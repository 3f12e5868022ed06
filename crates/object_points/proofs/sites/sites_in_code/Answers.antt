use Rattle.std.proofs.Common.{◌≡◌, [], ◌∷◌, List, length, refl, sym, ◌∙◌, arith}
use Rattle.std.proofs.lemmas.Bool.{eqb-true}
use Rattle.flow_defs.specs.Coded.{Coded}
use Rattle.alternatives.specs.declared.texts.SectionText.{SectionText}
use Rattle.object_points.proofs.AllSites.{all_sites, no_sites}
use Rattle.object_points.proofs.sites.sites_in_code.Goals as goal

none_there : (texts : List SectionText) → length texts ≡ 0 → texts ≡ []
none_there [] none = refl
none_there (t ∷ texts) none = absurd (omega arith)

pub returns-then-is_empty-clause-none : goal.returns-then-is_empty-clause-none
returns-then-is_empty-clause-none c =
    let o : Coded = c.args.linked.now in
    no_sites o (sym c.texts.ensures.value ∙ none_there c.texts.result.now (eqb-true (length c.texts.result.now) 0 (sym c.if-is_empty.ensures)))

pub returns-clause-all : goal.returns-clause-all
returns-clause-all c =
    let o : Coded = c.args.linked.now in
    record {
      all = all_sites o c.sites.result.now.sites c.sites.result.now.entry_numbers c.sites.ensures.sites c.texts.ensures.linked.1.sites;
      apart = c.sites.ensures.sites.apart;
    }
