use Rattle.std.proofs.Common.{◌≡◌, take}
use Rattle.std.specs.Prelude.{filter, flat_map}
use Rattle.alternatives.specs.declared.texts.SectionText.{SectionText}
use Rattle.flow_defs.specs.Code.{texts_of}
use Rattle.site_lists.specs.Listed.{listed}
use Rattle.site_lists.specs.Sites.{can_have_symbol, listed_of, placed_code}
use Rattle.site_lists.proofs.code_sites.sites.Given as goal

abbrev pub invariant-loop-text : goal.invariant-loop-text
invariant-loop-text l = listed l.lists ≡ listed_of l.options l.linked (flat_map placed_code (filter (λ (t : SectionText). can_have_symbol l.linked.elf t.sec) (take l.text-index (texts_of l.linked))))
