use Rattle.std.proofs.Common.{ap, ◌∙◌}
use Rattle.std.specs.Prelude.{is_some}
use Rattle.orc_bytes.specs.Sections.{section_named}
use Rattle.site_lists.proofs.reading.has_list.Goals as goal

pub returns : goal.returns
returns c = c.is_some.ensures ∙ ap is_some (c.section_named.ensures.value ∙ ap (section_named c.args.object.now) (c.as_bytes.ensures.value ∙ c.list_name.ensures))
