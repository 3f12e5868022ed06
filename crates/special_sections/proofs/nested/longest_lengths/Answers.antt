use Rattle.std.proofs.Common.{List, get_or, max, take, ap, sym, subst, ◌∙◌}
use Rattle.std.proofs.lemmas.List.{take_more}
use Rattle.special_sections.specs.declared.entries.AltEntry.{AltEntry}
use Rattle.special_sections.specs.Longest.{AreLongest}
use Rattle.special_sections.proofs.Nesting.{lengths_with}
use Rattle.special_sections.proofs.nested.longest_lengths.Goals as goal

abbrev none : AltEntry
none = record { original = record { sec = 0; off = 0 }; replacement = record { sec = 0; off = 0 }; feature = 0; flags = 0; original_len = 0; replacement_len = 0 }

pub loop-entry-preserved : goal.loop-entry-preserved
loop-entry-preserved c =
    let entries : List AltEntry = c.args.entries.now in
    let a : AltEntry = get_or entries c.loop-entry.entry-index none in
    subst (λ list. AreLongest list c.insert.new.self) (sym (take_more entries c.loop-entry.entry-index none c.loop-entry-test.true))
    (lengths_with (take c.loop-entry.entry-index entries) a c.loop-entry.lengths c.insert.new.self c.max-longest.result c.loop-entry.invariant c.in_ok-insert.ensures.updates
    (c.max-longest.ensures ∙ ap (λ n. max n a.original_len) (c.length_at.ensures ∙ c.loop-entry.invariant.each a.original)))
