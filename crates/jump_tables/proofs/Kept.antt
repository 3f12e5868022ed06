-- What is kept of the tables.
use Rattle.std.proofs.Common.{◌≡◌, ℕ, ◌*◌, Bool, cond, ◌&&◌, nat_lt, List, Some, None, option_and_then, sym, ap, ◌∙◌}
use Rattle.std.specs.List.{list_any}
use Rattle.ot_base.specs.declared.place.Place.{Place}
use Rattle.ot_base.specs.Places.{same_place}
use Rattle.elf_objects.specs.Elf.{Elf}
use Rattle.special_sections.specs.declared.entries.AltEntry.{AltEntry}
use Rattle.alternatives.specs.declared.texts.SectionText.{SectionText}
use Rattle.jump_tables.specs.Kept.{AreStarts}
use Rattle.flow_defs.specs.TableFields.{boundary_named, checked_behind}
use Rattle.flow_defs.specs.Tables.{table_entry_at, is_table}

module _ (o : Elf) (texts : List SectionText) (entries : List AltEntry) (starts : List Place) (all : AreStarts o texts entries starts) (table : Place) (i : ℕ) (field : Place) (here : checked_behind table (8 * i) ≡ Some field) where
  -- an entry by whether the table is cut there
  pub entry_by : (b : Bool) → (nat_lt 0 i && list_any (same_place field) starts) ≡ b → table_entry_at o texts entries table i ≡ cond b None (boundary_named o texts field)
  entry_by b h =
      ap (option_and_then (λ f. cond (nat_lt 0 i && is_table o texts entries f) None (boundary_named o texts f))) here
      ∙ ap (λ t. cond (nat_lt 0 i && t) None (boundary_named o texts field)) (sym (all field))
      ∙ ap (λ t. cond t None (boundary_named o texts field)) h
