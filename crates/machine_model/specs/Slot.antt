-- A slot of the model, as the definitions have it.
use Rattle.state_defs.specs.Frame.{Slot, Unsaved, SavedAt, PartialAt, FullAt}
use Rattle.machine_model.specs.declared.slot.Slot.{Slot as OwnSlot}
use Rattle.machine_model.specs.declared.slot.Slot.TheVariants as own

abbrev pub slot_of : OwnSlot → Slot
slot_of own.Unsaved = Unsaved
slot_of (own.SavedAt a) = SavedAt a
slot_of (own.PartialAt a) = PartialAt a
slot_of (own.FullAt a) = FullAt a
