-- The text of a refusal.
use Rattle.std.specs.Prelude.{ℕ, List, ◌++◌, codes}
use Rattle.std.specs.Fmt.{decimal}
use Rattle.elf_objects.specs.FaultText as elf
use Rattle.elf_objects.specs.declared.fault.ElfFault.TheVariants as fault
use Rattle.ot_base.specs.ListsFault as lists
use Rattle.ot_base.specs.PlaceText.{escaped}
use Rattle.orc_bytes.specs.FaultText as orc
use Rattle.orc_walk.specs.FaultText as placed
use Rattle.orc_walk.specs.ImageFaultText as image
use Rattle.object_points.specs.FaultText as code
use Rattle.eh_frame.specs.Texts as frames
use Rattle.site_lists.specs.FaultText as sites
use Rattle.orc_merge.specs.FaultTexts.{layout_text, merge_text, table_text}
use Rattle.command_base.specs.FlowText as flow
use Rattle.command_base.specs.declared.refusal.Refusal.{Refusal}
use Rattle.command_base.specs.declared.refusal.Refusal.TheVariants.{Malformed, Orc, Lists, Image, NoText, Unplaced, Unlinked, Unflowed, HasOrc, HasSites, Sites, HasFrames, Frames, TooMany, Layout, TooManyFiles, Merge, Table, NoFunction}

abbrev pub refusal_text : Refusal → List ℕ
refusal_text (Malformed fault) = elf.fault_text fault
refusal_text (Orc fault) = orc.fault_text fault
refusal_text (Lists fault) = lists.fault_text fault
refusal_text (Image fault) = image.fault_text fault
refusal_text (NoText sec) = codes "section " ++ decimal sec ++ codes ": no text"
refusal_text (Unplaced fault) = placed.fault_text fault
refusal_text (Unlinked told) = code.fault_text told.fault told.section.now told.body.now
refusal_text (Unflowed told) = flow.fault_text told.fault
refusal_text (HasOrc sec) = codes "section " ++ decimal sec ++ codes " is an ORC section"
refusal_text (HasSites sec) = codes "section " ++ decimal sec ++ codes " is a site list"
refusal_text (Sites fault) = sites.fault_text fault
refusal_text (HasFrames sec) = codes "section " ++ decimal sec ++ codes " is a frame section"
refusal_text (Frames fault) = frames.fault_text fault
refusal_text (TooMany what count) = elf.fault_text (fault.TooMany what count)
refusal_text (Layout fault) = layout_text fault
refusal_text (TooManyFiles count) = codes "too many files: " ++ decimal count
refusal_text (Merge fault) = merge_text fault
refusal_text (Table fault) = table_text fault
refusal_text (NoFunction name) = codes "no function " ++ escaped name.now
