-- Frames, marks and protected words of the model, as the definitions have them.
use Rattle.std.specs.Prelude.{ℕ, ◌≤◌, List, map, option_map}
use Rattle.state_defs.specs.Region.{Holds}
use Rattle.state_defs.specs.Frame.{Frame, Mark, Protected}
use Rattle.program_model.specs.declared.region.Region.{Region}
use Rattle.program_model.specs.Region.{region_of}
use Rattle.machine_model.specs.declared.frame.Frame.{Frame as OwnFrame}
use Rattle.machine_model.specs.declared.frame.Mark.{Mark as OwnMark}
use Rattle.machine_model.specs.declared.frame.Protected.{Protected as OwnProtected}
use Rattle.machine_model.specs.Slot.{slot_of}

abbrev pub mark_of : OwnMark → Mark
mark_of m = record { point = m.point; rsp = m.rsp; rbp = m.rbp; slot = option_map slot_of m.slot; ended = m.ended }

abbrev pub frame_of : OwnFrame → Frame
frame_of f = record { call = f.call; ra = f.ra; cfa = f.cfa; bp = f.bp; slot = slot_of f.slot; ac = f.ac; ended_caller = f.ended_caller; mark_caller = option_map mark_of f.mark_caller }

abbrev pub frames_of : List OwnFrame → List Frame
frames_of frames = map frame_of frames

abbrev pub protected_of : OwnProtected → Protected
protected_of w = record { at = w.at; value = w.value }

abbrev pub words_of : List OwnProtected → List Protected
words_of words = map protected_of words

-- a word lies at or above rsp, and the region holds its value there
pub record IsWordKept (rsp : ℕ) (r : Region) (word : OwnProtected) : Type 0 where
  pub above : rsp ≤ word.at
  pub holds : Holds (region_of r) word.at word.value
