-- What of a state is hashed: its numbers. The two states of an ended stack have none.
use Rattle.std.specs.Prelude.{[], ◌++◌, Option, Some, None, ℤ}
use Rattle.std.specs.Hash as fed
use Rattle.std.specs.Hash.{HashWrites}
use Rattle.state_defs.specs.declared.state.BpHome.{BpHome}
use Rattle.state_defs.specs.declared.state.BpHome.TheVariants.{Same, Saved}
use Rattle.state_defs.specs.declared.state.State.{State}
use Rattle.state_defs.specs.declared.state.State.TheVariants.{Live, Ended, Regs}
use Rattle.state_defs.specs.State.{depth_of}

abbrev pub saved_at : BpHome → Option ℤ
saved_at Same = None
saved_at (Saved o) = Some o

abbrev pub hashed : State → HashWrites
hashed (Live depth fp bp) = fed.i64 (depth_of depth) ++ fed.option fed.i64 fp ++ fed.option fed.i64 (saved_at bp)
hashed (Ended kind) = []
hashed (Regs full depth) = fed.bool full ++ fed.i64 depth
