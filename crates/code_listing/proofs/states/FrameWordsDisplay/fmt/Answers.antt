use Rattle.std.proofs.Common.{sym, rules}
use Rattle.ot_base.specs.RowText.{row_words}
use Rattle.code_listing.proofs.states.FrameWordsDisplay.fmt.Goals as goal

pub returns-clause-writes : goal.returns-clause-writes
unfolding row_words
returns-clause-writes g c =
    let e = c.row_of-row.ensures in
    rw (sym e.kind, sym e.top, sym e.offset, sym e.home, sym e.home_offset, sym e.signal) (search rules)
