use Rattle.std.proofs.Common.{sym, subst, ◌∷◌}
use Rattle.std.specs.Prelude.{IsPermutation}
use Rattle.orc_walk.specs.Memory.{IsMemory, pieces_of}
use Rattle.orc_walk.proofs.PieceLemmas.{fits_from, more_memory, more_pieces, made}
use Rattle.orc_walk.proofs.ranges.add_piece.Goals as goal

pub returns-clause-memory : goal.returns-clause-memory
returns-clause-memory c =
    subst (λ es. IsMemory (pieces_of es)) (sym c.in_ok-insert.ensures.entries) (more_memory c.args.ranges.now.entries c.args.base c.args.bytes c.requires.not_empty c.requires.memory (fits_from _ _ c.requires.fits))

pub returns-clause-more : goal.returns-clause-more
returns-clause-more c =
    subst (λ es. IsPermutation (made c.args.base c.args.bytes ∷ pieces_of c.args.ranges.now.entries) (pieces_of es)) (sym c.in_ok-insert.ensures.entries) (more_pieces c.args.ranges.now.entries c.args.base c.args.bytes c.requires.not_empty c.requires.memory.not_empty (fits_from _ _ c.requires.fits).alone)
