use Rattle.std.proofs.Common.{sym, ◌∙◌, ap, refl}
use Rattle.orc_walk.specs.Memory.{Piece, pieces_of}
use Rattle.orc_walk.specs.ImageFile.{piece_fault}
use Rattle.orc_walk.proofs.SayingLemmas.{memory_fault, holds_memory}
use Rattle.orc_walk.proofs.reading.Reading.add_memory.Goals as goal

pub returns-in-Some-clause-adds : goal.returns-in-Some-clause-adds
returns-in-Some-clause-adds c = λ earlier is.
    let x : Piece = record { base = c.args.base; bytes = c.args.bytes.items } in
    memory_fault earlier c.args.self.now x is
    ∙ ap (λ bytes. piece_fault (pieces_of c.args.self.now.ranges.entries) (record { base = c.args.base; bytes = bytes })) (sym c.deref.ensures.value)
    ∙ sym c.piece_fault.ensures
    ∙ c.in-Some.is

pub returns-clause-adds : goal.returns-clause-adds
returns-clause-adds c = λ earlier is.
    let x : Piece = record { base = c.args.base; bytes = c.args.bytes.items } in (
      memory_fault earlier c.args.self.now x is
          ∙ ap (λ bytes. piece_fault (pieces_of c.args.self.now.ranges.entries) (record { base = c.args.base; bytes = bytes })) (sym c.deref.ensures.value)
          ∙ sym c.piece_fault.ensures
          ∙ c.in_default.is,
      holds_memory earlier c.args.self.now _ x is refl refl c.in_ok-add_piece.ensures.more,
    )
