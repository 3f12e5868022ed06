use Rattle.std.proofs.Common.{◌≡◌, ◌∙◌, None, length, sym, arith}
use Rattle.elf_objects.specs.Elf.{Elf}
use Rattle.eh_frame.specs.FrameOutput.{first_frame}
use Rattle.objtool_cli.specs.Cfi.{has_frames, too_many_sections}
use Rattle.objtool_cli.proofs.frames_room.check_room.Goals as goal

pub returns-in-Some-clause-stopped : goal.returns-in-Some-clause-stopped
returns-in-Some-clause-stopped c = λ map lists order. has_frames order (sym c.in-Some.ensures.first)

pub returns-then-count-clause-stopped : goal.returns-then-count-clause-stopped
returns-then-count-clause-stopped c = λ map lists order.
    let o : Elf = c.args.object.now in
    let count : c.from-count.result ≡ length o.sections = c.from-count.ensures ∙ c.sections.ensures.value in
    let none : first_frame o ≡ None = cc in
    too_many_sections order none (omega (arith, count, c.if-count.true)) count
