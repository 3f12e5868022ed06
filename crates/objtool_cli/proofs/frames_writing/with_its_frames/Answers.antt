use Rattle.elf_objects.specs.Elf.{Elf}
use Rattle.eh_frame.specs.Framed.{framed_object}
use Rattle.objtool_cli.proofs.OneRule.{one_rule}
use Rattle.objtool_cli.proofs.frames_writing.with_its_frames.Goals as goal

pub returns-in-Ok-clause-tells : goal.returns-in-Ok-clause-tells
returns-in-Ok-clause-tells c =
    let o : Elf = framed_object c.args.object.now c.args.rows.now in
    record {
      framed = c.in-Ok.ensures.frames;
      follows = c.in-Ok.ensures.rules;
      only = λ place rule other h k. one_rule o place rule other h k;
      rules = c.rows_are_read_back.ensures o c.args.rows.now c.in-Ok.ensures.frames.holds;
    }
