use Rattle.program_model.specs.Region.{region_of}
use Rattle.program_model.proofs.Writes.{word_written, eight_written}
use Rattle.program_model.proofs.region.Region.write_word.Goals as goal

pub returns : goal.returns
returns c = record {
  only = eight_written c.args.address c.args.word c.to_le_bytes.result (region_of c.args.self.now) (region_of c.write_bytes.new.self) c.to_le_bytes.ensures c.write_bytes.ensures;
  word = λ high. word_written c.args.address c.args.word c.to_le_bytes.result (region_of c.args.self.now) (region_of c.write_bytes.new.self) c.ranges.word.fits c.to_le_bytes.ensures high c.write_bytes.ensures;
}
