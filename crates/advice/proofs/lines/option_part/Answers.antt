use Rattle.std.proofs.Common.{◌∙◌, ap}
use Rattle.advice.proofs.OptionPart.{first_part}
use Rattle.advice.proofs.lines.option_part.Goals as goal

pub returns : goal.returns
returns c = ap (λ part. part.now) c.unwrap_or.ensures ∙ first_part c.args.word c.split_inclusive.result c.next.new.self c.next.result c.next.ensures.steps c.split_inclusive.ensures.pattern c.split_inclusive.ensures.text
