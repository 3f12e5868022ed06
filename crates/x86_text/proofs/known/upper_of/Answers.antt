use Rattle.std.proofs.Common.{◌-◌, ◌*◌, ◌%◌, ◌^◌, arith, ap, ◌∙◌}
use Rattle.x86_text.specs.Known.{upper_bytes}
use Rattle.x86_text.proofs.KnownLemmas.{moved_up}
use Rattle.x86_text.proofs.known.upper_of.Goals as goal

pub returns : goal.returns
returns c = (
  omega (arith, c.if-len-eq0.false),
  omega (arith, c.if-len-gt8.false),
  ap (λ n. upper_bytes (c.args.first * 2 ^ (64 - 8 * n) % 2 ^ 64) c.args.len) c.from.ensures
      ∙ moved_up c.args.first c.args.len (omega (arith, c.if-len-eq0.false)) (omega (arith, c.if-len-gt8.false)),
)
