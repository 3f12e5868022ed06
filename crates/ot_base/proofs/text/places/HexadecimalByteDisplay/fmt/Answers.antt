-- A byte is what `{:02x}` writes.
use Rattle.std.proofs.Common.{ℕ, ◌-◌, ◌^◌, false, [], Some, arith, ap, ◌∙◌, subst}
use Rattle.std.specs.Option.{option_map}
use Rattle.std.specs.Fmt.{DisplaysOnOk, format_spec, padded_integral, styled_digits_output}
use Rattle.std.proofs.lemmas.Fmt.{hex_byte}
use Rattle.ot_base.proofs.text.places.HexadecimalByteDisplay.fmt.Goals as goal

pub returns-clause-writes : goal.returns-clause-writes
returns-clause-writes g c =
    let b : ℕ = c.args.self.now.0 in
    let digits = ap (styled_digits_output c.in_radix.result) c.laid_out.ensures
    ∙ ap (option_map (padded_integral (format_spec 32 0 4 2 (2 ^ 64 - 1)) false [])) c.in_radix.ensures
    ∙ ap Some (hex_byte false b (omega arith)) in
    subst (λ o. DisplaysOnOk g.W.Write.write_str_gives c.args.f.now c.write.result o c.write.new.self) digits c.write.ensures.writes
