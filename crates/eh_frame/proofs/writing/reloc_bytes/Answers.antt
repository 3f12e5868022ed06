use Rattle.std.proofs.Common.{◌≡◌, ◌+◌, ◌*◌, ◌^◌, ◌%◌, Fits, w64, to_z, of_z, refl, arith}
use Rattle.std.proofs.Math.Facts.{Fits-of_z}
use Rattle.std.proofs.lemmas.Int.{of_z-to_z}
use Rattle.orc_bytes.specs.RelocBytes.{bytes_of_reloc}
use Rattle.eh_frame.proofs.writing.reloc_bytes.Goals as goal

pub returns : goal.returns
unfolding bytes_of_reloc
returns c =
    let info : c.from.result + c.from-2.result * 2 ^ 32 % 2 ^ 64 ≡ c.args.reloc.now.kind + c.args.reloc.now.sym * 2 ^ 32 = omega arith in
    let fits : Fits w64 (of_z w64 c.args.reloc.now.addend) = Fits-of_z c.requires.addend in
    let addend : of_z w64 (to_z w64 (of_z w64 c.args.reloc.now.addend)) ≡ of_z w64 c.args.reloc.now.addend = of_z-to_z w64 (of_z w64 c.args.reloc.now.addend) (omega (arith, fits.fits)) in
    rw (c.write_i64.ensures, c.write_u64-2.ensures, c.write_u64.ensures, info, addend) refl
