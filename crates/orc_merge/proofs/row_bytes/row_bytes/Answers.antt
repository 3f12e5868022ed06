use Rattle.std.proofs.Common.{◌≡◌, Fits, w16, to_z, of_z, refl, arith, ℤ, FitsSigned}
use Rattle.std.proofs.Math.Facts.{Fits-of_z}
use Rattle.std.proofs.lemmas.Int.{of_z-to_z}
use Rattle.orc_bytes.specs.RowBytes.{bytes_of_row}
use Rattle.orc_merge.proofs.row_bytes.row_bytes.Goals as goal

-- an offset of 16 bits is written as it is
written : (z : ℤ) → FitsSigned w16 z → of_z w16 (to_z w16 (of_z w16 z)) ≡ of_z w16 z
written z h = let fits : Fits w16 (of_z w16 z) = Fits-of_z h in of_z-to_z w16 (of_z w16 z) (omega (arith, fits.fits))

pub returns : goal.returns
unfolding bytes_of_row
returns c =
    let sp = written c.args.row.now.sp_offset c.requires.sp_offset in
    let bp = written c.args.row.now.bp_offset c.requires.bp_offset in
    rw (c.write_u16.ensures, c.write_i16-2.ensures, c.write_i16.ensures, c.fields.ensures, sp, bp) refl
