-- Plain points, by their numbers.
use Rattle.std.proofs.Common.{◌≡◌, ℕ, Option, sym, ap, ◌∙◌}
use Rattle.std.specs.Prelude.{is_some}
use Rattle.ot_base.specs.declared.place.Place.{Place}
use Rattle.alternatives.specs.Texts.{is_boundary}
use Rattle.alternatives.specs.declared.point.Point.{Point}
use Rattle.symbols_relocs.specs.Parts.{owner_at}
use Rattle.flow_defs.specs.Coded.{Coded}
use Rattle.flow_defs.specs.Code.{number_of, plain_point, point_at, texts_of}
use Rattle.flow_defs.specs.Owners.{owner_of_point}
use Rattle.point_arrivals.proofs.Aims.{has_number}

-- a place is a boundary where the plain point there has a number
pub plain_boundary : (o : Coded) (place : Place) (found : Option ℕ) → found ≡ number_of o (plain_point place) → is_some found ≡ is_boundary (texts_of o) place
plain_boundary o place found is = ap is_some is ∙ has_number o (plain_point place)

-- its owner is that of the place
pub plain_owner : (o : Coded) (place : Place) (n : ℕ) → plain_point place ≡ point_at o n → owner_of_point o (point_at o n) ≡ owner_at o.elf place
plain_owner o place n is = ap (λ (p : Point). owner_of_point o p) (sym is)
