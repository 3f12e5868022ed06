-- A call or branch inside its replacement goes to a point.
use Rattle.std.proofs.Common.{◌≡◌, Bool, true, false, Option, Some, None, refl, ap, subst, if◌then◌else◌}
use Rattle.std.specs.Prelude.{◌&&◌, not}
use Rattle.ot_base.specs.declared.place.Place.{Place}
use Rattle.ot_base.specs.Places.{same_place}
use Rattle.operation_defs.specs.declared.insn.Insn.{Insn}
use Rattle.flow_defs.specs.Coded.{Coded}
use Rattle.machine_defs.specs.declared.flow.Role.TheVariants.{Plain}
use Rattle.symbols_relocs.specs.declared.target.Target.{Target}
use Rattle.symbols_relocs.specs.declared.target.Target.TheVariants as targets
use Rattle.symbols_relocs.specs.Targets.{branch_target}
use Rattle.alternatives.specs.declared.point.Point.{Point}
use Rattle.alternatives.specs.Points.{is_point}
use Rattle.flow_defs.specs.declared.destination.Crossing.TheVariants.{MayNotCross}
use Rattle.flow_defs.specs.declared.destination.Destination.{Destination}
use Rattle.flow_defs.specs.declared.destination.Destination.TheVariants.{ToPlace, ToOwnPoint, ToNowhere}
use Rattle.flow_defs.specs.Arrival.{decoded_insn, is_padding, replacement_end, site_end}
use Rattle.flow_defs.specs.Code.{alternatives_of, is_plain, texts_of}
use Rattle.flow_defs.specs.Targets.{destination, destination_by, destination_of, displacement_of, lacks_reloc, named_destination, own_destination, relative_place, Displacement}
use Rattle.flow_defs.specs.Roles.{call_role, place_call}

-- where a destination is a point of the same replacement, that point passes the test
chosen : (other q : Point) (end : Place) (known ends : Bool) → (if known then ToOwnPoint other else if ends then ToPlace end None MayNotCross else ToNowhere) ≡ ToOwnPoint q → (known ≡ true) × (other ≡ q)
chosen other q end true ends is = (refl, cc)
chosen other q end false true is = absurd (cc)
chosen other q end false false is = absurd (cc)

own_point : (o : Coded) (from q : Point) (place : Option Place) → own_destination o from place ≡ ToOwnPoint q → is_point (texts_of o) (alternatives_of o) q ≡ true
own_point o from q None is = absurd (cc)
own_point o from q (Some place) is =
    let other : Point = record { place = place; variant = from.variant } in
    let known = chosen other q (site_end o from) (is_point (texts_of o) (alternatives_of o) other) (same_place place (replacement_end o from)) is in
    subst (λ (p : Point). is_point (texts_of o) (alternatives_of o) p ≡ true) known.1 known.0

-- no target is one
not_named : (q : Point) (t : Target) → named_destination t ≡ ToOwnPoint q → ⊥
not_named q (targets.Inside place) is = cc
not_named q (targets.Either place sym) is = cc
not_named q (targets.Outside sym) is = cc
not_named q targets.ThunkIndirect is = cc
not_named q targets.ThunkReturn is = cc
not_named q targets.Bad is = cc

either_point : (o : Coded) (q : Point) (own : Destination) (target : Target) (b : Bool) → (own ≡ ToOwnPoint q → is_point (texts_of o) (alternatives_of o) q ≡ true) → (if b then own else named_destination target) ≡ ToOwnPoint q → is_point (texts_of o) (alternatives_of o) q ≡ true
either_point o q own target true of_own is = of_own is
either_point o q own target false of_own is = absurd (not_named q target is)

displaced_point : (o : Coded) (from q : Point) (insn : Insn) (d : Option Displacement) → destination_by o from insn d ≡ ToOwnPoint q → is_point (texts_of o) (alternatives_of o) q ≡ true
displaced_point o from q insn None is = absurd (cc)
displaced_point o from q insn (Some d) is =
    either_point o q (own_destination o from (relative_place from.place insn.len d)) (branch_target o.elf from.place insn) (not (is_plain from) && lacks_reloc o.elf from.place insn.len d)
    (own_point o from q (relative_place from.place insn.len d)) is

pub within_point : (o : Coded) (from q : Point) → destination_of o from ≡ ToOwnPoint q → is_point (texts_of o) (alternatives_of o) q ≡ true
unfolding destination
within_point o from q is = displaced_point o from q (decoded_insn o from) (displacement_of (decoded_insn o from).op) is

pub role_within : (o : Coded) (from p : Point) (b : Bool) → b ≡ is_padding o p → (if b then Plain else place_call o from p.place None) ≡ call_role o from (ToOwnPoint p)
role_within o from p b is = ap (λ padding. if padding then Plain else place_call o from p.place None) is
