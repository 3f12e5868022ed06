-- The order in which warnings are told.
use Rattle.std.specs.Prelude.{◌≡◌, ◌<◌, ◌⊎◌, ◌<ℤ◌}
use Rattle.ot_base.specs.declared.warning.Warning.{Warning}

-- by section, offset, rule, and the two numbers
abbrev pub ComesBefore : Warning → Warning → Type 0
ComesBefore v w =
    v.place.sec < w.place.sec
    ⊎ v.place.sec ≡ w.place.sec × (v.place.off < w.place.off
    ⊎ v.place.off ≡ w.place.off × (v.rule < w.rule
    ⊎ v.rule ≡ w.rule × (v.a <ℤ w.a
    ⊎ v.a ≡ w.a × v.b <ℤ w.b)))
