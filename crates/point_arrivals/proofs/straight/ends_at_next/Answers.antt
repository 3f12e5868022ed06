use Rattle.std.proofs.Common.{◌≡◌, ℕ, Bool, true, false, not, ◌&&◌, sym, ap, ◌∙◌}
use Rattle.ot_base.specs.declared.place.Place.{Place}
use Rattle.flow_defs.specs.Coded.{Coded}
use Rattle.flow_defs.specs.Code.{alternatives_of, is_plain, point_at}
use Rattle.object_points.specs.Places.{is_among}
use Rattle.point_arrivals.specs.Lists.{original_places_of}
use Rattle.point_arrivals.specs.Straight.{end_of, ends_at_next, is_next_at, may_begin_run}
use Rattle.point_arrivals.proofs.straight.ends_at_next.Goals as goal

-- a site starts where the instruction ends
abbrev site : Coded → ℕ → Bool
site o n = is_among (original_places_of (alternatives_of o)) (end_of o n)

-- by whether the next point stands there, whether a run begins, and whether a site starts there
parts : (plain next run alone b : Bool) → b ≡ (plain && next) → (b && (not run && alone)) ≡ (plain && (not run && (next && alone)))
parts true true run alone b is = ap (λ c. c && (not run && alone)) is
parts true false true alone b is = ap (λ c. c && false) is
parts true false false alone b is = ap (λ c. c && alone) is
parts false next run alone b is = ap (λ c. c && (not run && alone)) is

next_by : (o : Coded) (n : ℕ) (end : Place) (found b : Bool) → end ≡ end_of o n → found ≡ (is_plain (point_at o n) && is_next_at o n end) → found ≡ b → (b && (not (may_begin_run o (point_at o n)) && not (site o n))) ≡ ends_at_next o n
next_by o n end found b is plain told =
    parts (is_plain (point_at o n)) (is_next_at o n (end_of o n)) (may_begin_run o (point_at o n)) (not (site o n)) b
    (sym told ∙ plain ∙ ap (λ (place : Place). is_plain (point_at o n) && is_next_at o n place) is)

pub returns-then-not-is_plain_before : goal.returns-then-not-is_plain_before
returns-then-not-is_plain_before c =
    next_by c.args.places.now c.args.n c.end_of-end.result c.is_plain_before.result false c.end_of-end.ensures c.is_plain_before.ensures c.if-not-is_plain_before.true

pub returns-then-may_begin_run : goal.returns-then-may_begin_run
returns-then-may_begin_run c =
    let o : Coded = c.args.places.now in
    ap (λ b. not b && not (site o c.args.n)) (sym c.if-may_begin_run.true ∙ c.may_begin_run.ensures)
    ∙ next_by o c.args.n c.end_of-end.result c.is_plain_before.result true c.end_of-end.ensures c.is_plain_before.ensures c.if-not-is_plain_before.false

pub returns : goal.returns
returns c =
    let o : Coded = c.args.places.now in
    ap not (c.contains.ensures ∙ c.requires.originals.same c.end_of-end.result ∙ ap (is_among (original_places_of (alternatives_of o))) c.end_of-end.ensures)
    ∙ ap (λ b. not b && not (site o c.args.n)) (sym (sym c.may_begin_run.ensures ∙ c.if-may_begin_run.false))
    ∙ next_by o c.args.n c.end_of-end.result c.is_plain_before.result true c.end_of-end.ensures c.is_plain_before.ensures c.if-not-is_plain_before.false
