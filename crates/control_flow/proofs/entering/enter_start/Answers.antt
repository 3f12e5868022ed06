-- The plain point at the place is listed, unless calls don't name it or there is none.
use Rattle.std.proofs.Common.{◌≡◌, ◌||◌, ℕ, Bool, Some, None, true, false, sym, ap, ◌∙◌}
use Rattle.std.specs.Prelude.{is_none}
use Rattle.ot_base.specs.declared.place.Place.{Place}
use Rattle.flow_defs.specs.Coded.{Coded}
use Rattle.flow_defs.specs.Arrival.{arrive}
use Rattle.flow_defs.specs.Code.{number_of, plain_point, point_at}
use Rattle.flow_defs.specs.Owners.{is_entry, owner_of_point}
use Rattle.control_flow.proofs.Listing.{kept_more, listed_more, no_number_starts, not_called, right_more}
use Rattle.control_flow.proofs.entering.enter_start.Goals as goal

-- whether calls may name it, by the points that are looked up
called_by : (own o : Coded) (entry : ℕ) (start : Place) (found b : Bool) → own ≡ o → found ≡ (is_entry own.elf start || is_none (owner_of_point own (point_at own entry))) → found ≡ b → (is_entry o.elf start || is_none (owner_of_point o (point_at o entry))) ≡ b
called_by own o entry start found b same is told = ap (λ (e : Coded). is_entry e.elf start || is_none (owner_of_point e (point_at e entry))) (sym same) ∙ sym is ∙ told

pub returns-then-not-is_called-clause-listed : goal.returns-then-not-is_called-clause-listed
returns-then-not-is_called-clause-listed c = λ q entry at same.
    let o : Coded = c.args.points.now in
    let number : number_of o (plain_point c.args.start) ≡ Some c.in-Some.entry = ap (λ (p : Coded). number_of p (plain_point c.args.start)) (sym c.places-places.ensures) ∙ sym c.number_of.ensures ∙ c.in-Some.is in
    absurd (not_called o c.args.start c.in-Some.entry number (called_by c.places-places.result.now o c.in-Some.entry c.args.start c.is_called.result false c.places-places.ensures c.is_called.ensures c.if-not-is_called.true) q entry at same)

pub returns-in_default-clause-listed : goal.returns-in_default-clause-listed
returns-in_default-clause-listed c = λ q entry at same.
    let o : Coded = c.args.points.now in
    let no : number_of o (plain_point c.args.start) ≡ None = ap (λ (p : Coded). number_of p (plain_point c.args.start)) (sym c.places-places.ensures) ∙ sym c.number_of.ensures ∙ c.in_default.is in
    absurd (no_number_starts o c.args.start no q entry at same)

pub returns-clause-right : goal.returns-clause-right
returns-clause-right c =
    let o : Coded = c.args.points.now in
    let is = called_by c.places-places.result.now o c.in-Some.entry c.args.start c.is_called.result true c.places-places.ensures c.is_called.ensures c.if-not-is_called.false in
    let number : number_of o (plain_point c.args.start) ≡ Some c.in-Some.entry = ap (λ (p : Coded). number_of p (plain_point c.args.start)) (sym c.places-places.ensures) ∙ sym c.number_of.ensures ∙ c.in-Some.is in
    let comes : c.as_slice.result.now ≡ arrive o c.args.start = c.as_slice.ensures ∙ c.in_ok-stands.ensures.points ∙ ap (λ (p : Coded). arrive p c.args.start) c.arrivals.ensures in
    right_more o c.args.entered.now.items c.enter.new.entered.items c.as_slice.result.now c.args.start c.in-Some.entry c.requires.right is number comes c.enter.ensures.long c.enter.ensures.kept

pub returns-clause-kept : goal.returns-clause-kept
returns-clause-kept c =
    let o : Coded = c.args.points.now in
    let is = called_by c.places-places.result.now o c.in-Some.entry c.args.start c.is_called.result true c.places-places.ensures c.is_called.ensures c.if-not-is_called.false in
    let number : number_of o (plain_point c.args.start) ≡ Some c.in-Some.entry = ap (λ (p : Coded). number_of p (plain_point c.args.start)) (sym c.places-places.ensures) ∙ sym c.number_of.ensures ∙ c.in-Some.is in
    let comes : c.as_slice.result.now ≡ arrive o c.args.start = c.as_slice.ensures ∙ c.in_ok-stands.ensures.points ∙ ap (λ (p : Coded). arrive p c.args.start) c.arrivals.ensures in
    kept_more o c.args.entered.now.items c.enter.new.entered.items c.as_slice.result.now c.args.start c.in-Some.entry c.requires.right is number comes c.enter.ensures.long c.enter.ensures.kept

pub returns-clause-listed : goal.returns-clause-listed
returns-clause-listed c =
    let o : Coded = c.args.points.now in
    let is = called_by c.places-places.result.now o c.in-Some.entry c.args.start c.is_called.result true c.places-places.ensures c.is_called.ensures c.if-not-is_called.false in
    let number : number_of o (plain_point c.args.start) ≡ Some c.in-Some.entry = ap (λ (p : Coded). number_of p (plain_point c.args.start)) (sym c.places-places.ensures) ∙ sym c.number_of.ensures ∙ c.in-Some.is in
    let comes : c.as_slice.result.now ≡ arrive o c.args.start = c.as_slice.ensures ∙ c.in_ok-stands.ensures.points ∙ ap (λ (p : Coded). arrive p c.args.start) c.arrivals.ensures in
    listed_more o c.args.entered.now.items c.enter.new.entered.items c.as_slice.result.now c.args.start c.in-Some.entry c.requires.right is number comes c.enter.ensures.listed
