use Rattle.std.proofs.Common.{◌≡◌, ℕ, ◌+◌, Bool, true, not, ◌&&◌, if◌then◌else◌, Option, Some, None, sym, ap, ◌∙◌}
use Rattle.std.specs.Cmp.{second_so}
use Rattle.flow_defs.specs.Coded.{Coded}
use Rattle.flow_defs.specs.Code.{point_at}
use Rattle.point_arrivals.specs.Kinds.{is_followed_kind}
use Rattle.point_arrivals.specs.Marks.{is_listed}
use Rattle.point_arrivals.specs.Straight.{ends_at_next}
use Rattle.point_arrivals.proofs.KindOf.{followed_kind}
use Rattle.point_arrivals.proofs.StraightOn.{followed}
use Rattle.point_arrivals.proofs.arrivals.PointArrivals.after_alone.Goals as goal

-- the next number, by whether the next point alone follows
abbrev next_if : ℕ → Bool → Option ℕ
next_if n alone = if alone then Some (n + 1) else None

pub returns-then-not-is_followed-clause-exact : goal.returns-then-not-is_followed-clause-exact
returns-then-not-is_followed-clause-exact c =
    sym (ap (next_if c.args.n) (sym (c.is_followed.ensures ∙ ap is_followed_kind c.kind.ensures ∙ followed_kind c.args.self.now c.args.n) ∙ c.if-not-is_followed.true))

pub returns : goal.returns
returns c =
    let o : Coded = c.args.self.now in
    let n : ℕ = c.args.n in
    let listed : Bool = is_listed o (point_at o n) in
    let told : (not listed && ends_at_next o n) ≡ true = sym (c.is_followed.ensures ∙ ap is_followed_kind c.kind.ensures ∙ followed_kind o n) ∙ c.if-not-is_followed.false in record {
      exact = sym (ap (next_if n) told);
      alone = (followed o n (second_so (not listed) (ends_at_next o n) told)).follows;
    }
