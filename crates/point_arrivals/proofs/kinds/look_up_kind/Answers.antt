use Rattle.std.proofs.Common.{◌≡◌, ℕ, Bool, true, false, sym, ap, ◌∙◌}
use Rattle.flow_defs.specs.Coded.{Coded}
use Rattle.point_arrivals.specs.Straight.{is_straight_insn}
use Rattle.point_arrivals.proofs.KindOf.{kind_is, listed_is, unlisted_is}
use Rattle.point_arrivals.proofs.kinds.look_up_kind.Goals as goal

pub returns-then-is_listed : goal.returns-then-is_listed
returns-then-is_listed c = listed_is c.args.lists.now c.args.n (sym c.is_listed.ensures ∙ c.if-is_listed.true)

pub returns-then-not-ends_at_next : goal.returns-then-not-ends_at_next
returns-then-not-ends_at_next c =
    unlisted_is c.args.lists.now c.args.n (sym c.is_listed.ensures ∙ c.if-is_listed.false) (sym c.ends_at_next.ensures ∙ c.if-not-ends_at_next.true)

-- the instruction, by the points that are seen in the lists
straight_by : (o lists : Coded) (n : ℕ) (found b : Bool) → lists ≡ o → found ≡ is_straight_insn lists n → found ≡ b → is_straight_insn o n ≡ b
straight_by o lists n found b same is told = ap (λ (e : Coded). is_straight_insn e n) (sym same) ∙ sym is ∙ told

pub returns-then-is_straight_insn : goal.returns-then-is_straight_insn
returns-then-is_straight_insn c =
    kind_is c.args.lists.now c.args.n true true (sym c.is_listed.ensures ∙ c.if-is_listed.false) (sym c.ends_at_next.ensures ∙ c.if-not-ends_at_next.false)
    (straight_by c.args.lists.now c.places.result.now c.args.n c.is_straight_insn.result true c.places.ensures c.is_straight_insn.ensures c.if-is_straight_insn.true)

pub returns : goal.returns
returns c =
    kind_is c.args.lists.now c.args.n true false (sym c.is_listed.ensures ∙ c.if-is_listed.false) (sym c.ends_at_next.ensures ∙ c.if-not-ends_at_next.false)
    (straight_by c.args.lists.now c.places.result.now c.args.n c.is_straight_insn.result false c.places.ensures c.is_straight_insn.ensures c.if-is_straight_insn.false)
