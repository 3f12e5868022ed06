use Rattle.std.proofs.Common.{refl, sym, ◌∙◌}
use Rattle.control_flow.proofs.Noted.{alike_more, first_more, has_edges, jumps_more}
use Rattle.control_flow.proofs.lone_jumps.LoneJumps.note.Goals as goal

pub returns-then-not-is_lone_jump-clause-jumps : goal.returns-then-not-is_lone_jump-clause-jumps
returns-then-not-is_lone_jump-clause-jumps c = jumps_more c.args.points.now c.args.self.now c.args.n c.requires.jumps

pub returns-in_default-clause-jumps : goal.returns-in_default-clause-jumps
returns-in_default-clause-jumps c = jumps_more c.args.points.now c.args.self.now c.args.n c.requires.jumps

pub returns-in-Some-first-clause-jumps : goal.returns-in-Some-first-clause-jumps
returns-in-Some-first-clause-jumps c = alike_more c.args.points.now c.args.self.now c.args.n c.requires.jumps _ refl c.in_ok-push.ensures.items

pub returns-in-Some-first-clause-first : goal.returns-in-Some-first-clause-first
returns-in-Some-first-clause-first c =
    has_edges c.args.points.now c.args.self.now c.args.n c.requires.jumps (c.lone_jumps_go_alike.ensures c.args.points.now) c.in-Some.start c.in-Some-first.first c.push.new.self.items
    (sym c.in-Some-first.ensures) c.in_ok-push.ensures.items (sym c.is_lone_jump.ensures ∙ c.if-not-is_lone_jump.false) (sym c.in-Some.ensures)

pub returns-clause-jumps : goal.returns-clause-jumps
returns-clause-jumps c =
    first_more c.args.points.now c.args.self.now c.args.n c.requires.jumps _ c.in-Some.start
    c.in_ok-insert.ensures.updates refl (sym c.is_lone_jump.ensures ∙ c.if-not-is_lone_jump.false) (sym c.in-Some.ensures)
