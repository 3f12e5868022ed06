use Rattle.std.proofs.Common.{◌≡◌, ℕ, ◌+◌, ◌-◌, ◌<◌, ◌≤◌, ◌++◌, List, length, take, drop, Some, None, sym, ◌∙◌, ap, subst, arith}
use Rattle.std.proofs.lemmas.List.{take_rest}
use Rattle.eh_frame.specs.declared.instruction.Read.{Read}
use Rattle.eh_frame.specs.declared.rule.PlacedRule.{PlacedRule}
use Rattle.eh_frame.specs.declared.rules.Followed.{Followed}
use Rattle.eh_frame.specs.declared.state.FrameState.{FrameState}
use Rattle.eh_frame.specs.Followed.{moved_on, moved_rules, read_within, ListsRules}
use Rattle.eh_frame.specs.Rules.{after, moves}
use Rattle.eh_frame.proofs.FollowedSteps.{Progress, all_listed, drop_bytes, no_progress, one_more, read_some, stops}
use Rattle.eh_frame.proofs.GroupsRead.{AreBytes}
use Rattle.eh_frame.proofs.rules.list_rules.Goals as goal

-- what is read from an offset on
read_there : (spelled : List ℕ) (pos room : ℕ) (r : Read) → Some r ≡ read_within (take (length spelled - pos) (drop pos spelled)) room → read_within (drop pos spelled) room ≡ Some r
read_there spelled pos room r e = sym (e ∙ ap (λ (bs : List ℕ). read_within bs room) (take_rest spelled pos))

pub loop-pos-init : goal.loop-pos-init
loop-pos-init c =
    subst (λ (f : Followed). Progress c.args.sec c.args.size c.args.spelled.now 0 f c.args.rules.now.items c.args.rules.now.items) (sym c.first-followed.ensures)
    (no_progress c.args.sec c.args.size c.args.spelled.now c.args.rules.now.items)

pub returns-in_default-clause-err : goal.returns-in_default-clause-err
returns-in_default-clause-err c =
    let room : ℕ = c.args.size - c.loop-pos.followed.location in
    stops c.args.sec c.args.size c.args.spelled.now c.loop-pos.pos c.loop-pos.followed c.args.rules.now.items c.loop-pos.rules.items c.loop-pos.invariant c.loop-pos-test.true
    (sym (c.in_default.ensures ∙ ap (λ (bs : List ℕ). read_within bs (c.args.size - c.loop-pos.followed.location)) (take_rest c.args.spelled.now c.loop-pos.pos)))

pub overflow_add-pos : goal.overflow_add-pos
overflow_add-pos c =
    let further = one_more c.args.sec c.args.size c.args.spelled.now c.loop-pos.pos c.loop-pos.followed c.args.rules.now.items c.loop-pos.rules.items c.in-Some.read (λ k. (c.type_inv.spelled k).fits) c.loop-pos.invariant
    (read_there c.args.spelled.now c.loop-pos.pos (c.args.size - c.loop-pos.followed.location) c.in-Some.read c.in-Some.ensures) in
    let within = further.within in
    record { fits = omega arith }

pub loop-pos-smaller : goal.loop-pos-smaller
loop-pos-smaller c =
    let room : ℕ = c.args.size - c.loop-pos.followed.location in
    let here = c.loop-pos-test.true in
    let some = read_some (drop c.loop-pos.pos c.args.spelled.now) (c.args.size - c.loop-pos.followed.location) c.in-Some.read (drop_bytes c.loop-pos.pos c.args.spelled.now (λ k. (c.type_inv.spelled k).fits))
    (read_there c.args.spelled.now c.loop-pos.pos (c.args.size - c.loop-pos.followed.location) c.in-Some.read c.in-Some.ensures) in
    omega arith

-- what the calls give together
stepped : (r : Read) (bytes : ℕ) (state : FrameState) (f moved : Followed) → bytes ≡ moves r.instruction → state ≡ after r.instruction f.state → moved ≡ moved_on bytes state f → moved ≡ moved_on (moves r.instruction) (after r.instruction f.state) f
stepped r bytes state f moved e g h = h ∙ ap (λ (n : ℕ). moved_on n state f) e ∙ ap (λ (s : FrameState). moved_on (moves r.instruction) s f) g

pub loop-pos-preserved : goal.loop-pos-preserved
loop-pos-preserved c =
    let further = one_more c.args.sec c.args.size c.args.spelled.now c.loop-pos.pos c.loop-pos.followed c.args.rules.now.items c.loop-pos.rules.items c.in-Some.read (λ k. (c.type_inv.spelled k).fits) c.loop-pos.invariant
    (read_there c.args.spelled.now c.loop-pos.pos (c.args.size - c.loop-pos.followed.location) c.in-Some.read c.in-Some.ensures) in
    let listed : c.list_moved.new.rules.items ≡ c.loop-pos.rules.items ++ moved_rules c.args.sec (moves c.in-Some.read.instruction) c.loop-pos.followed =
    c.in_ok-list_moved.ensures ∙ ap (λ (n : ℕ). c.loop-pos.rules.items ++ moved_rules c.args.sec n c.loop-pos.followed) c.moves-bytes.ensures in
    let moved = stepped c.in-Some.read c.moves-bytes.result c.after.result c.loop-pos.followed c.moved-followed.result c.moves-bytes.ensures c.after.ensures c.moved-followed.ensures in
    subst (λ (f : Followed). Progress c.args.sec c.args.size c.args.spelled.now (c.loop-pos.pos + c.in-Some.read.len) f c.args.rules.now.items c.list_moved.new.rules.items) (sym moved)
    (subst (λ (rs : List PlacedRule). Progress c.args.sec c.args.size c.args.spelled.now (c.loop-pos.pos + c.in-Some.read.len) (moved_on (moves c.in-Some.read.instruction) (after c.in-Some.read.instruction c.loop-pos.followed.state) c.loop-pos.followed) c.args.rules.now.items rs) (sym listed) further)

pub returns-clause-ok : goal.returns-clause-ok
returns-clause-ok c =
    subst (λ (rs : List PlacedRule). ListsRules c.args.sec c.args.size c.args.spelled.now c.args.rules.now.items rs) (sym c.in_ok-list_moved-2.ensures)
    (all_listed c.args.sec c.args.size c.args.spelled.now c.loop-pos.pos c.loop-pos.followed c.args.rules.now.items c.loop-pos.rules.items c.loop-pos.invariant c.loop-pos-test.false)
