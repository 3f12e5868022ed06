use Rattle.std.proofs.Common.{◌≡◌, ℕ, ◌+◌, ◌<◌, ◌≤◌, Bool, true, false, List, Some, length, refl, sym, ◌∙◌, subst, arith}
use Rattle.std.specs.Prelude.{slice_get, slice_index, slice_index_or}
use Rattle.std.proofs.lemmas.List.{get_or_default}
use Rattle.std.proofs.lemmas.Option.{slice_get_read}
use Rattle.flow_defs.specs.Coded.{Coded}
use Rattle.program_graph.specs.declared.parts.Transfer.{Transfer}
use Rattle.control_flow.specs.Listed.{count_of}
use Rattle.control_flow.specs.Numbers.{IsNumbered}
use Rattle.control_flow.specs.Transfers.{IsTransfer, IsTransferIfBack, IsTransferOf}
use Rattle.control_flow.proofs.Numbering.{numbered_at, numbered_inside, numbered_otherwise, put_behind, renumbered}
use Rattle.control_flow.proofs.Settling.{IsSettled, back_settled, none_settled, one_settled, others_settled}
use Rattle.control_flow.proofs.transfers.settle_transfers.Goals as goal

pub loop-k-init : goal.loop-k-init
loop-k-init c =
    let o : Coded = c.args.points.now in
    let returns = c.args.returns.now in
    numbered_otherwise (IsTransferIfBack o) (IsSettled o returns 0) c.args.list.transfers.items c.args.list.numbers.items (count_of o) (λ q x below is. none_settled o returns q x is)
    c.requires.list.have

pub loop-k-preserved-then-index : goal.loop-k-preserved-then-index
loop-k-preserved-then-index c =
    let o : Coded = c.args.points.now in
    let returns = c.args.returns.now in
    let k : ℕ = c.loop-k.k in
    let inside : k < length returns.comes_back.items = omega (arith, c.loop-k-test.true, c.len-k-end.ensures, c.requires.list.have.long, c.requires.returns.comes_back) in
    let back : slice_index_or returns.comes_back.items k false ≡ true = sym (c.index.ensures ∙ get_or_default returns.comes_back.items k _ false inside) ∙ c.if-index.true in
    numbered_otherwise (IsSettled o returns k) (IsSettled o returns (k + 1)) c.loop-k.transfers.items c.loop-k.numbers.items (count_of o) (λ q x below is. back_settled o returns k q x back is) c.loop-k.invariant

pub index-transfer-requires : goal.index-transfer-requires
index-transfer-requires c =
    let o : Coded = c.args.points.now in
    let k : ℕ = c.loop-k.k in
    let numbers : List ℕ = c.loop-k.numbers.items in
    let inside : k < count_of o = omega (arith, c.loop-k-test.true, c.len-k-end.ensures, c.requires.list.have.long) in
    let own : slice_index numbers k ≡ c.index-in-loop-k.result.now = sym (c.index-in-loop-k.ensures ∙ get_or_default numbers k _ 0 (omega (arith, c.loop-k.invariant.long, inside))) in
    let there = numbered_inside (IsSettled o c.args.returns.now k) c.loop-k.transfers.items numbers (count_of o) k c.index-in-loop-k.result.now c.loop-k.invariant inside own in
    omega (arith, there, c.loop-k.transfers.ok)

pub loop-k-preserved : goal.loop-k-preserved
loop-k-preserved c =
    let o : Coded = c.args.points.now in
    let returns = c.args.returns.now in
    let k : ℕ = c.loop-k.k in
    let numbers : List ℕ = c.loop-k.numbers.items in
    let before : List Transfer = c.loop-k.transfers.items in
    let after : List Transfer = c.push.new.self.items in
    let m : ℕ = c.index-in-loop-k.result.now in
    let x : Transfer = c.index-transfer.result.now in
    let other : Transfer = c.without_back.result in
    let inside : k < count_of o = omega (arith, c.loop-k-test.true, c.len-k-end.ensures, c.requires.list.have.long) in
    let in_comes : k < length returns.comes_back.items = omega (arith, inside, c.requires.returns.comes_back) in
    let never : slice_index_or returns.comes_back.items k false ≡ false = sym (c.index.ensures ∙ get_or_default returns.comes_back.items k _ false in_comes) ∙ c.if-index.false in
    let own : slice_index numbers k ≡ m = sym (c.index-in-loop-k.ensures ∙ get_or_default numbers k _ 0 (omega (arith, c.loop-k.invariant.long, inside))) in
    let there : m < length before = numbered_inside (IsSettled o returns k) before numbers (count_of o) k m c.loop-k.invariant inside own in
    let at : slice_get before m ≡ Some x = slice_get_read before (length before) m x refl there c.index-transfer.ensures in
    let settled : IsSettled o returns k k x = numbered_at (IsSettled o returns k) before numbers (count_of o) k m x c.loop-k.invariant inside own at in
    let is : IsTransferOf o returns k other = subst (λ (b : Bool). IsTransfer o k b other) (sym never) (c.without_back.ensures o k (settled.behind (omega arith))) in
    let len : c.len-in-loop-k.result ≡ length before = omega (arith, c.len-in-loop-k.ensures, c.loop-k.transfers.ok) in
    let numbered : IsNumbered before after other c.len-in-loop-k.result = subst (IsNumbered before after other) (sym len) (put_behind before after other c.in_ok-push.ensures.items) in
    renumbered (IsSettled o returns k) (IsSettled o returns (k + 1)) before after numbers (count_of o) k c.len-in-loop-k.result other c.loop-k.invariant numbered inside
    (λ q y different old. others_settled o returns k q y different old) (one_settled o returns k other is)

pub returns : goal.returns
returns c =
    let o : Coded = c.args.points.now in
    let returned = c.args.returns.now in
    let whole : count_of o ≤ c.loop-k.k = omega (arith, c.loop-k-test.false, c.len-k-end.ensures, c.requires.list.have.long) in
    numbered_otherwise (IsSettled o returned c.loop-k.k) (IsTransferOf o returned) c.loop-k.transfers.items c.loop-k.numbers.items (count_of o) (λ q x below is. is.below (omega (arith, below, whole))) c.loop-k.invariant
