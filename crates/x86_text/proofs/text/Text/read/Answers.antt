use Rattle.std.proofs.Common.{◌≡◌, ◌++◌, ◌<◌, ℕ, get_or, arith, ap, ◌∙◌}
use Rattle.x86_text.specs.Code.{read_by, code_of, insns_of}
use Rattle.x86_text.specs.Listed.{IsKept}
use Rattle.x86_text.proofs.ReadLemmas.{kept_nothing, kept_all, kept_with}
use Rattle.x86_text.proofs.ListingLemmas.{listing_is_code}
use Rattle.x86_text.proofs.text.Text.read.Goals as goal

pub loop-off-init : goal.loop-off-init
loop-off-init c = kept_nothing (read_by c.args.map c.args.body.now) c.in_ok-offsets.offsets.items c.new-table_jumps.result.items c.make_room.new.self c.in_ok-offsets.ensures.items c.new-table_jumps.ensures.items

pub read_one-requires-clause-boundary : goal.read_one-requires-clause-boundary
read_one-requires-clause-boundary c =
    let known = kept_with (read_by c.args.map c.args.body.now) (λ k. omega (arith, c.type_inv.body k)) _ _ _ _ _ _ _ _ _ c.loop-off.invariant c.in_ok-off.ensures.read in
    known.read.boundary c.if-off-body.true

pub loop-off-preserved-then-off-body : goal.loop-off-preserved-then-off-body
loop-off-preserved-then-off-body c =
    let bytes : (k : ℕ) → get_or c.args.body.now k 0 < 256 = λ k. omega (arith, c.type_inv.body k) in
    let known = kept_with (read_by c.args.map c.args.body.now) bytes _ _ _ _ _ _ _ _ _ c.loop-off.invariant c.in_ok-off.ensures.read in
    kept_with (read_by c.args.map c.args.body.now) bytes _ _ _ _ _ _ _ _ _ known c.in_ok-off-2.ensures.read

pub loop-off-preserved : goal.loop-off-preserved
loop-off-preserved c = kept_with (read_by c.args.map c.args.body.now) (λ k. omega (arith, c.type_inv.body k)) _ _ _ _ _ _ _ _ _ c.loop-off.invariant c.in_ok-off.ensures.read

-- all is kept
all : (c : goal.After-loop-off) → IsKept (read_by c.args.map c.args.body.now) c.loop-off.offsets.items c.loop-off.table_jumps.items × (c.loop-off.insns ≡ c.make_room.new.self ++ insns_of (read_by c.args.map c.args.body.now))
all c = kept_all (read_by c.args.map c.args.body.now) c.loop-off.offsets.items c.loop-off.table_jumps.items c.make_room.new.self c.loop-off.insns c.loop-off.off c.loop-off.invariant c.loop-off-test.false (omega arith)

pub returns-clause-code : goal.returns-clause-code
returns-clause-code c = listing_is_code (read_by c.args.map c.args.body.now) (code_of (read_by c.args.map c.args.body.now)) (all c).0.listing

pub returns-clause-insns : goal.returns-clause-insns
returns-clause-insns c = (all c).1 ∙ ap (λ insns. insns ++ insns_of (read_by c.args.map c.args.body.now)) c.make_room.ensures

pub invariant_of-result : goal.invariant_of-result
invariant_of-result c = (all c).0
