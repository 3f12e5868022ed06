use Rattle.std.proofs.Common.{ℕ, Some, drop, sym, ap, subst, ◌∙◌}
use Rattle.std.specs.Prelude.{slice_get}
use Rattle.x86_decode.specs.Decoding.{StandsInFront}
use Rattle.x86_text.specs.declared.placed.PlacedInsn.{PlacedInsn}
use Rattle.x86_text.specs.Code.{Body, code_of}
use Rattle.x86_text.proofs.NumberLemmas.{its_number, begins_inside, no_fault, gives_listed, gives_stands}
use Rattle.x86_text.proofs.text.Text.insn.Goals as goal

pub slice_bounds-decode-count : goal.slice_bounds-decode-count
slice_bounds-decode-count c = begins_inside _ _ _ (its_number _ _ _ _ _ _ c.self.invariant c.self.view_is c.requires c.index-off.ensures)

pub slice_bounds-decode-start : goal.slice_bounds-decode-start
slice_bounds-decode-start c = begins_inside _ _ _ (its_number _ _ _ _ _ _ c.self.invariant c.self.view_is c.requires c.index-off.ensures)

pub unreachable-requires : goal.unreachable-requires
unreachable-requires c = no_fault _ _ _ (its_number _ _ _ _ _ _ c.self.invariant c.self.view_is c.requires c.index-off.ensures) c.decode.result c.decode.ensures.ok _ c.in-Err.is

pub returns-clause-listed : goal.returns-clause-listed
returns-clause-listed c =
    ap (λ (b : Body). slice_get (code_of b) c.args.i) (sym c.self.view_is)
    ∙ gives_listed _ _ _ (its_number _ _ _ _ _ _ c.self.invariant c.self.view_is c.requires c.index-off.ensures) c.decode.result c.decode.ensures.ok c.in-Ok.insn c.in-Ok.is
    ∙ ap (λ (off : ℕ). let p : PlacedInsn = record { off = off; insn = c.in-Ok.insn } in Some p) (sym c.from.ensures)

pub returns-clause-stands : goal.returns-clause-stands
returns-clause-stands c =
    subst (λ (b : Body). StandsInFront b.map (drop c.from.result b.bytes) c.in-Ok.insn) c.self.view_is
    (subst (λ (off : ℕ). StandsInFront c.self.inside.map (drop off c.self.inside.body.now) c.in-Ok.insn) (sym c.from.ensures)
    (gives_stands _ _ _ (its_number _ _ _ _ _ _ c.self.invariant c.self.view_is c.requires c.index-off.ensures) c.decode.result c.decode.ensures.ok c.in-Ok.insn c.in-Ok.is))
