use Rattle.std.proofs.Common.{◌≡◌, ℕ, ◌-◌, ◌↔◌, true, List, length, take, drop, Ok, is_some, length-drop, arith, sym, ap, ◌∙◌, subst}
use Rattle.std.proofs.lemmas.List.{take_all}
use Rattle.operation_defs.specs.declared.insn.Insn.{Insn}
use Rattle.x86_decode.specs.Decoding.{StandsInFront}
use Rattle.x86_text.specs.Code.{Body, read_by, code_of, insn_listed}
use Rattle.x86_text.specs.Listed.{IsListing}
use Rattle.x86_text.proofs.QueryLemmas.{its_listing, decodes, told_of, absent_of}
use Rattle.x86_text.proofs.text.Text.insn_at.Goals as goal

listed : (c : goal.After-ok) → c.ok.result ≡ insn_listed (code_of c.args.self.now) c.args.off
listed c =
    let body : Body = read_by c.self.inside.map c.self.inside.body.now in
    let kept : IsListing body (code_of body) = c.self.invariant.listing in
    let whole : take (length c.self.inside.body.now - c.args.off) (drop c.args.off c.self.inside.body.now) ≡ drop c.args.off c.self.inside.body.now = take_all _ _ (simp length-drop (omega arith)) in
    let stands : (insn : Insn) → (c.decode.result ≡ Ok insn) ↔ StandsInFront body.map (drop c.args.off body.bytes) insn = subst (λ (bytes : List ℕ). (insn : Insn) → (c.decode.result ≡ Ok insn) ↔ StandsInFront c.self.inside.map bytes insn) whole c.decode.ensures.ok in
    let some : is_some (insn_listed (code_of body) c.args.off) ≡ true = ap (λ (b : Body). is_some (insn_listed (code_of b) c.args.off)) c.self.view_is ∙ sym c.is_boundary.ensures.value ∙ c.if-not-is_boundary.false in
    c.ok.ensures.value
    ∙ decodes body c.args.off kept c.decode.result some stands
    ∙ ap (λ (b : Body). insn_listed (code_of b) c.args.off) c.self.view_is

pub returns-clause-listed : goal.returns-clause-listed
returns-clause-listed c = listed c

pub returns-clause-found : goal.returns-clause-found
returns-clause-found c = told_of c.args.self.now c.args.off (its_listing _ _ _ _ c.self.invariant c.self.view_is) c.ok.result (listed c)

pub returns-clause-absent : goal.returns-clause-absent
returns-clause-absent c = absent_of c.args.self.now c.args.off (its_listing _ _ _ _ c.self.invariant c.self.view_is) c.ok.result (listed c)
